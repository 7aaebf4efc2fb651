use Rattle.std.proofs.Common.{◌≡◌, ℕ, ◌+◌, ◌*◌, ◌-◌, length, map, take, drop, subst, arith}
use Rattle.std.proofs.lemmas.List.{length-take, length-drop}
use Rattle.meaning.specs.Run.{decimal, line, tuple_lines}
use Rattle.search.specs.Wrote.{Wrote, chunks}
use Rattle.search.proofs.Stores.{wrote_length, tuples-start, tuples-more, one_more}
use Rattle.search.proofs.lines.put_tuples.Goals as goal

pub loop-j-init : goal.loop-j-init
loop-j-init c = (tuples-start c.args.sentence c.args.k c.args.found.now c.args.out.now)

pub overflow_mul-j : goal.overflow_mul-j
overflow_mul-j c = let l = c.loop-j in let m = one_more l.j c.args.n c.args.k c.loop-j-test.true in omega (arith, m, c.requires.1, c.well_formed)

pub put_tuple-at-requires : goal.put_tuple-at-requires
put_tuple-at-requires c =
    let l = c.loop-j in
    let w = l.invariant in
    let from = l.j * c.args.k in
    let o = one_more l.j c.args.n ((c.args.k + 1) * 21) c.loop-j-test.true in
    omega (arith, length-take (from + c.args.k - from) (drop from c.args.found.now), o, w.behind, w.few, wrote_length _ _ _ _ _ _ w, c.requires.0)

pub loop-j-preserved : goal.loop-j-preserved
loop-j-preserved c =
    let a = c.args in
    let l = c.loop-j in
    let p = c.put_tuple-at in
    let from = l.j * a.k in
    let xs = drop from a.found.now in
    let m = one_more l.j a.n a.k c.loop-j-test.true in
    let e : from + a.k - from ≡ a.k = omega arith in
    let u : length (take a.k xs) ≡ a.k = omega (arith, length-take a.k xs, length-drop from a.found.now, m, c.requires.1) in
    let w = subst (λ (i : ℕ). Wrote l.out l.at ((length (take i xs) + 1) * 21) (line a.sentence (map decimal (take i xs))) p.new.out p.result) e p.ensures in
    tuples-more a.sentence a.k l.j a.found.now _ _ _ _ _ l.invariant
    (subst (λ (i : ℕ). Wrote l.out l.at ((i + 1) * 21) (line a.sentence (map decimal (take a.k xs))) p.new.out p.result) u w)

pub shape_of-out : goal.shape_of-out
shape_of-out c = wrote_length _ _ _ _ _ _ c.loop-j.invariant

pub returns : goal.returns
returns c = let l = c.loop-j in let e : l.j ≡ c.args.n = omega arith in subst (λ (n : ℕ). Wrote c.args.out.now 0 (n * ((c.args.k + 1) * 21)) (tuple_lines c.args.sentence (chunks c.args.k n c.args.found.now)) l.out l.at) e l.invariant
