use Rattle.std.proofs.Common.{◌+◌, ◌<◌, rules, ◌++◌, List, ℕ, length, drop, refl, sym, ap, ◌∙◌, arith}
use Rattle.std.proofs.lemmas.List.{take-append-drop}
use Rattle.meaning.specs.QueryTexts.{closed}
use Rattle.query_text.proofs.NameLaws.{name_at, bytes_more, bytes_grow, bytes_less, bytes_all, put_length, write_front, write_behind}
use Rattle.query_text.proofs.PlaceOf.{words_of}
use Rattle.query_text.proofs.names.write_names.Goals as goal

pub loop-name-init : goal.loop-name-init
unfolding closed
loop-name-init c = record { place = refl; front = refl; behind = refl }

pub slice_bounds-copy_over-end : goal.slice_bounds-copy_over-end
slice_bounds-copy_over-end c =
    let ns = c.args.names.now in
    let l = c.loop-name in
    let i = l.name-index in
    let a = bytes_grow ns i c.loop-name-test.true in
    let b = bytes_less ns (i + 1) in
    let inside : l.at + length (name_at ns i) < length l.buffer = omega (arith, a, b, l.invariant.place, l.auto.buffer, c.requires) in
    search rules

pub bounds-buffer-end : goal.bounds-buffer-end
bounds-buffer-end c =
    let ns = c.args.names.now in
    let l = c.loop-name in
    let i = l.name-index in
    let a = bytes_grow ns i c.loop-name-test.true in
    let b = bytes_less ns (i + 1) in
    let inside : l.at + length (name_at ns i) < length l.buffer = omega (arith, a, b, l.invariant.place, l.auto.buffer, c.requires) in
    let e = ap length c.copy_over.ensures in
    omega (arith, inside, put_length c.args.buffer.now l.buffer c.copy_over.new.to (name_at ns i) _ l.at inside c.copy_over.ensures l.invariant.front l.invariant.behind)

pub loop-name-preserved : goal.loop-name-preserved
loop-name-preserved c =
    let ns = c.args.names.now in
    let l = c.loop-name in
    let i = l.name-index in
    let a = bytes_grow ns i c.loop-name-test.true in
    let b = bytes_less ns (i + 1) in
    let inside : l.at + length (name_at ns i) < length l.buffer = omega (arith, a, b, l.invariant.place, l.auto.buffer, c.requires) in
    record {
      place = omega (arith, a, l.invariant.place);
      front = write_front c.args.buffer.now l.buffer c.copy_over.new.to (name_at ns i) _ l.at inside c.copy_over.ensures l.invariant.front l.invariant.behind ∙ sym (bytes_more ns i c.loop-name-test.true);
      behind = write_behind c.args.buffer.now l.buffer c.copy_over.new.to (name_at ns i) _ l.at inside c.copy_over.ensures l.invariant.front l.invariant.behind;
    }

pub returns : goal.returns
returns c =
    let l = c.loop-name in
    let e = bytes_all c.args.names.now l.name-index c.loop-name-test.false in
    sym (take-append-drop l.at l.buffer) ∙ ap (λ (x : List ℕ). x ++ drop l.at l.buffer) (l.invariant.front ∙ e) ∙ ap (λ (x : List ℕ). closed (words_of c.args.names.now) ++ x) l.invariant.behind
    ∙ ap (λ (k : ℕ). closed (words_of c.args.names.now) ++ drop k c.args.buffer.now) (l.invariant.place ∙ ap length e)
