-- `meaning::copy_over` meets its contract. Assumes nothing.
use Rattle.std.proofs.Common.{◌≡◌, length, ℕ, ◌<◌, ◌⊎◌, ⊎_elim, get_or, List, [], ◌∷◌, refl, sym, ◌∙◌, arith}
use Rattle.std.proofs.lemmas.List.{ext_get_or, get_or-set_same, get_or-set_other, get_or_read_under}
use Rattle.std.proofs.lemmas.Bool.{cases_lt}
use Rattle.meaning.proofs.copy_over.Goals as goal

-- lists of one length that agree at every place, whatever stands for no element, are equal
same : {X : Type 0} (xs ys : List X) → length xs ≡ length ys → ((k : ℕ) (d : X) → k < length xs → get_or xs k d ≡ get_or ys k d) → xs ≡ ys
same [] [] e h = refl
same [] (y ∷ ys) e h = absurd (omega (arith, e))
same (x ∷ xs) ys e h = ext_get_or x (x ∷ xs) ys e (λ k l. h k x l)

pub loop-i-init : goal.loop-i-init
loop-i-init g c = λ k d l. absurd (omega (arith, l))

pub loop-i-preserved : goal.loop-i-preserved
loop-i-preserved g c = λ k d l.
    let o = c.loop-i in
    let x = c.index-from-i.result in
    let i = o.i in
    let in_to : i < length o.to = omega (arith, o.auto.to, c.loop-i-test.true) in
    let in_from : i < length c.args.from.now = omega (arith, c.requires, c.loop-i-test.true) in
    ⊎_elim
    (λ (b : k < i). get_or-set_other o.to i k x d (omega (arith, b)) ∙ o.invariant k d b)
    (λ b. let e : k ≡ i = omega (arith, b, l) in rw e (get_or-set_same o.to i x d in_to ∙ get_or_read_under c.args.from.now i (length c.args.from.now) x d c.index-from-i.is in_from refl))
    (cases_lt k i)

pub returns : goal.returns
returns g c = same _ _ (c.loop-i.auto.to ∙ c.requires) (λ k d l. c.loop-i.invariant k d (omega (arith, l, c.loop-i.auto.to, c.loop-i-test.false)))
