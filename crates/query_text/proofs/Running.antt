-- The machine run along a text by its places. Assumes nothing.
use mathlib.Core.Path.{◌≡◌, refl, sym, ap, ◌∙◌}
use mathlib.Core.Bool.{Bool, true, false}
use mathlib.Core.List.{List, [], ◌∷◌}
use Prim.Native.Nat.{ℕ, zero, suc, ◌+◌, ◌≤◌, ◌<◌}
use native.Mathlib.Nat.{not-suc-le-zero}
use native.Mathlib.Omega.{arith}
use lib.ListN.{length, get_or, drop}
use Rattle.meaning.specs.Texts.{pick, Place, legal, bad}
use Rattle.meaning.specs.Places.{next, place}
use Rattle.meaning.specs.QueryTexts.{query}
use Rattle.std.specs.Prelude.{Ok, Err}
use Rattle.meaning.specs.declared.Refusal.TheVariants.{QueryText}
use Rattle.query_text.specs.Machine.{step, stopped, finished, found}
use Rattle.query_text.proofs.Steps.{not_stop, not_end}
use Rattle.query_text.proofs.Moves.{run, machine_is}
use Rattle.query_text.specs.declared.machine.Now.{Now}
use Rattle.query_text.specs.declared.machine.Now.TheVariants.{Start, Stop, End}

-- a place, counted from i bytes before
unfoldable pub on : ℕ → Place → Place
on i legal = legal
on i (bad p) = bad (i + p)

on-zero : (v : Place) → v ≡ on 0 v
unfolding on
on-zero legal = refl
on-zero (bad p) = ap bad (let e : p ≡ 0 + p = omega arith in e)

on-next : (i : ℕ) (v : Place) → on i (next v) ≡ on (i + 1) v
unfolding on next
on-next i legal = refl
on-next i (bad p) = ap bad (let e : i + suc p ≡ i + 1 + p = omega arith in e)

-- the rest of a text from place i
drop-one : (s : List ℕ) (i : ℕ) → i < length s → drop i s ≡ get_or s i 0 ∷ drop (suc i) s
drop-one [] i l = absurd (not-suc-le-zero l)
drop-one (b ∷ s) zero l = refl
drop-one (b ∷ s) (suc i) l = drop-one s i (omega arith)

drop_all : (s : List ℕ) (i : ℕ) → length s ≤ i → drop i s ≡ []
drop_all [] zero l = refl
drop_all [] (suc i) l = refl
drop_all (b ∷ s) zero l = absurd (not-suc-le-zero l)
drop_all (b ∷ s) (suc i) l = drop_all s i (omega arith)

-- the place of the whole is the machine's from place i in state q
abbrev pub At : List ℕ → Now → ℕ → Type 0
At s q i = place query s ≡ on i (run q (drop i s))

pub at-start : (s : List ℕ) → At s Start 0
at-start s = machine_is s ∙ on-zero _

turn : (s : List ℕ) (q : Now) (i : ℕ) → i < length s → run q (drop i s) ≡ pick (stopped (step q (get_or s i 0))) (bad 0) (next (run (step q (get_or s i 0)) (drop (suc i) s)))
unfolding run
turn s q i l = ap (run q) (drop-one s i l)

pub at_stop : (s : List ℕ) (q r : Now) (i : ℕ) → At s q i → i < length s → r ≡ step q (get_or s i 0) → r ≡ Stop → Err (QueryText i) ≡ found (place query s)
unfolding on pick stopped found
at_stop s q r i a l e t =
    let k : stopped (step q (get_or s i 0)) ≡ true = ap stopped (sym e ∙ t) in
    let n : i ≡ i + 0 = omega arith in
    ap (λ (p : ℕ). Err (QueryText p)) n ∙ sym (ap found (a ∙ ap (on i) (turn s q i l ∙ ap (λ (z : Bool). pick z (bad 0) (next (run (step q (get_or s i 0)) (drop (suc i) s)))) k)))

pub at_next : (s : List ℕ) (q r : Now) (i : ℕ) → At s q i → i < length s → r ≡ step q (get_or s i 0) → (r ≡ Stop → ⊥) → At s r (i + 1)
unfolding pick
at_next s q r i a l e t =
    let k : stopped (step q (get_or s i 0)) ≡ false = ap stopped (sym e) ∙ sym (not_stop r t) in
    let n : suc i ≡ i + 1 = omega arith in
    a ∙ ap (on i) (turn s q i l ∙ ap (λ (z : Bool). pick z (bad 0) (next (run (step q (get_or s i 0)) (drop (suc i) s)))) k)
    ∙ on-next i _ ∙ ap (λ (x : Now). on (i + 1) (run x (drop (suc i) s))) (sym e) ∙ ap (λ (j : ℕ). on (i + 1) (run r (drop j s))) n

end_is : (s : List ℕ) (q : Now) (i : ℕ) → At s q i → length s ≤ i → place query s ≡ on i (pick (finished q) legal (bad 0))
unfolding run
end_is s q i a l = a ∙ ap (λ (t : List ℕ). on i (run q t)) (drop_all s i l)

pub at_legal : (s : List ℕ) (q : Now) (i : ℕ) → At s q i → length s ≤ i → q ≡ End → Ok tt ≡ found (place query s)
unfolding on pick finished found
at_legal s q i a l e = sym (ap found (end_is s q i a l ∙ ap (λ (r : Now). on i (pick (finished r) legal (bad 0))) e))

pub at_early : (s : List ℕ) (q : Now) (i : ℕ) → At s q i → length s ≤ i → i ≤ length s → (q ≡ End → ⊥) → Err (QueryText (length s)) ≡ found (place query s)
unfolding on pick found
at_early s q i a l m t =
    let n : length s ≡ i + 0 = omega arith in
    ap (λ (p : ℕ). Err (QueryText p)) n ∙ sym (ap found (end_is s q i a l ∙ ap (λ (z : Bool). on i (pick z legal (bad 0))) (sym (not_end q t))))
