-- The bytes that a form may start with, and what follows for places. Assumes nothing.
use mathlib.Core.Path.{◌≡◌, refl, sym, ap, ◌∙◌}
use mathlib.Core.Bool.{Bool, true, false, false≢true}
use mathlib.Core.Logic.{⊎_elim}
use mathlib.Core.List.{List, [], ◌∷◌, ◌++◌}
use Prim.Native.Nat.{ℕ, zero, suc, ◌-◌}
use native.Mathlib.Omega.{arith}
use lib.Dec.{leb, ltb, eqb}
use borrow.Author.Tests.{leb-true, leb-false, ltb-true, lt-ltb, eq-eqb, ne_eqb}
use Rattle.meaning.specs.Tests.{Is, ◌&◌, ◌or◌}
use Rattle.meaning.specs.Texts.{pick, Range, ◌to◌, within, among, Form, none, empty, byte, ◌then◌, ◌∣◌, many, Has, up_to, Place, bad}
use Rattle.meaning.specs.Places.{ends, alive, after, next, place}
use Rattle.query_text.specs.Machine.{more}
use Rattle.query_text.proofs.After.{both_l, both_r, first, second, either, ends_in, alive_out, after_out, times_in, no_byte, same_byte}
use Rattle.query_text.proofs.PlaceLaws.{place_or, place_byte, place_many, further_of, further_zero, zero_further, glue}

-- ranges with no byte in common
unfoldable pub apart_from : Range → List Range → Bool
apart_from r [] = true
apart_from (a to z) ((c to d) ∷ qs) = (ltb z c or ltb d a) & apart_from (a to z) qs

unfoldable pub apart : List Range → List Range → Bool
apart [] qs = true
apart (r ∷ rs) qs = apart_from r qs & apart rs qs

apart-one : (r : Range) (qs : List Range) (b : ℕ) → Is (apart_from r qs) → Is (within r b) → Is (among qs b) → ⊥
unfolding apart_from among within
apart-one r [] b h k l = false≢true l
apart-one (a to z) ((c to d) ∷ qs) b h k l =
    ⊎_elim
    (λ m. let p = leb-true a b (both_l _ _ k) in let q = leb-true b z (both_r _ _ k) in let p' = leb-true c b (both_l _ _ m) in let q' = leb-true b d (both_r _ _ m) in
    ⊎_elim (λ x. let y = ltb-true z c x in omega arith) (λ x. let y = ltb-true d a x in omega arith) (either _ _ (both_l _ _ h)))
    (λ m. apart-one (a to z) qs b (both_r _ _ h) k m)
    (either _ _ l)

pub apart_is : (rs qs : List Range) (b : ℕ) → Is (apart rs qs) → Is (among rs b) → Is (among qs b) → ⊥
unfolding apart among
apart_is [] qs b h k l = false≢true k
apart_is (r ∷ rs) qs b h k l = ⊎_elim (λ m. apart-one r qs b (both_l _ _ h) m l) (λ m. apart_is rs qs b (both_r _ _ h) m l) (either _ _ k)

-- the bytes that a text of the form may start with
unfoldable pub starts : Form → List Range
starts none = []
starts empty = []
starts (byte rs) = rs
starts (f then g) = pick (ends f) (starts f ++ starts g) (starts f)
starts (f ∣ g) = starts f ++ starts g
starts (many f) = starts f

among_l : (rs qs : List Range) (b : ℕ) → Is (among rs b) → Is (among (rs ++ qs) b)
unfolding among
among_l [] qs b h = absurd (false≢true h)
among_l (r ∷ rs) qs b h = ⊎_elim (λ k. first _ _ k) (λ k. second _ _ (among_l rs qs b k)) (either _ _ h)

among_r : (rs qs : List Range) (b : ℕ) → Is (among qs b) → Is (among (rs ++ qs) b)
unfolding among
among_r [] qs b h = h
among_r (r ∷ rs) qs b h = second _ _ (among_r rs qs b h)

starts_is : (f : Form) (b : ℕ) (t s : List ℕ) → t ≡ b ∷ s → Has f t → Is (among (starts f) b)
unfolding starts Has pick ◌&◌ ◌or◌
starts_is none b t s e h = absurd h
starts_is empty b t s e h = absurd (no_byte b s (sym e ∙ h))
starts_is (byte rs) b t s e h = ap (among rs) (sym (same_byte h.0 b [] s (sym h.1 ∙ e)).0) ∙ h.2
starts_is (f then g) b t s e h = go h.0 h.1 (sym h.2 ∙ e) h.3 h.4 (λ t s. starts_is f b t s) (λ t s. starts_is g b t s)
  where
    front : (z : Bool) → Is (among (starts f) b) → Is (among (pick z (starts f ++ starts g) (starts f)) b)
    front true k = among_l (starts f) (starts g) b k
    front false k = k

    go : (a c : List ℕ) → a ++ c ≡ b ∷ s → Has f a → Has g c
        → ((t s : List ℕ) → t ≡ b ∷ s → Has f t → Is (among (starts f) b)) → ((t s : List ℕ) → t ≡ b ∷ s → Has g t → Is (among (starts g) b))
        → Is (among (pick (ends f) (starts f ++ starts g) (starts f)) b)
    go [] c q k l p r = rw (ends_in f [] refl k) (among_r (starts f) (starts g) b (r c s q l))
    go (x ∷ a) c q k l p r = let y = same_byte x b (a ++ c) s q in front (ends f) (p (x ∷ a) a (ap (λ (z : ℕ). z ∷ a) y.0) k)
starts_is (f ∣ g) b t s e h = ⊎_elim (λ k. among_l (starts f) (starts g) b (starts_is f b t s e k)) (λ k. among_r (starts f) (starts g) b (starts_is g b t s e k)) h
starts_is (many f) b t s e h = let y = times_in f b h.0 t s e h.1 in starts_is f b (b ∷ y.0) y.0 refl y.3

-- a byte that the form does not start with
pub place-refused : (f : Form) (b : ℕ) (s : List ℕ) → (Is (among (starts f) b) → ⊥) → place f (b ∷ s) ≡ bad 0
unfolding place pick ◌&◌ ◌or◌
place-refused f b s h = go (alive (after b f)) refl
  where
    go : (z : Bool) → alive (after b f) ≡ z → pick z (next (place (after b f) s)) (bad 0) ≡ bad 0
    go true e = let t = alive_out _ e in absurd (h (starts_is f b (b ∷ t.0) t.0 refl (after_out f b t.0 t.1)))
    go false e = refl

pub refused : (rs : List Range) (f : Form) (b : ℕ) (s : List ℕ) → Is (apart rs (starts f)) → Is (among rs b) → place f (b ∷ s) ≡ bad 0
refused rs f b s h k = place-refused f b s (apart_is rs (starts f) b h k)

-- one form or another, which start apart: the one or the other
pub place_either : (rs : List Range) (f g : Form) (b : ℕ) (s : List ℕ) → Is (alive f) → Is (apart rs (starts g))
    → place ((byte rs then f) ∣ g) (b ∷ s) ≡ pick (among rs b) (next (place f s)) (place g (b ∷ s))
unfolding pick ◌&◌ ◌or◌
place_either rs f g b s a h = place_or _ _ (b ∷ s) ∙ ap (λ (v : Place). further_of v (place g (b ∷ s))) (place_byte rs f b s a) ∙ go (among rs b) refl
  where
    go : (z : Bool) → among rs b ≡ z → further_of (pick z (next (place f s)) (bad 0)) (place g (b ∷ s)) ≡ pick z (next (place f s)) (place g (b ∷ s))
    go true e = ap (further_of (next (place f s))) (refused rs g b s h e) ∙ further_zero _
    go false e = zero_further _

-- any number of bytes, and then a form that starts apart
pub place-any : (rs : List Range) (f : Form) (b : ℕ) (s : List ℕ) → Is (alive f) → Is (apart rs (starts f))
    → place (many (byte rs) then f) (b ∷ s) ≡ pick (among rs b) (next (place (many (byte rs) then f) s)) (place f (b ∷ s))
unfolding pick ◌&◌ ◌or◌ glue alive
place-any rs f b s a h = place_many (byte rs) f (b ∷ s) ∙ ap (further_of (place f (b ∷ s))) (place_byte rs (many (byte rs) then f) b s a) ∙ go (among rs b) refl
  where
    go : (z : Bool) → among rs b ≡ z → further_of (place f (b ∷ s)) (pick z (next (place (many (byte rs) then f) s)) (bad 0)) ≡ pick z (next (place (many (byte rs) then f) s)) (place f (b ∷ s))
    go true e = ap (λ (v : Place). further_of v (next (place (many (byte rs) then f) s))) (refused rs f b s h e) ∙ zero_further _
    go false e = further_zero _

-- up to n bytes, and then a form that starts apart
alive_up : (rs : List Range) (n : ℕ) (f : Form) → Is (alive f) → Is (alive (glue (up_to n (byte rs)) f))
unfolding up_to glue alive
alive_up rs zero f a = a
alive_up rs (suc n) f a = first _ _ a

pub place_up : (rs : List Range) (n : ℕ) (f : Form) (b : ℕ) (s : List ℕ) → Is (alive f) → Is (apart rs (starts f))
    → place (glue (up_to n (byte rs)) f) (b ∷ s) ≡ pick (more n (among rs b)) (next (place (glue (up_to (n - 1) (byte rs)) f) s)) (place f (b ∷ s))
unfolding pick ◌&◌ ◌or◌ glue up_to more
place_up rs zero f b s a h = refl
place_up rs (suc n) f b s a h = place_or _ _ (b ∷ s) ∙ ap (further_of (place f (b ∷ s))) (place_byte rs G b s (alive_up rs n f a)) ∙ go (among rs b) refl
  where
    G : Form
    G = glue (up_to n (byte rs)) f

    down : suc n - 1 ≡ n
    down = omega arith

    go : (z : Bool) → among rs b ≡ z → further_of (place f (b ∷ s)) (pick z (next (place G s)) (bad 0))
        ≡ pick (ltb 0 (suc n) & z) (next (place (glue (up_to (suc n - 1) (byte rs)) f) s)) (place f (b ∷ s))
    go true e = let l : ltb 0 (suc n) ≡ true = lt-ltb 0 (suc n) (omega arith) in rw (l, down) (ap (λ (v : Place). further_of v (next (place G s))) (refused rs f b s h e) ∙ zero_further _)
    go false e = let l : ltb 0 (suc n) ≡ true = lt-ltb 0 (suc n) (omega arith) in rw l (further_zero _)

-- one byte
pub among_one : (c b : ℕ) → among ((c to c) ∷ []) b ≡ eqb b c
unfolding among within pick ◌&◌ ◌or◌
among_one c b = go (leb c b) (leb b c) refl refl
  where
    go : (x y : Bool) → leb c b ≡ x → leb b c ≡ y → ((x & y) or false) ≡ eqb b c
    go true true e d = let l = leb-true c b e in let m = leb-true b c d in sym (eq-eqb b c (omega arith))
    go true false e d = let m = leb-false b c d in sym (ne_eqb b c (λ q. omega arith))
    go false y e d = let m = leb-false c b e in sym (ne_eqb b c (λ q. omega arith))
