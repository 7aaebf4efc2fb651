-- Beginnings and ends of texts. Assumes nothing.
use Rattle.std.specs.Prelude.{◌≡◌, refl, List, [], ◌∷◌, ◌++◌, ℕ, zero, suc, ◌≤◌, ◌<◌, length, get_or, take, drop}
use Rattle.std.proofs.Common.{sym, ap, ◌∙◌, arith}
use Rattle.std.proofs.Math.Decide.{dec_lt}
use Rattle.std.proofs.Math.ListN.{get_or-eq_default}

-- a byte that is not 0 stands within the text
pub inside : (s : List ℕ) (i : ℕ) → (get_or s i 0 ≡ 0 → ⊥) → i < length s
inside s i n = go (dec_lt i (length s))
  where
    go : Dec (i < length s) → i < length s
    go (yes h) = h
    go (no h) = absurd (n (get_or-eq_default s 0 (omega arith)))

pub inside-at : (s : List ℕ) (i b : ℕ) → get_or s i 0 ≡ suc b → i < length s
inside-at s i b e = inside s i (λ z. let k : 0 ≡ suc b = sym z ∙ e in omega arith)

pub take_front : (f r : List ℕ) → take (length f) (f ++ r) ≡ f
take_front [] r = refl
take_front (x ∷ f) r = ap (λ (y : List ℕ). x ∷ y) (take_front f r)

pub take_next : (f : List ℕ) (b : ℕ) (u : List ℕ) → take (suc (length f)) (f ++ b ∷ u) ≡ f ++ b ∷ []
take_next [] b u = refl
take_next (x ∷ f) b u = ap (λ (y : List ℕ). x ∷ y) (take_next f b u)

pub at_next : (f : List ℕ) (b : ℕ) (u : List ℕ) → get_or (f ++ b ∷ u) (length f) 0 ≡ b
at_next [] b u = refl
at_next (x ∷ f) b u = at_next f b u

pub take_snoc : (s : List ℕ) (p : ℕ) → p < length s → take (suc p) s ≡ take p s ++ get_or s p 0 ∷ []
take_snoc [] p h = absurd (omega arith)
take_snoc (x ∷ s) zero h = refl
take_snoc (x ∷ s) (suc p) h = ap (λ (y : List ℕ). x ∷ y) (take_snoc s p (omega arith))

pub take-few : (n : ℕ) (s : List ℕ) → n ≤ length s → length (take n s) ≡ n
take-few zero s h = refl
take-few (suc n) [] h = absurd (omega arith)
take-few (suc n) (x ∷ s) h = ap suc (take-few n s (omega arith))

pub take-drop : (s : List ℕ) (p : ℕ) → s ≡ take p s ++ drop p s
take-drop s zero = refl
take-drop [] (suc p) = refl
take-drop (x ∷ s) (suc p) = ap (λ (y : List ℕ). x ∷ y) (take-drop s p)
