-- Decimal digits: one more, and how many. Assumes nothing.
use mathlib.Core.Path.{◌≡◌, refl, ap}
use mathlib.Core.Bool.{Bool, true, false}
use mathlib.Core.List.{List, [], ◌∷◌, ◌++◌}
use Prim.Native.Nat.{ℕ, zero, suc, ◌+◌, ◌*◌, ◌/◌, ◌%◌, ◌≤◌, ◌<◌}
use native.Mathlib.Omega.{arith}
use lib.Dec.{ltb}
use lib.ListN.{length, length-append}
use borrow.Author.Tests.{lt-ltb, le-ltb, ltb-true, ltb-false}
use Rattle.meaning.specs.Names.{pick}
use Rattle.meaning.specs.Run.{digits, decimal}

-- 1. Digits: how many are allowed does not matter, if they are enough.
digits-any : (f g n : ℕ) → n < f → n < g → digits f n ≡ digits g n
unfolding digits pick
digits-any zero g n h k = absurd (omega (arith, h))
digits-any (suc f) zero n h k = absurd (omega (arith, k))
digits-any (suc f) (suc g) n h k = go (ltb n 10) refl (digits-any f g (n / 10))
  where
    go : (b : Bool) → ltb n 10 ≡ b → (n / 10 < f → n / 10 < g → digits f (n / 10) ≡ digits g (n / 10)) → pick b [] (digits f (n / 10)) ++ ((48 + n % 10) ∷ []) ≡ pick b [] (digits g (n / 10)) ++ ((48 + n % 10) ∷ [])
    go true e r = refl
    go false e r = let l = ltb-false n 10 e in ap (λ (x : List ℕ). x ++ ((48 + n % 10) ∷ [])) (r (omega (arith, l, h)) (omega (arith, l, k)))

pub decimal-one : (n : ℕ) → n < 10 → decimal n ≡ (48 + n % 10) ∷ []
unfolding decimal digits pick
decimal-one n h = rw (lt-ltb n 10 h)

pub decimal-more : (n : ℕ) → 10 ≤ n → decimal n ≡ decimal (n / 10) ++ ((48 + n % 10) ∷ [])
unfolding decimal digits pick
decimal-more n h = rw (le-ltb n 10 h) (ap (λ (x : List ℕ). x ++ ((48 + n % 10) ∷ [])) (digits-any n (suc (n / 10)) (n / 10) (omega (arith, h)) (omega arith)))

unfoldable tens : ℕ → ℕ
tens zero = 1
tens (suc d) = 10 * tens d

few : (d n : ℕ) → n < tens (suc d) → length (decimal n) ≤ suc d
unfolding tens
few zero n h = let e = ap length (decimal-one n h) in omega (arith, e)
few (suc d) n h = go (ltb n 10) refl (few d (n / 10))
  where
    go : (b : Bool) → ltb n 10 ≡ b → (n / 10 < tens (suc d) → length (decimal (n / 10)) ≤ suc d) → length (decimal n) ≤ suc (suc d)
    go true e r = let l = ap length (decimal-one n (ltb-true n 10 e)) in omega (arith, l)
    go false e r =
        let l = ap length (decimal-more n (ltb-false n 10 e)) in
        let a = length-append (decimal (n / 10)) ((48 + n % 10) ∷ []) in
        let s = r (omega (arith, h)) in
        omega (arith, l, a, s)

pub digits_20 : (n : ℕ) → n < 18446744073709551616 → length (decimal n) ≤ 20
unfolding tens
digits_20 n h = few 19 n (omega (arith, h))

pub digits_19 : (n : ℕ) → n < 18446744073709551616 → length (decimal (n / 10)) ≤ 19
unfolding tens
digits_19 n h = few 18 (n / 10) (omega (arith, h))
