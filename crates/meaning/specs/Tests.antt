-- Tests that compute: true or false, of numbers below n. Assumes nothing: these are definitions.
use Rattle.std.specs.Prelude.{◌≡◌, Bool, true, false, cond, List, [], ◌∷◌, ℕ, zero, suc, ◌+◌, ltb}

-- a test is passed
abbrev pub Is : Bool → Type 0
Is b = b ≡ true

infixr 35 ◌&◌
infixr 30 ◌or◌
unfoldable pub ◌&◌ : Bool → Bool → Bool
true & b = b
false & b = false

unfoldable pub ◌or◌ : Bool → Bool → Bool
true or b = true
false or b = b

unfoldable pub non : Bool → Bool
non true = false
non false = true

-- every number below n passes p
unfoldable pub every : ℕ → (ℕ → Bool) → Bool
every zero p = true
every (suc n) p = p n & every n p

-- some number below n passes p
unfoldable pub some : ℕ → (ℕ → Bool) → Bool
some zero p = false
some (suc n) p = p n or some n p

-- how many numbers below n pass p
abbrev pub one : Bool → ℕ
one true = 1
one false = 0

unfoldable pub count : ℕ → (ℕ → Bool) → ℕ
count zero p = 0
count (suc n) p = one (p n) + count n p

-- the sum of f over the numbers below n
unfoldable pub sum : ℕ → (ℕ → ℕ) → ℕ
sum zero f = 0
sum (suc n) f = f n + sum n f

-- of the numbers below n that pass p, the one with the smallest key, where there is one
pub data Found : Type 0 where
  none : Found
  at : ℕ → Found

abbrev pub smaller : (ℕ → ℕ) → ℕ → Found → Found
smaller key r none = at r
smaller key r (at s) = cond (ltb (key r) (key s)) (at r) (at s)

unfoldable pub least : (ℕ → ℕ) → ℕ → (ℕ → Bool) → Found
least key zero p = none
least key (suc n) p = let f = least key n p in cond (p n) (smaller key n f) f

-- k values of f, from i on, as a list
unfoldable pub tab : {A : Type 0} → (ℕ → A) → ℕ → ℕ → List A
tab f i zero = []
tab f i (suc k) = f i ∷ tab f (suc i) k
