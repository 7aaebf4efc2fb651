-- What the contracts of this crate say of the ends of rows and of filled columns, in the words of crates/meaning. Assumes nothing: these are definitions.
use Rattle.std.specs.Prelude.{◌≡◌, Bool, List, ◌⊎◌, ℕ, ◌+◌, ◌-◌, ◌≤◌, ◌<◌, ltb, eqb, length, get_or}
use Rattle.meaning.specs.Tests.{Is, ◌&◌, non, every}
use Rattle.meaning.specs.Table.{post, is_tree, child, level}
use Rattle.meaning.specs.Axes.{key}

-- a table that the check accepts
pub record Accepted (t : List ℕ) : Type 0 where
  pub tree : Is (is_tree t)
  pub few : length t ≤ 1024

-- every post number is below n, and no two are equal
unfoldable pub is_once : List ℕ → Bool
is_once t = every (length t) (λ r. ltb (post t r) (length t) & every r (λ q. non (eqb (post t q) (post t r))))

-- of `count` rows with these ends the first `stay` end at row i or behind it, and the others before it
pub record Stays (ends : List ℕ) (count i stay : ℕ) : Type 0 where
  pub root : 0 < stay
  pub most : stay ≤ count
  pub ended : (k : ℕ) → stay ≤ k → k < count → get_or ends k 0 < i
  pub last : i ≤ get_or ends (stay - 1) 0

-- a column in which the places `from` to n - 1 hold for each row a number that fits it, and the others are as before
pub record Filled (from n : ℕ) (Fits : ℕ → ℕ → Type 0) (before after : List ℕ) : Type 0 where
  pub size : length after ≡ length before
  pub filled : (r : ℕ) → from ≤ r → r < n → Fits r (get_or after r 0)
  pub others : (r : ℕ) → (r < from) ⊎ (n ≤ r) → get_or after r 0 ≡ get_or before r 0

-- what fits a row: its level; its parent; its key in the order of a set
abbrev pub LevelOf : List ℕ → ℕ → ℕ → Type 0
LevelOf t r v = v ≡ level t r

abbrev pub ParentOf : List ℕ → ℕ → ℕ → Type 0
ParentOf t r v = Is (child t v r)

abbrev pub KeyOf : ℕ → List ℕ → ℕ → ℕ → Type 0
KeyOf s t r v = v ≡ key s t r

-- columns that hold the level of every row, and the parent of every row but row 0
pub record HasLevels (t levels : List ℕ) : Type 0 where
  pub room : length t ≤ length levels
  pub each : (r : ℕ) → r < length t → LevelOf t r (get_or levels r 0)

pub record HasParents (t parents : List ℕ) : Type 0 where
  pub room : length t ≤ length parents
  pub each : (r : ℕ) → 0 < r → r < length t → ParentOf t r (get_or parents r 0)

-- an accepted table with the columns of its parents and levels
pub record Columns (t parents levels : List ℕ) : Type 0 where
  pub accepted : Accepted t
  pub has_parents : HasParents t parents
  pub has_levels : HasLevels t levels

-- the row behind those below p
unfoldable pub end_of : List ℕ → List ℕ → ℕ → ℕ
end_of t levels p = post t p + get_or levels p 0 + 1

-- Child, NextSibling+ and NextSibling as they are read from such columns
unfoldable pub is_parent : List ℕ → ℕ → ℕ → Bool
is_parent parents p q = non (eqb q 0) & eqb (get_or parents q 0) p

unfoldable pub is_later : List ℕ → ℕ → ℕ → Bool
is_later parents p q = non (eqb p 0) & ltb p q & eqb (get_or parents p 0) (get_or parents q 0)

unfoldable pub is_next : List ℕ → List ℕ → List ℕ → ℕ → ℕ → Bool
is_next t parents levels p q = eqb q (post t p + get_or levels p 0 + 1) & is_later parents p q
