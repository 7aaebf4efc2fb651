-- The axes by their codes in document 01. Assumes nothing: these are definitions.
use Rattle.std.specs.Prelude.{◌≡◌, false, Result, MatchResult, ℕ}
use Rattle.meaning.specs.Axes.{is_axis}
use Rattle.meaning.specs.declared.Axis.{Axis}
use Rattle.meaning.specs.declared.Axis.TheVariants.{Child, ChildPlus, ChildStar, NextSibling, NextSiblingPlus, NextSiblingStar, Following}
use Rattle.meaning.specs.declared.Refusal.{Refusal}
use Rattle.meaning.specs.declared.Refusal.TheVariants.{Variables}

-- the place of an axis in the table of axes
abbrev pub code_of : Axis → ℕ
code_of Child = 0
code_of ChildPlus = 1
code_of ChildStar = 2
code_of NextSibling = 3
code_of NextSiblingPlus = 4
code_of NextSiblingStar = 5
code_of Following = 6

-- the result is the axis of this code, or refusal 5 where the code is no axis
abbrev pub IsAxisOf : ℕ → Result Axis Refusal → Type 0
IsAxisOf code r = MatchResult r (λ axis. code_of axis ≡ code) (λ why. (why ≡ Variables) × (is_axis code ≡ false))
