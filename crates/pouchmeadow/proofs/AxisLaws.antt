-- The axis test of any two columns, any code and any two numbers for rows. Assumes nothing.
use mathlib.Core.Path.{◌≡◌, refl, sym, ap, ◌∙◌}
use mathlib.Core.Bool.{Bool, true, false}
use mathlib.Core.List.{List, [], ◌∷◌}
use Prim.Native.Nat.{ℕ, ◌≤◌, ◌<◌}
use native.Mathlib.Omega.{arith}
use lib.ListN.{length}
use borrow.Author.Tests.{lt-ltb, le-ltb}
use Rattle.meaning.specs.Tests.{◌&◌, non}
use Rattle.meaning.specs.Table.{is_sized, is_numbered, is_nested, is_tree}
use Rattle.meaning.specs.Axes.{axes, is_axis, axis_holds}
use Rattle.meaning.specs.Entries.{◌when◌, lowest, table_grounds, table_says, table_answer}
use Rattle.std.specs.Prelude.{Result, Ok, Err}
use Rattle.meaning.specs.AxisCodes.{code_of}
use Rattle.meaning.specs.declared.Axis.{Axis}
use Rattle.meaning.specs.declared.Axis.TheVariants.{Child, ChildPlus, ChildStar, NextSibling, NextSiblingPlus, NextSiblingStar, Following}
use Rattle.meaning.specs.declared.Refusal.{Refusal}
use Rattle.meaning.specs.declared.Refusal.TheVariants.{Columns, PostNumbers, ThreeRows}
use Rattle.pouchmeadow.specs.Promised.{axis_among, axis_on}

-- whether the table is taken
unfoldable taken : Result (Unit {0}) Refusal → Bool
taken (Ok u) = true
taken (Err r) = false

taken_by : (a b c : Bool) → taken (table_says (lowest ((Columns when non a) ∷ (PostNumbers when non b) ∷ (ThreeRows when non c) ∷ []))) ≡ a & (b & c)
unfolding taken table_says lowest non ◌&◌
taken_by false b c = refl
taken_by true false c = refl
taken_by true true false = refl
taken_by true true true = refl

module _ (t l : List ℕ) (code p q : ℕ) where
  taken_is : taken (table_answer t l) ≡ is_sized t l & is_tree t
  unfolding table_answer table_grounds is_tree
  taken_is = taken_by (is_sized t l) (is_numbered t) (is_nested t)

  from_tests : (a b x : Bool) → a & (b & x) ≡ (a & b) & x
  unfolding ◌&◌
  from_tests true b x = refl
  from_tests false b x = refl

  pub on_tree : table_answer t l ≡ Ok tt → axis_among t code p q ≡ axis_on t l code p q
  unfolding axis_on taken ◌&◌
  on_tree e = sym (from_tests (is_sized t l) (is_tree t) (axis_among t code p q) ∙ ap (λ b. b & axis_among t code p q) (sym taken_is ∙ ap taken e))

  pub on-refused : (r : Refusal) → table_answer t l ≡ Err r → false ≡ axis_on t l code p q
  unfolding axis_on taken ◌&◌
  on-refused r e = sym (from_tests (is_sized t l) (is_tree t) (axis_among t code p q) ∙ ap (λ b. b & axis_among t code p q) (sym taken_is ∙ ap taken e))

-- where the code is no axis, or a row is outside the tree
pub no-axis : (t : List ℕ) (code p q : ℕ) → is_axis code ≡ false → false ≡ axis_among t code p q
unfolding axis_among ◌&◌
no-axis t code p q h = rw h refl

-- the code of an axis is one of the seven
pub code_most : (a : Axis) (code : ℕ) → code_of a ≡ code → code ≤ 6
code_most Child code e = omega (arith, e)
code_most ChildPlus code e = omega (arith, e)
code_most ChildStar code e = omega (arith, e)
code_most NextSibling code e = omega (arith, e)
code_most NextSiblingPlus code e = omega (arith, e)
code_most NextSiblingStar code e = omega (arith, e)
code_most Following code e = omega (arith, e)

pub no_row : (t : List ℕ) (code p q : ℕ) → code ≤ 6 → length t ≤ p → false ≡ axis_among t code p q
unfolding axis_among is_axis axes ◌&◌
no_row t code p q h l = let k : code < 7 = omega (arith, h) in rw (lt-ltb code 7 k, le-ltb p (length t) l) refl

pub no_second_row : (t : List ℕ) (code p q : ℕ) → code ≤ 6 → p < length t → length t ≤ q → false ≡ axis_among t code p q
unfolding axis_among is_axis axes ◌&◌
no_second_row t code p q h m l = let k : code < 7 = omega (arith, h) in rw (lt-ltb code 7 k, lt-ltb p (length t) m, le-ltb q (length t) l) refl

pub among_is : (t : List ℕ) (code p q : ℕ) → code ≤ 6 → p < length t → q < length t → axis_holds t code p q ≡ axis_among t code p q
unfolding axis_among is_axis axes ◌&◌
among_is t code p q h m l = let k : code < 7 = omega (arith, h) in rw (lt-ltb code 7 k, lt-ltb p (length t) m, lt-ltb q (length t) l) refl
