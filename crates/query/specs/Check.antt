-- The tests of the query check for the axis set, over the axis conditions that count. Assumes nothing: these are definitions.
use Rattle.std.specs.Prelude.{Bool, cond, List, ℕ, eqb, length, Option, Some, None}
use Rattle.meaning.specs.Tests.{every}
use Rattle.meaning.specs.Axes.{set_of}
use Rattle.meaning.specs.Query.{axis_at}
use Rattle.meaning.specs.declared.Condition.{Condition}

-- all axes are in set s
unfoldable pub are_axes_of : List Condition → ℕ → Bool
are_axes_of cs s = every (length cs) (λ i. eqb (set_of (axis_at cs i).code) s)

-- the set of the axes, if they are in one
unfoldable pub one_set_of : List Condition → Option ℕ
one_set_of cs = cond (are_axes_of cs 1) (Some 1) (cond (are_axes_of cs 2) (Some 2) (cond (are_axes_of cs 3) (Some 3) None))
