-- `export::lent::gather_axes` meets its contract. The loop's invariant: the places passed hold the lent conditions. Assumes nothing.
use mathlib.Core.Path.{◌≡◌}
use Prim.Native.Nat.{ℕ, ◌-◌, ◌≤◌, ◌<◌}
use lib.ListN.{length, get_or}
use Rattle.meaning.specs.Query.{no-condition}
use Rattle.export.specs.Lent.{lent_axis}
use Rattle.export.proofs.lent.gather_axes.Given as goal

abbrev pub invariant-loop-i : goal.invariant-loop-i
invariant-loop-i l = (length l.out ≡ 32) × ((k : ℕ) → k < l.i → get_or l.out k no-condition ≡ lent_axis l.axes k)
