-- `export::lent::write_axes` meets its contract. The loop's invariant: what is passed stands at the front. Assumes nothing.
use mathlib.Core.Path.{◌≡◌}
use Prim.Native.Nat.{◌-◌, ◌≤◌}
use lib.ListN.{length}
use Rattle.meaning.specs.Query.{firsts, no-condition}
use Rattle.export.specs.Lent.{axis_numbers}
use Rattle.meaning.specs.Entries.{at_front}
use Rattle.export.proofs.lent.write_axes.Given as goal

abbrev pub invariant-loop-i : goal.invariant-loop-i
invariant-loop-i l = (length l.to ≡ length l.initial.to) × (l.to ≡ at_front (axis_numbers (firsts no-condition l.axes l.i)) l.initial.to)
