-- `export::lent::write_labels` meets its contract. The loop's invariant: what is passed stands at the front. Assumes nothing.
use mathlib.Core.Path.{◌≡◌}
use Prim.Native.Nat.{◌-◌, ◌≤◌}
use lib.ListN.{length}
use Rattle.meaning.specs.Query.{firsts, no_label}
use Rattle.export.specs.Lent.{label_numbers}
use Rattle.meaning.specs.Entries.{at_front}
use Rattle.export.proofs.lent.write_labels.Given as goal

abbrev pub invariant-loop-i : goal.invariant-loop-i
invariant-loop-i l = (length l.to ≡ length l.initial.to) × (l.to ≡ at_front (label_numbers (firsts no_label l.labels l.i)) l.initial.to)
