-- `export::lent::gather_labels` meets its contract. The loop's invariant: the places passed hold the lent conditions. Assumes nothing.
use mathlib.Core.Path.{◌≡◌}
use Prim.Native.Nat.{ℕ, ◌-◌, ◌≤◌, ◌<◌}
use lib.ListN.{length, get_or}
use Rattle.meaning.specs.Query.{no_label}
use Rattle.export.specs.Lent.{lent_label}
use Rattle.export.proofs.lent.gather_labels.Given as goal

abbrev pub invariant-loop-i : goal.invariant-loop-i
invariant-loop-i l = (length l.out ≡ 32) × ((k : ℕ) → k < l.i → get_or l.out k no_label ≡ lent_label l.labels k)
