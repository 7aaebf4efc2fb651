use mathlib.Core.Path.{◌≡◌}
use Prim.Native.Nat.{suc, ◌+◌, ◌≤◌}
use lib.ListN.{length}
use Rattle.search.proofs.print_sentences.Given as goal

abbrev pub invariant-loop-n : goal.invariant-loop-n
invariant-loop-n l = (l.sentence + length l.left ≤ suc (length l.text)) × (length l.post ≡ 1024) × (length l.label ≡ 1024)

abbrev pub decreases-loop-n : goal.decreases-loop-n
decreases-loop-n l = length l.left
