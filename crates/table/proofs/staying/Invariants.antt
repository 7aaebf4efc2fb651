-- `table::staying` meets its contract: the rows passed over end before the row. Assumes nothing.
use Rattle.std.proofs.Common.{◌≤◌, ◌<◌}
use Rattle.table.proofs.Stack.{Ended}
use Rattle.table.proofs.staying.Given as goal

abbrev pub invariant-loop-stay : goal.invariant-loop-stay
invariant-loop-stay l = (0 < l.stay) × (l.stay ≤ l.count) × Ended l.ends l.count l.row l.stay

abbrev pub decreases-loop-stay : goal.decreases-loop-stay
decreases-loop-stay l = l.stay
