-- `table::parent_of` meets its contract: no row that it passes is above the row. Assumes nothing.
use Rattle.std.proofs.Common.{◌<◌}
use Rattle.table.proofs.Columns.{Passed}
use Rattle.table.proofs.parent_of.Given as goal

abbrev pub invariant-loop-p : goal.invariant-loop-p
invariant-loop-p l = (l.p < l.row) × Passed l.post l.row l.p

abbrev pub decreases-loop-p : goal.decreases-loop-p
decreases-loop-p l = l.p
