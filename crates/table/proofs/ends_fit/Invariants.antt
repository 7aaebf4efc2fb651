-- `table::ends_fit` meets its contract: the ends of the open rows, and what they say of the rows passed. Assumes nothing.
use Rattle.std.proofs.Common.{◌≡◌, length}
use Rattle.table.proofs.Stack.{Open}
use Rattle.table.proofs.ends_fit.Given as goal

abbrev pub invariant-loop-row : goal.invariant-loop-row
invariant-loop-row l = (length l.ends ≡ length l.initial.ends) × Open l.post l.row l.ends l.count
