-- `table::fill_keys` meets its contract. Assumes nothing.
use Rattle.table.specs.Rows.{Filled, KeyOf}
use Rattle.table.proofs.fill_keys.Given as goal

abbrev pub invariant-loop-row : goal.invariant-loop-row
invariant-loop-row l = Filled 0 l.row (KeyOf l.set l.post) l.initial.keys l.keys
