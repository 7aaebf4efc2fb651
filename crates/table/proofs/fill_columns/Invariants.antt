-- `table::fill_columns` meets its contract: each row's parent is found among the rows before, and its level is one more. Assumes nothing.
use Rattle.std.proofs.Common.{◌≡◌, get_or}
use Rattle.meaning.specs.Table.{level}
use Rattle.table.specs.Rows.{Filled, LevelOf, ParentOf}
use Rattle.table.proofs.fill_columns.Given as goal

abbrev pub invariant-loop-row : goal.invariant-loop-row
invariant-loop-row l = Filled 1 l.row (ParentOf l.post) l.initial.parents l.parents × Filled 1 l.row (LevelOf l.post) l.initial.levels l.levels × (get_or l.levels 0 0 ≡ level l.post 0)
