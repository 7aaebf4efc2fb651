-- `table_test::tree_agrees` is safe and ends. Assumes nothing.
use Rattle.std.proofs.Common.{arith}
use Rattle.table.proofs.Laws.{columns_filled}
use Rattle.table_test.proofs.tree_agrees.Goals as goal

pub invariant_of-tree : goal.invariant_of-tree
invariant_of-tree c = record { columns = columns_filled _ _ _ _ _ c.requires (omega (arith, c.requires.few)) (omega (arith, c.requires.few)) c.fill_columns.ensures }
