-- `table_test::show_tree` is safe and ends. Assumes nothing.
use Rattle.std.proofs.Common.{arith}
use Rattle.table.proofs.Laws.{levels_filled}
use Rattle.table_test.proofs.show_tree.Goals as goal

pub show_keys-requires : goal.show_keys-requires
show_keys-requires c = (omega arith, levels_filled _ _ _ (omega arith) c.fill_columns.ensures.1)
