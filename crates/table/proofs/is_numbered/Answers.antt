-- `table::is_numbered` meets its contract. Assumes nothing.
use Rattle.std.proofs.Common.{arith}
use Rattle.std.proofs.lemmas.Bool.Decides.{nat_tests}
use Rattle.meaning.specs.Tests.{◌&◌}
use Rattle.meaning.specs.Table.{is_numbered}
use Rattle.table.specs.Rows.{is_once}
use Rattle.table.proofs.is_numbered.Goals as goal

pub returns-then-is_once : goal.returns-then-is_once
unfolding ◌&◌ is_once is_numbered
returns-then-is_once c = grind (arith, nat_tests)

pub returns-else-is_once : goal.returns-else-is_once
unfolding ◌&◌ is_once is_numbered
returns-else-is_once c = grind (arith, nat_tests)
