-- `table::is_sized` meets its contract. Assumes nothing.
use Rattle.std.proofs.Common.{arith}
use Rattle.std.proofs.lemmas.Bool.Decides.{nat_tests}
use Rattle.meaning.specs.Tests.{◌&◌}
use Rattle.meaning.specs.Table.{is_sized}
use Rattle.table.proofs.is_sized.Goals as goal

pub returns-then-post-label : goal.returns-then-post-label
unfolding ◌&◌ is_sized
returns-then-post-label c = grind (arith, nat_tests)

pub returns-else-post-label : goal.returns-else-post-label
unfolding ◌&◌ is_sized
returns-else-post-label c = grind (arith, nat_tests)
