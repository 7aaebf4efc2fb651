-- `table::Tree::is_below` meets its contract. Assumes nothing.
use Rattle.std.proofs.Common.{arith}
use Rattle.std.proofs.lemmas.Bool.Decides.{nat_tests}
use Rattle.meaning.specs.Tests.{◌&◌}
use Rattle.meaning.specs.Table.{below}
use Rattle.table.proofs.Tree.is_below.Goals as goal

pub returns-then-p-q : goal.returns-then-p-q
unfolding ◌&◌ below
returns-then-p-q c = grind (arith, nat_tests)

pub returns-else-p-q : goal.returns-else-p-q
unfolding ◌&◌ below
returns-else-p-q c = grind (arith, nat_tests)
