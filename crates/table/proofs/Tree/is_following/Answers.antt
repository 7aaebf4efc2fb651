-- `table::Tree::is_following` meets its contract. Assumes nothing.
use Rattle.std.proofs.Common.{arith}
use Rattle.std.proofs.lemmas.Bool.Decides.{nat_tests}
use Rattle.meaning.specs.Tests.{◌&◌}
use Rattle.meaning.specs.Table.{follows}
use Rattle.table.proofs.Tree.is_following.Goals as goal

pub returns-then-p-q : goal.returns-then-p-q
unfolding ◌&◌ follows
returns-then-p-q c = grind (arith, nat_tests)

pub returns-else-p-q : goal.returns-else-p-q
unfolding ◌&◌ follows
returns-else-p-q c = grind (arith, nat_tests)
