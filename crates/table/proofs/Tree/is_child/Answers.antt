-- `table::Tree::is_child` meets its contract. Assumes nothing.
use Rattle.std.proofs.Common.{arith}
use Rattle.std.proofs.lemmas.Bool.Decides.{nat_tests}
use Rattle.meaning.specs.Tests.{◌&◌, non}
use Rattle.table.specs.Rows.{is_parent}
use Rattle.table.proofs.Tree.is_child.Goals as goal

pub returns-then-q-ne0 : goal.returns-then-q-ne0
unfolding ◌&◌ non is_parent
returns-then-q-ne0 c = grind (arith, nat_tests)

pub returns-else-q-ne0 : goal.returns-else-q-ne0
unfolding ◌&◌ non is_parent
returns-else-q-ne0 c = grind (arith, nat_tests)
