-- `table::Tree::is_later` meets its contract. Assumes nothing.
use Rattle.std.proofs.Common.{arith}
use Rattle.std.proofs.lemmas.Bool.Decides.{nat_tests}
use Rattle.meaning.specs.Tests.{◌&◌, non}
use Rattle.table.specs.Rows.{is_later}
use Rattle.table.proofs.Tree.is_later.Goals as goal

pub returns-then-p-q : goal.returns-then-p-q
unfolding ◌&◌ non is_later
returns-then-p-q c = grind (arith, nat_tests)

pub returns-else-p-q : goal.returns-else-p-q
unfolding ◌&◌ non is_later
returns-else-p-q c = grind (arith, nat_tests)
