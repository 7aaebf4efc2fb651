-- `table::Tree::is_next` meets its contract. Assumes nothing.
use Rattle.std.proofs.Common.{arith}
use Rattle.std.proofs.lemmas.Bool.Decides.{nat_tests}
use Rattle.meaning.specs.Tests.{◌&◌}
use Rattle.table.specs.Rows.{end_of, is_next}
use Rattle.table.proofs.Tree.is_next.Goals as goal

pub returns-then-q-end_of : goal.returns-then-q-end_of
unfolding ◌&◌ is_next end_of
returns-then-q-end_of c = grind (arith, nat_tests)

pub returns-else-q-end_of : goal.returns-else-q-end_of
unfolding ◌&◌ is_next end_of
returns-else-q-end_of c = grind (arith, nat_tests)
