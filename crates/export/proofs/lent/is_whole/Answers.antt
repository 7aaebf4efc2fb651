-- `export::lent::is_whole` meets its contract. By its tests. Assumes nothing.
use Rattle.std.proofs.Common.{arith}
use Rattle.std.proofs.lemmas.Bool.Decides.{nat_tests}
use Rattle.meaning.specs.Tests.{◌&◌}
use Rattle.export.specs.Lent.{is_whole}
use Rattle.export.proofs.lent.is_whole.Goals as goal

pub returns-then-axes-le96 : goal.returns-then-axes-le96
unfolding is_whole ◌&◌
returns-then-axes-le96 c = grind (arith, nat_tests)

pub returns-else-axes-le96 : goal.returns-else-axes-le96
unfolding is_whole ◌&◌
returns-else-axes-le96 c = grind (arith, nat_tests)
