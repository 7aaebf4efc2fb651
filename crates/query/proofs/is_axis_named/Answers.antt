-- `query::is_axis_named` meets its contract. Assumes nothing.
use Rattle.std.proofs.Common.{arith}
use Rattle.std.proofs.lemmas.Bool.Decides.{nat_tests}
use Rattle.meaning.specs.Tests.{◌&◌}
use Rattle.meaning.specs.Axes.{axes, is_axis}
use Rattle.meaning.specs.Query.{is_axis_named}
use Rattle.query.proofs.is_axis_named.Goals as goal

pub returns-then-from-v : goal.returns-then-from-v
unfolding ◌&◌ is_axis_named is_axis axes
returns-then-from-v c = grind (arith, nat_tests)

pub returns-else-from-v : goal.returns-else-from-v
unfolding ◌&◌ is_axis_named is_axis axes
returns-else-from-v c = grind (arith, nat_tests)
