-- `query::is_counted` meets its contract. Assumes nothing.
use Rattle.std.proofs.Common.{arith}
use Rattle.std.proofs.lemmas.Bool.Decides.{nat_tests}
use Rattle.meaning.specs.Tests.{◌&◌}
use Rattle.query.proofs.Laws.{counted}
use Rattle.query.proofs.is_counted.Goals as goal

pub returns-then-q-le32 : goal.returns-then-q-le32
unfolding ◌&◌
returns-then-q-le32 c = rw (counted c.args.q.now) (grind (arith, nat_tests))

pub returns-else-q-le32 : goal.returns-else-q-le32
unfolding ◌&◌
returns-else-q-le32 c = rw (counted c.args.q.now) (grind (arith, nat_tests))
