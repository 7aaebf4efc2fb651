-- `Axis::try_from` meets its contract: a code past the table of axes is no axis. Assumes nothing.
use Rattle.std.proofs.Common.{refl, arith}
use borrow.Author.Tests.{le-ltb}
use Rattle.meaning.specs.Axes.{axes, is_axis}
use Rattle.meaning.proofs.AxisTryFromU8.try_from.Goals as goal

pub returns-in_default : goal.returns-in_default
unfolding is_axis axes
returns-in_default c = (refl, le-ltb c.args.code 7 (omega arith))
