-- `query::axis_set` meets its contract, by the table of axes. Assumes nothing.
use Rattle.std.proofs.Common.{arith}
use Rattle.meaning.specs.Axes.{axes, axis_of, set_of}
use Rattle.query.proofs.Laws.{set_none, set-one, set_three}
use Rattle.query.proofs.axis_set.Goals as goal

pub returns-in-0 : goal.returns-in-0
unfolding set_of axis_of axes
returns-in-0 c = rw c.in-0.is

pub returns-in-1 : goal.returns-in-1
returns-in-1 c = set-one _ (omega arith) (omega arith)

pub returns-in-3-to-5 : goal.returns-in-3-to-5
returns-in-3-to-5 c = set_three _ (omega arith) (omega arith)

pub returns-in-6 : goal.returns-in-6
unfolding set_of axis_of axes
returns-in-6 c = rw c.in-6.is

pub returns-in_default : goal.returns-in_default
returns-in_default c = set_none _ (omega arith)
