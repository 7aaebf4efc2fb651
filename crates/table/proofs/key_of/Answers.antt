-- `table::key_of` meets its contract. Assumes nothing.
use Rattle.std.proofs.Common.{◌∙◌, arith}
use Rattle.meaning.specs.Axes.{key}
use Rattle.table.proofs.Columns.{key_pre, key-level}
use Rattle.table.proofs.key_of.Goals as goal

pub returns-in-0 : goal.returns-in-0
returns-in-0 c = key_pre _ _ _ (omega arith)

pub returns-in-2 : goal.returns-in-2
unfolding key
returns-in-2 c = rw c.in-2.is c.from.ensures

pub returns-in_default : goal.returns-in_default
returns-in_default c = key-level _ _ _ _ (omega arith) (c.from-in_default.ensures ∙ c.requires.1.each c.args.row c.requires.2)
