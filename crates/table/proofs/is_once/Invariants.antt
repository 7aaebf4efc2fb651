-- `table::is_once` meets its contract: of each number it is known whether a row passed has it. Assumes nothing.
use Rattle.std.proofs.Common.{◌≡◌, length}
use Rattle.table.proofs.Check.{Once, Seen}
use Rattle.table.proofs.is_once.Given as goal

abbrev pub invariant-loop-number : goal.invariant-loop-number
invariant-loop-number l = (length l.seen ≡ 1024) × Once l.post l.number-index × Seen l.post l.number-index l.seen
