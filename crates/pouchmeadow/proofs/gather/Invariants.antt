-- `pouchmeadow::gather` meets its contract. The loop's invariant: the first i records are in place. Assumes nothing.
use Rattle.std.proofs.Common.{◌≡◌, length}
use Rattle.pouchmeadow.specs.Gathered.{gathered}
use Rattle.pouchmeadow.proofs.gather.Given as goal

abbrev pub invariant-loop-i : goal.invariant-loop-i
invariant-loop-i l = (l.q ≡ gathered l.fn.terms l.axes (length l.axes) l.i)
