use mathlib.Core.Path.{sym}
use lib.Seq.{length-take-le}
use Rattle.search.proofs.print_front.Goals as goal

pub slice_bounds-write_all-end : goal.slice_bounds-write_all-end
slice_bounds-write_all-end c = sym (length-take-le c.args.n c.args.out.now c.if-n-out.true)
