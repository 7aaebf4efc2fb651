use Rattle.std.proofs.Common.{◌*◌, take}
use Rattle.search.specs.Wrote.{Wrote, rows_spaced}
use Rattle.search.proofs.lines.put_rows.Given as goal

abbrev pub invariant-loop-row : goal.invariant-loop-row
invariant-loop-row l = Wrote l.initial.out l.at (l.row-index * 21) (rows_spaced (take l.row-index l.tuple)) l.out l.next
