-- `search::lines::put_rows` meets its contract. Assumes nothing.
use Rattle.std.proofs.Common.{arith}
use Rattle.search.proofs.Stores.{rows_start, rows_more, rows_all}
use Rattle.search.proofs.lines.put_rows.Goals as goal

pub loop-row-init : goal.loop-row-init
loop-row-init c = rows_start c.args.out.now c.args.at c.args.tuple.now

pub loop-row-preserved : goal.loop-row-preserved
loop-row-preserved c =
    let l = c.loop-row in
    rows_more c.args.out.now c.args.at c.args.tuple.now l.row-index _ _ _ _ c.loop-row-test.true l.invariant c.put_number-next.ensures

pub returns : goal.returns
returns c = let l = c.loop-row in rows_all c.args.out.now c.args.at c.args.tuple.now l.row-index _ _ (omega arith) l.invariant
