use Rattle.std.proofs.Common.{◌+◌, get_or, length-set, arith}
use Rattle.table.proofs.Stack.{open_more, open_all}
use Rattle.table.proofs.Check.{tree_so, root_not, end_before, end-behind}
use Rattle.table.proofs.ends_fit.Goals as goal
use Rattle.table.proofs.ends_fit.Goals.{then-end-row-via-then-end-row, then-end-row-via-else-end-row+then-from-end}

pub returns-then-from-post : goal.returns-then-from-post
returns-then-from-post c = root_not _ c.from.result c.from.ensures c.if-from-post.true

pub returns-then-end-row : goal.returns-then-end-row
returns-then-end-row c =
    let O = c.loop-row.invariant.1 in
    elim c.then-end-row.branch [
      | then-end-row-via-then-end-row w ↦ end_before _ _ c.loop-row.row c.loop-row.count c.staying-level.result O c.staying-level.ensures (omega arith) (omega arith)
      | then-end-row-via-else-end-row+then-from-end w ↦ end-behind _ _ c.loop-row.row c.loop-row.count c.staying-level.result O c.staying-level.ensures (omega arith) (omega arith)
    ]

pub loop-row-preserved : goal.loop-row-preserved
loop-row-preserved c = (
  omega (arith, length-set c.loop-row.ends c.staying-level.result (c.from-in-loop-row.result + c.staying-level.result)),
  open_more _ _ c.loop-row.row c.loop-row.count c.staying-level.result c.loop-row.invariant.1 c.staying-level.ensures _ (omega arith) c.if-end-row.false (omega arith) (omega (arith, length-set c.args.ends.now 0 (get_or c.args.post.now 0 0))),
)

pub returns : goal.returns
returns c = tree_so _ (open_all _ _ c.loop-row.row c.loop-row.count c.loop-row.invariant.1 (omega arith) (omega arith))
