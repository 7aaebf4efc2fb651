-- `pouchmeadow::axis_of_tree` meets its contract: no axis, or a row outside the tree; otherwise the axis test. Assumes nothing.
use Rattle.std.proofs.Common.{◌∙◌}
use Rattle.pouchmeadow.proofs.AxisLaws.{no-axis, code_most, no_row, no_second_row, among_is}
use Rattle.pouchmeadow.proofs.axis_of_tree.Goals.{then-post-p-via-then-post-p, then-post-p-via-else-post-p+then-post-q}
use Rattle.pouchmeadow.proofs.axis_of_tree.Goals as goal

pub returns-in_default : goal.returns-in_default
returns-in_default c = let a = c.args in no-axis a.post.now a.code a.p a.q c.in_default.ensures.1

pub returns-then-post-p : goal.returns-then-post-p
returns-then-post-p c =
    let a = c.args in
    let most = code_most _ a.code c.in-Ok.ensures in
    elim c.then-post-p.branch [
      | then-post-p-via-then-post-p w ↦ no_row a.post.now a.code a.p a.q most w.if-post-p.true
      | then-post-p-via-else-post-p+then-post-q w ↦ no_second_row a.post.now a.code a.p a.q most w.if-post-p.false w.if-post-q.true
    ]

pub returns : goal.returns
returns c =
    let a = c.args in
    rw c.in-Ok.ensures at c.axis_holds.ensures ∙ among_is a.post.now a.code a.p a.q (code_most _ a.code c.in-Ok.ensures) c.if-post-p.false c.if-post-q.false
