use mathlib.Core.Path.{sym, ◌∙◌}
use Rattle.table.proofs.Laws.{accepted_is}
use Rattle.pouchmeadow.proofs.AxisLaws.{on_tree, on-refused}
use Rattle.pouchmeadow.proofs.axis_on.Goals as goal

pub axis_of_tree-requires : goal.axis_of_tree-requires
axis_of_tree-requires c = let a = c.args in accepted_is a.post.now a.label.now (sym c.check_table-t.ensures ∙ c.in-Ok.is)

pub returns-in-Err : goal.returns-in-Err
returns-in-Err c = let a = c.args in on-refused a.post.now a.label.now a.code a.p a.q _ (sym c.check_table-t.ensures ∙ c.in-Err.is)

pub returns-in-Ok : goal.returns-in-Ok
returns-in-Ok c = let a = c.args in c.axis_of_tree.ensures ∙ on_tree a.post.now a.label.now a.code a.p a.q (sym c.check_table-t.ensures ∙ c.in-Ok.is)
