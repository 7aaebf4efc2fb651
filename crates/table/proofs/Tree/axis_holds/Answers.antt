-- `table::Tree::axis_holds` meets its contract: each axis by its law. Assumes nothing.
use Rattle.std.proofs.Common.{◌∙◌, eq-eqb, ne_eqb}
use Rattle.meaning.specs.Tests.{◌or◌}
use Rattle.meaning.specs.Axes.{axes, axis_of, kind_holds, directed, axis_holds}
use Rattle.theory.specs.Trees.{tree_is}
use Rattle.table.proofs.Laws.{parent_child, parent_later, parent_next}
use Rattle.table.proofs.Tree.axis_holds.Goals as goal

pub returns-in-Child : goal.returns-in-Child
unfolding axis_holds axis_of axes directed kind_holds
returns-in-Child c = let h = c.args.self.now.columns in rw c.in-Child.is (c.is_child.ensures ∙ parent_child _ (tree_is _ h.accepted.tree) _ h.has_parents _ _ c.requires.1)

pub returns-in-ChildPlus : goal.returns-in-ChildPlus
unfolding axis_holds axis_of axes directed kind_holds
returns-in-ChildPlus c = rw c.in-ChildPlus.is c.is_below.ensures

pub returns-then-p-q : goal.returns-then-p-q
unfolding axis_holds axis_of axes directed kind_holds ◌or◌
returns-then-p-q c = rw (c.in-ChildStar.is, eq-eqb c.args.p c.args.q c.if-p-q.true)

pub returns-else-p-q : goal.returns-else-p-q
unfolding axis_holds axis_of axes directed kind_holds ◌or◌
returns-else-p-q c = rw (c.in-ChildStar.is, ne_eqb c.args.p c.args.q c.if-p-q.false) c.is_below-else-p-q.ensures

pub returns-in-NextSibling : goal.returns-in-NextSibling
unfolding axis_holds axis_of axes directed kind_holds
returns-in-NextSibling c =
    let h = c.args.self.now.columns in
    rw c.in-NextSibling.is (c.is_next.ensures ∙ parent_next _ (tree_is _ h.accepted.tree) _ h.has_parents _ h.has_levels _ _ c.requires.0 c.requires.1)

pub returns-in-NextSiblingPlus : goal.returns-in-NextSiblingPlus
unfolding axis_holds axis_of axes directed kind_holds
returns-in-NextSiblingPlus c = let h = c.args.self.now.columns in rw c.in-NextSiblingPlus.is (c.is_later.ensures ∙ parent_later _ (tree_is _ h.accepted.tree) _ h.has_parents _ _ c.requires.1)

pub returns-then-p-q-2 : goal.returns-then-p-q-2
unfolding axis_holds axis_of axes directed kind_holds ◌or◌
returns-then-p-q-2 c = rw (c.in-NextSiblingStar.is, eq-eqb c.args.p c.args.q c.if-p-q-2.true)

pub returns-else-p-q-2 : goal.returns-else-p-q-2
unfolding axis_holds axis_of axes directed kind_holds ◌or◌
returns-else-p-q-2 c =
    let h = c.args.self.now.columns in
    rw (c.in-NextSiblingStar.is, ne_eqb c.args.p c.args.q c.if-p-q-2.false) (c.is_later-else-p-q-2.ensures ∙ parent_later _ (tree_is _ h.accepted.tree) _ h.has_parents _ _ c.requires.1)

pub returns-in-Following : goal.returns-in-Following
unfolding axis_holds axis_of axes directed kind_holds
returns-in-Following c = rw c.in-Following.is c.is_following.ensures
