-- The answers of `body` and `tree` of src/trees.rt. Assumes nothing.
use Rattle.std.proofs.Common.{◌≡◌, ◌+◌, ◌-◌, Err, sym, ◌∙◌, arith, rules}
use Rattle.brackets.specs.Numbers.{Answer}
use Rattle.brackets.specs.Texts.{inside-at}
use Rattle.brackets.proofs.Paths.{tree_leaf, tree_refused, tree_closed, tree_known, body_known, body_refused, body_last, body_more}
use Rattle.brackets.proofs.trees.Source.+body_tree.Goals as goal

pub body-returns-in_err-tree : goal.body-returns-in_err-tree
body-returns-in_err-tree t c =
    let a = c.args in
    let h = c.loop-tree.here in
    let e : ◌≡◌ {A = Answer} c.from_residual.result (Err c.in_err-tree.field-0.0) = search rules in
    λ f. c.loop-tree.invariant.3 _ _ _ (rw e (body_refused a.self.now.text.now a.self.now.names.now h.end a.first.levels h.rows _ _ _ _ c.tree.result c.tree.ensures c.in_err-tree.field-0.0 c.in_err-tree.was _ _)) f

pub body-skip_white-requires : goal.body-skip_white-requires
body-skip_white-requires t c =
    let a = c.args in
    let h = c.loop-tree.here in
    let kn = tree_known a.self.now.text.now a.self.now.names.now (h.end + 1) a.first.levels h.rows _ _ _ _ c.tree.result (omega (arith, inside-at a.self.now.text.now h.end 39 c.loop-tree.invariant.0)) c.tree.ensures c.in_ok-tree.tree.end c.in_ok-tree.tree.rows c.in_ok-tree.was in
    kn.1

pub body-returns-then-peek-ne40 : goal.body-returns-then-peek-ne40
body-returns-then-peek-ne40 t c =
    let a = c.args in
    let h = c.loop-tree.here in
    let x = c.in_ok-tree.tree in
    let y = c.skip_white.ensures in
    λ f. c.loop-tree.invariant.3 _ _ _ (body_last a.self.now.text.now a.self.now.names.now h.end a.first.levels h.rows _ _ _ _ c.tree.result c.tree.ensures x.end x.rows c.in_ok-tree.was c.skip_white.result y.0 y.2 (λ z. c.if-peek-ne40.true (c.peek.ensures ∙ z))) f

pub body-loop-tree-smaller : goal.body-loop-tree-smaller
body-loop-tree-smaller t c =
    let a = c.args in
    let h = c.loop-tree.here in
    let ins = inside-at a.self.now.text.now h.end 39 c.loop-tree.invariant.0 in
    let kn = tree_known a.self.now.text.now a.self.now.names.now (h.end + 1) a.first.levels h.rows _ _ _ _ c.tree.result (omega (arith, ins)) c.tree.ensures c.in_ok-tree.tree.end c.in_ok-tree.tree.rows c.in_ok-tree.was in
    omega (arith, ins, kn, c.skip_white.ensures.1, c.skip_white.ensures.2)

pub body-loop-tree-preserved : goal.body-loop-tree-preserved
body-loop-tree-preserved t c =
    let a = c.args in
    let h = c.loop-tree.here in
    let x = c.in_ok-tree.tree in
    let i = c.loop-tree.invariant in
    let y = c.skip_white.ensures in
    let ins = inside-at a.self.now.text.now h.end 39 i.0 in
    let kn = tree_known a.self.now.text.now a.self.now.names.now (h.end + 1) a.first.levels h.rows _ _ _ _ c.tree.result (omega (arith, ins)) c.tree.ensures x.end x.rows c.in_ok-tree.was in
    let q = sym c.peek.ensures ∙ c.if-peek-ne40.false in (
      q,
      omega (arith, i.1, kn, y.1),
      omega (arith, i.2, kn),
      λ r p l M. i.3 r p l (body_more a.self.now.text.now a.self.now.names.now h.end a.first.levels h.rows _ _ _ _ c.tree.result c.tree.ensures x.end x.rows c.in_ok-tree.was c.skip_white.result y.0 y.2 q r p l M i.2),
    )

pub tree-returns-then-peek-ne40 : goal.tree-returns-then-peek-ne40
tree-returns-then-peek-ne40 t c =
    let a = c.args in
    let l = c.in_ok-label.label in
    tree_leaf a.self.now.text.now a.self.now.names.now a.at a.row.levels a.row.number l.end l.body c.in_ok-label.ensures c.number_of.result c.number_of.ensures _ _ c.leaf.result _ (λ z. c.if-peek-ne40.true (c.peek.ensures ∙ z)) c.leaf.ensures

pub tree-returns-in_err-below : goal.tree-returns-in_err-below
tree-returns-in_err-below t c =
    let a = c.args in
    let l = c.in_ok-label.label in
    let e : ◌≡◌ {A = Answer} c.from_residual-in_err-below.result (Err c.in_err-below.field-0.0) = search rules in
    rw e (tree_refused a.self.now.text.now a.self.now.names.now a.at a.row.levels a.row.number l.end l.body c.in_ok-label.ensures c.number_of.result c.number_of.ensures _ _ (sym c.peek.ensures ∙ c.if-peek-ne40.false) a.row.level.0 a.row.level.1 _ _ c.body.result c.body.ensures c.in_err-below.field-0.0 c.in_err-below.was _ _)

pub tree-close-requires : goal.tree-close-requires
tree-close-requires t c =
    let a = c.args in
    let x = c.in_ok-below.below in
    let kn = body_known a.self.now.text.now a.self.now.names.now c.in_ok-label.label.body (a.row.levels - 1) (a.row.number + 1) _ _ _ _ c.body.result c.body.ensures x.end x.rows c.in_ok-below.was in
    (omega (arith, kn), kn.2)

pub tree-returns : goal.tree-returns
tree-returns t c =
    let a = c.args in
    let l = c.in_ok-label.label in
    let x = c.in_ok-below.below in
    let kn = body_known a.self.now.text.now a.self.now.names.now l.body (a.row.levels - 1) (a.row.number + 1) _ _ _ _ c.body.result c.body.ensures x.end x.rows c.in_ok-below.was in
    tree_closed a.self.now.text.now a.self.now.names.now a.at a.row.levels a.row.number l.end l.body c.in_ok-label.ensures c.number_of.result c.number_of.ensures _ _ (sym c.peek.ensures ∙ c.if-peek-ne40.false) a.row.level.0 a.row.level.1 _ _ c.body.result c.body.ensures x.end x.rows c.in_ok-below.was c.close.result _ kn.1 c.close.ensures
