-- The proof of `Source::sentence` of src/trees.rt. Assumes nothing.
use Rattle.std.proofs.Common.{◌≡◌, ◌+◌, Err, sym, ap, ◌∙◌, arith, rules}
use Rattle.meaning.specs.Sentences.{inner}
use Rattle.brackets.specs.Numbers.{Answer}
use Rattle.brackets.specs.Texts.{inside-at}
use Rattle.brackets.proofs.Paths.{tree_known}
use Rattle.brackets.proofs.Wholes.{whole_none, whole_plain, whole-empty, whole-refused, whole_open, whole_done}
use Rattle.brackets.proofs.trees.Source.sentence.Goals as goal

pub returns-then-peek-ne40 : goal.returns-then-peek-ne40
returns-then-peek-ne40 c =
    let s = c.args.self.now in
    let o = c.skip_white-outer.ensures in
    whole_none s.text.now s.names.now c.skip_white-outer.result o.0 o.2 _ _ _ _ (λ z. c.if-peek-ne40.true (c.peek.ensures ∙ z))

pub returns-then-is_inner : goal.returns-then-is_inner
returns-then-is_inner c =
    let s = c.args.self.now in
    let o = c.skip_white-outer.ensures in
    whole_plain s.text.now s.names.now c.skip_white-outer.result o.0 o.2 _ _ _ _ (sym c.peek.ensures ∙ c.if-peek-ne40.false) (ap inner (sym c.peek-2.ensures) ∙ sym c.is_inner.ensures ∙ c.if-is_inner.true) c.tree.result c.tree.ensures

pub returns-then-peek-ne40-2 : goal.returns-then-peek-ne40-2
returns-then-peek-ne40-2 c =
    let s = c.args.self.now in
    let o = c.skip_white-outer.ensures in
    let i = c.skip_white-inside.ensures in
    whole-empty s.text.now s.names.now c.skip_white-outer.result o.0 o.2 _ _ _ _ (sym c.peek.ensures ∙ c.if-peek-ne40.false) (ap inner (sym c.peek-2.ensures) ∙ sym c.is_inner.ensures ∙ c.if-is_inner.false)
    c.skip_white-inside.result i.0 i.2 (λ z. c.if-peek-ne40-2.true (c.peek-3.ensures ∙ z))

pub returns-in_err-tree : goal.returns-in_err-tree
returns-in_err-tree c =
    let s = c.args.self.now in
    let o = c.skip_white-outer.ensures in
    let i = c.skip_white-inside.ensures in
    let e : ◌≡◌ {A = Answer} c.from_residual.result (Err c.in_err-tree.field-0.0) = search rules in
    rw e (whole-refused s.text.now s.names.now c.skip_white-outer.result o.0 o.2 _ _ _ _ (sym c.peek.ensures ∙ c.if-peek-ne40.false) (ap inner (sym c.peek-2.ensures) ∙ sym c.is_inner.ensures ∙ c.if-is_inner.false)
    c.skip_white-inside.result i.0 i.2 (sym c.peek-3.ensures ∙ c.if-peek-ne40-2.false) c.tree-2.result c.tree-2.ensures c.in_err-tree.field-0.0 c.in_err-tree.was _ _)

pub skip_white-shut-requires : goal.skip_white-shut-requires
skip_white-shut-requires c =
    let s = c.args.self.now in
    let ins = inside-at s.text.now c.skip_white-inside.result 39 (sym c.peek-3.ensures ∙ c.if-peek-ne40-2.false) in
    let kn = tree_known s.text.now s.names.now (c.skip_white-inside.result + 1) 64 0 _ _ _ _ c.tree-2.result (omega (arith, ins)) c.tree-2.ensures c.in_ok-tree.tree.end c.in_ok-tree.tree.rows c.in_ok-tree.was in
    kn.1

pub returns-then-peek-ne41 : goal.returns-then-peek-ne41
returns-then-peek-ne41 c =
    let s = c.args.self.now in
    let o = c.skip_white-outer.ensures in
    let i = c.skip_white-inside.ensures in
    let x = c.in_ok-tree.tree in
    let y = c.skip_white-shut.ensures in
    whole_open s.text.now s.names.now c.skip_white-outer.result o.0 o.2 _ _ _ _ (sym c.peek.ensures ∙ c.if-peek-ne40.false) (ap inner (sym c.peek-2.ensures) ∙ sym c.is_inner.ensures ∙ c.if-is_inner.false)
    c.skip_white-inside.result i.0 i.2 (sym c.peek-3.ensures ∙ c.if-peek-ne40-2.false) c.tree-2.result c.tree-2.ensures x.end x.rows c.in_ok-tree.was c.skip_white-shut.result y.0 y.2 (λ z. c.if-peek-ne41.true (c.peek-4.ensures ∙ z)) _ _

pub returns : goal.returns
returns c =
    let s = c.args.self.now in
    let o = c.skip_white-outer.ensures in
    let i = c.skip_white-inside.ensures in
    let x = c.in_ok-tree.tree in
    let y = c.skip_white-shut.ensures in
    let w = sym c.peek-4.ensures ∙ c.if-peek-ne41.false in
    whole_done s.text.now s.names.now c.skip_white-outer.result o.0 o.2 _ _ _ _ (sym c.peek.ensures ∙ c.if-peek-ne40.false) (ap inner (sym c.peek-2.ensures) ∙ sym c.is_inner.ensures ∙ c.if-is_inner.false)
    c.skip_white-inside.result i.0 i.2 (sym c.peek-3.ensures ∙ c.if-peek-ne40-2.false) c.tree-2.result c.tree-2.ensures x.end x.rows c.in_ok-tree.was c.skip_white-shut.result y.0 y.2 w (inside-at s.text.now c.skip_white-shut.result 40 w)
