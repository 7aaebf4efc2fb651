-- The proof of `Names::place` of src/names.rt. Assumes nothing.
use Rattle.std.proofs.Common.{sym, ◌∙◌, arith}
use Rattle.brackets.specs.Lines.{part}
use Rattle.brackets.proofs.Lists.{marked_at, marked_end, equal_same, place_here, place-more, place_end}
use Rattle.brackets.proofs.names.Names.place.Goals as goal

pub slice_bounds-eq-count : goal.slice_bounds-eq-count
slice_bounds-eq-count c =
    let m = marked_at c.self.inside.list.now c.loop-k.start c.self.inside.ends.now.items _ c.as_slice-end-items.ensures.value c.loop-k.k c.loop-k.invariant.1 c.loop-k-test.true in
    omega (arith, m.0)

pub slice_bounds-eq-start : goal.slice_bounds-eq-start
slice_bounds-eq-start c =
    let m = marked_at c.self.inside.list.now c.loop-k.start c.self.inside.ends.now.items _ c.as_slice-end-items.ensures.value c.loop-k.k c.loop-k.invariant.1 c.loop-k-test.true in
    omega (arith, m.0)

pub slice_bounds-eq-end : goal.slice_bounds-eq-end
slice_bounds-eq-end c =
    let m = marked_at c.self.inside.list.now c.loop-k.start c.self.inside.ends.now.items _ c.as_slice-end-items.ensures.value c.loop-k.k c.loop-k.invariant.1 c.loop-k-test.true in
    omega (arith, m.1)

pub returns-then-eq : goal.returns-then-eq
unfolding part
returns-then-eq c =
    let v = c.loop-k.invariant in
    let m = marked_at c.self.inside.list.now c.loop-k.start c.self.inside.ends.now.items _ c.as_slice-end-items.ensures.value c.loop-k.k v.1 c.loop-k-test.true in
    rw (← c.self.view_is) (place_here c.args.name.now c.self.inside.list.now c.loop-k.k c.loop-k.start _ v.2 m.0 v.0 m.1 (sym (equal_same _ _) ∙ sym c.eq.ensures ∙ c.if-eq.true))

pub loop-k-preserved : goal.loop-k-preserved
unfolding part
loop-k-preserved c =
    let v = c.loop-k.invariant in
    let m = marked_at c.self.inside.list.now c.loop-k.start c.self.inside.ends.now.items _ c.as_slice-end-items.ensures.value c.loop-k.k v.1 c.loop-k-test.true in
    (omega (arith, m.1), m.2, place-more c.args.name.now c.self.inside.list.now c.loop-k.k c.loop-k.start _ v.2 m.0 v.0 m.1 (sym (equal_same _ _) ∙ sym c.eq.ensures ∙ c.if-eq.false))

pub returns : goal.returns
returns c =
    let v = c.loop-k.invariant in
    rw (← c.self.view_is) (place_end c.args.name.now c.self.inside.list.now c.loop-k.k c.loop-k.start v.2
    (marked_end c.self.inside.list.now c.loop-k.start c.self.inside.ends.now.items _ c.as_slice-end-items.ensures.value c.loop-k.k v.1 c.loop-k-test.false))
