-- `query::is_named` meets its contract: the conditions and the head that count are those of the query as asked. Assumes nothing.
use Rattle.std.proofs.Common.{◌≡◌, refl, sym, ◌∙◌, Bool, true, false, take, ltb, length, arith, rules, tests}
use Rattle.std.proofs.lemmas.Iterator.{YieldsList-from_slice}
use Rattle.std.proofs.lemmas.Iterator.Search.{all_from_yields_List}
use Rattle.meaning.specs.Tests.{◌&◌, every}
use Rattle.meaning.specs.declared.LabelCondition.{LabelCondition}
use Rattle.meaning.specs.Query.{Question, asked, axis_at, label_at, is_axis_named, is_head_named, is_named}
use Rattle.query.proofs.Laws.{axes-named, labels-named, head-named}
use Rattle.query.proofs.is_named.Goals as goal
use Rattle.query.proofs.is_named.Goals.{Joined-all, then-all, else-all}

axes : Question → Bool
axes Q = every (length Q.axes) (λ i. is_axis_named Q.variables (axis_at Q.axes i))

labels : Question → Bool
labels Q = every (length Q.labels) (λ i. ltb (label_at Q.labels i).variable Q.variables)

-- the conditions of both kinds
conditions : (c : Joined-all) → c.if-all.value ≡ (axes (asked c.args.q.now) & labels (asked c.args.q.now))
unfolding ◌&◌ axes labels
conditions c =
    let q = c.args.q.now in
    let a = all_from_yields_List (is_axis_named q.variables) _ _ c.all.result c.all.ensures.ran (YieldsList-from_slice (take q.axis_count q.axes) cc) (λ x b q k. search (rules, tests)) ∙ axes-named q (omega arith) in
    elim c.if-all.branch [
      | then-all w ↦
          rw (sym a ∙ w.if-all.true)
          (w.value-is
          ∙ (all_from_yields_List (λ (l : LabelCondition). ltb l.variable q.variables) _ _ w.all-then-all.result w.all-then-all.ensures.ran (YieldsList-from_slice (take q.label_count q.labels) cc) (λ x b q k. search (rules, tests))
          ∙ labels-named q (omega arith)))
      | else-all w ↦ rw (sym a ∙ w.if-all.false) (w.value-is ∙ w.if-all.false)
    ]

with_head : (Q : Question) (v : Bool) → v ≡ (axes Q & labels Q) → is_named Q ≡ (v & every (length Q.head) (λ i. is_head_named Q.variables Q.head i))
unfolding is_named axes labels ◌&◌
with_head Q v e = rw e (joined (axes Q) (labels Q) _)
  where
    joined : (a b c : Bool) → (a & b & c) ≡ ((a & b) & c)
    joined true b c = refl
    joined false b c = refl

pub returns-then-all-2 : goal.returns-then-all-2
unfolding ◌&◌
returns-then-all-2 c =
    rw (with_head _ _ (conditions (goal.at.returns-then-all-2 c).Joined-all), c.if-all-2.true) (c.is_head_named.ensures ∙ head-named c.args.q.now (omega arith))

pub returns-else-all-2 : goal.returns-else-all-2
unfolding ◌&◌
returns-else-all-2 c = rw (with_head _ _ (conditions (goal.at.returns-else-all-2 c).Joined-all), c.if-all-2.false)
