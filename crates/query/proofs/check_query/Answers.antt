-- `query::check_query` meets its contract: the lowest refusal that applies, or the set. Assumes nothing.
use Rattle.std.proofs.Common.{◌≤◌, sym, ◌∙◌, length, length-take, arith}
use Rattle.meaning.specs.Query.{asked}
use Rattle.query.proofs.Laws.{few, says_counts, says_names, says_one_set, asked_axes}
use Rattle.query.proofs.check_query.Goals as goal

pub returns-then-not-is_counted : goal.returns-then-not-is_counted
returns-then-not-is_counted c = says_counts (asked c.args.q) (sym c.is_counted.ensures ∙ c.if-not-is_counted.true)

pub is_named-requires : goal.is_named-requires
is_named-requires c =
    let f = few c.args.q (sym c.is_counted.ensures ∙ c.if-not-is_counted.false) in
    (f.few-axes, f.few-labels, f.few_head)

pub returns-then-not-is_named : goal.returns-then-not-is_named
returns-then-not-is_named c = says_names (asked c.args.q) (sym c.is_counted.ensures ∙ c.if-not-is_counted.false) (sym c.is_named.ensures ∙ c.if-not-is_named.true)

pub shared_ref_as_front-one_set : goal.shared_ref_as_front-one_set
shared_ref_as_front-one_set c = (few c.args.q (sym c.is_counted.ensures ∙ c.if-not-is_counted.false)).few-axes

pub returns : goal.returns
returns c =
    let q = c.args.q in
    let room : q.axis_count ≤ length q.axes = omega (arith, length-take q.axis_count q.axes, (few q (sym c.is_counted.ensures ∙ c.if-not-is_counted.false)).few-axes) in
    c.ok_or.ensures.value
    ∙ rw (c.one_set.ensures, ← asked_axes q room) (says_one_set (asked q) (sym c.is_counted.ensures ∙ c.if-not-is_counted.false) (sym c.is_named.ensures ∙ c.if-not-is_named.false))
