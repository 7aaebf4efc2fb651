-- `pouchmeadow::yes_or_no` meets its contract: what the entry below it gives for the gathered query, it gives for the lent list. Assumes nothing.
use Rattle.std.proofs.Common.{◌∙◌}
use Rattle.pouchmeadow.proofs.Laws.{gathered_alike, yes_no_alike, yes_no_leaves_alike}
use Rattle.pouchmeadow.proofs.yes_or_no.Goals as goal

pub returns : goal.returns
returns c =
    let a = c.args in
    let h = gathered_alike a.terms a.axes.now c.gather-q.result c.gather-q.ensures in
    (c.yes_or_no.ensures.0 ∙ yes_no_alike _ _ h _ _ _, c.yes_or_no.ensures.1 ∙ yes_no_leaves_alike _ _ h _ _ _)
