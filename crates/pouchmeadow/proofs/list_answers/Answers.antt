-- `pouchmeadow::list_answers` meets its contract: what the entry below it gives for the gathered query, it gives for the lent list. Assumes nothing.
use Rattle.std.proofs.Common.{◌∙◌}
use Rattle.pouchmeadow.proofs.Laws.{gathered_alike, list_alike, list_sets_alike, list_found_alike}
use Rattle.pouchmeadow.proofs.list_answers.Goals as goal

pub returns : goal.returns
returns c =
    let a = c.args in
    let h = gathered_alike a.terms a.axes.now c.gather-q.result c.gather-q.ensures in
    (c.list_answers.ensures.0 ∙ list_alike _ _ h _ _ _ _ _, c.list_answers.ensures.1 ∙ list_sets_alike _ _ h _ _ _ _ _, c.list_answers.ensures.2 ∙ list_found_alike _ _ h _ _ _ _ _)
