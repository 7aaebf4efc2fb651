-- `pouchmeadow::find_after` meets its contract: what the entry below it gives for the gathered query, it gives for the lent list. Assumes nothing.
use Rattle.std.proofs.Common.{◌∙◌}
use Rattle.pouchmeadow.proofs.Laws.{gathered_alike, search_alike, search_sets_alike, search_found_alike}
use Rattle.pouchmeadow.proofs.find_after.Goals as goal

pub returns : goal.returns
returns c =
    let a = c.args in
    let h = gathered_alike a.terms a.axes.now c.gather-q.result c.gather-q.ensures in
    (c.find_after.ensures.0 ∙ search_alike _ _ h _ _ _ _ _, c.find_after.ensures.1 ∙ search_sets_alike _ _ h _ _ _ _ _, c.find_after.ensures.2 ∙ search_found_alike _ _ h _ _ _ _ _)
