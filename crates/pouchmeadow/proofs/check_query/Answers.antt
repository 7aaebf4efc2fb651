-- `pouchmeadow::check_query` meets its contract: what the entry below it gives for the gathered query, it gives for the lent list. Assumes nothing.
use Rattle.std.proofs.Common.{◌∙◌}
use Rattle.pouchmeadow.proofs.Laws.{gathered_alike, query_alike}
use Rattle.pouchmeadow.proofs.check_query.Goals as goal

pub returns : goal.returns
returns c =
    let a = c.args in
    let h = gathered_alike a.terms a.axes.now c.gather-q.result c.gather-q.ensures in
    c.check_query.ensures ∙ query_alike _ _ h
