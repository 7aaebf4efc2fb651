-- `pouchmeadow::prune` meets its contract: what the entry below it gives for the gathered query, it gives for the lent list. Assumes nothing.
use Rattle.std.proofs.Common.{◌∙◌}
use Rattle.pouchmeadow.proofs.Laws.{gathered_alike, prune_alike, prune_leaves_alike}
use Rattle.pouchmeadow.proofs.prune.Goals as goal

pub returns : goal.returns
returns c =
    let a = c.args in
    let h = gathered_alike a.terms a.axes.now c.gather-q.result c.gather-q.ensures in
    (c.prune.ensures.0 ∙ prune_alike _ _ h _ _ _, c.prune.ensures.1 ∙ prune_leaves_alike _ _ h _ _ _)
