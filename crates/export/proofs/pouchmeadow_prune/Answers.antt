-- `export::pouchmeadow_prune` meets its contract. By what each part ensures. Assumes nothing.
use Rattle.export.proofs.Answered.{prune_told}
use Rattle.export.proofs.pouchmeadow_prune.Goals as goal

pub returns : goal.returns
returns c = let a = c.args in
    prune_told a.post.now a.label.now _ _ c.gather-q.ensures a.sets.now _ _ _ c.prune-a.ensures c.of_prune.ensures
