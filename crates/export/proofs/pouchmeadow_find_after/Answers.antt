-- `export::pouchmeadow_find_after` meets its contract. By what each part ensures. Assumes nothing.
use Rattle.export.proofs.Answered.{search_told}
use Rattle.export.proofs.pouchmeadow_find_after.Goals as goal

pub returns : goal.returns
returns c = let a = c.args in
    search_told a.post.now a.label.now _ _ c.gather-q.ensures a.sets.now _ _ a.found.now _ a.tuple.now _ c.find_after-a.ensures c.of_truth.ensures.search
