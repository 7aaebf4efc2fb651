-- `export::pouchmeadow_yes_or_no` meets its contract. By what each part ensures. Assumes nothing.
use Rattle.export.proofs.Answered.{yes_no_told}
use Rattle.export.proofs.pouchmeadow_yes_or_no.Goals as goal

pub returns : goal.returns
returns c = let a = c.args in
    yes_no_told a.post.now a.label.now _ _ c.gather-q.ensures a.sets.now _ _ _ c.yes_or_no-a.ensures c.of_truth.ensures.yes_no
