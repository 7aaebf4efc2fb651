-- `export::pouchmeadow_list_answers` meets its contract. By what each part ensures. Assumes nothing.
use Rattle.export.proofs.Answered.{list_told}
use Rattle.export.proofs.pouchmeadow_list_answers.Goals as goal

pub returns : goal.returns
returns c = let a = c.args in
    list_told a.post.now a.label.now _ _ c.gather-q.ensures a.sets.now _ _ a.found.now _ a.allowance _ c.list_answers-a.ensures c.of_list.ensures
