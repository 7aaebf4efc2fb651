-- `export::pouchmeadow_check_query` meets its contract. By what each part ensures. Assumes nothing.
use Rattle.export.proofs.Answered.{query-told}
use Rattle.export.proofs.pouchmeadow_check_query.Goals as goal

pub returns : goal.returns
returns c = query-told _ _ _ _ c.gather-q.ensures c.check_query.ensures c.of_query.ensures
