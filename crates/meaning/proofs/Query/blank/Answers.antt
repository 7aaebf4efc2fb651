-- `Query::blank` meets its contract. Both sides compute. Assumes nothing.
use Rattle.std.proofs.Common.{refl}
use Rattle.meaning.specs.QueryTexts.{pad, made, blank_query}
use Rattle.meaning.proofs.Query.blank.Goals as goal

pub returns : goal.returns
unfolding pad made blank_query
returns c = refl
