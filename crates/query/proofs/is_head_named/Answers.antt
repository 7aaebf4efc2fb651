-- `query::is_head_named` meets its contract. Assumes nothing.
use Rattle.std.proofs.Common.{◌∙◌, rules, tests}
use Rattle.std.proofs.lemmas.Iterator.{YieldsList-from_slice}
use Rattle.std.proofs.lemmas.Iterator.Consumers.{YieldsList-from_enumerate}
use Rattle.std.proofs.lemmas.Iterator.Search.{all_from_yields_List}
use Rattle.query.proofs.Laws.{is_place_named, places-named}
use Rattle.query.proofs.is_head_named.Goals as goal

pub returns : goal.returns
returns c =
    let h = c.args.head.now in
    all_from_yields_List (is_place_named h c.args.v) _ _ _ c.all.ensures.ran (YieldsList-from_enumerate (YieldsList-from_slice h cc) cc) (λ x b q k. search (rules, tests))
    ∙ places-named h c.args.v
