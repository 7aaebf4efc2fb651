use Rattle.std.proofs.Common.{rules, tests}
use Rattle.std.proofs.lemmas.Iterator.{YieldsList-from_slice}
use Rattle.std.proofs.lemmas.Iterator.Search.{position_from_yields_List}
use Rattle.std.proofs.Math.Dec.{eqb}
use lib.Pointwise.{pointwise}
use Rattle.query_text.proofs.PlaceOf.{place_found}
use Rattle.query_text.proofs.words.place_of.Goals as goal

pub returns : goal.returns
returns c =
    let w = c.args.word.now in
    let xs = c.args.others.now in
    place_found w xs c.position.result (position_from_yields_List (λ x. pointwise eqb x.now w) _ _ c.position.result c.position.ensures.ran (YieldsList-from_slice xs cc) (λ x b q k. search (rules, tests)))
