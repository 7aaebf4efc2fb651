-- `query::one_set` meets its contract. Assumes nothing.
use Rattle.std.proofs.Common.{◌∙◌, sym, refl, rules, tests}
use Rattle.std.proofs.lemmas.Iterator.Adapters.{option_map_id}
use Rattle.std.proofs.lemmas.Iterator.{YieldsList-from_range}
use Rattle.std.proofs.lemmas.Iterator.Search.{find_from_yields_List}
use Rattle.query.specs.Check.{are_axes_of, one_set_of}
use Rattle.query.proofs.one_set.Goals as goal

pub returns : goal.returns
unfolding one_set_of
returns c =
    sym (option_map_id c.find.result)
    ∙ find_from_yields_List (are_axes_of c.args.axes.now) _ _ c.find.result c.find.ensures.ran (YieldsList-from_range 1 4 3 (cc) refl) (λ x b q k. search (rules, tests))
