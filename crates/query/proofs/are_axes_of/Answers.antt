-- `query::are_axes_of` meets its contract. Assumes nothing.
use Rattle.std.proofs.Common.{◌∙◌, eqb, rules, tests}
use Rattle.std.proofs.lemmas.Iterator.{YieldsList-from_slice}
use Rattle.std.proofs.lemmas.Iterator.Search.{all_from_yields_List}
use Rattle.meaning.specs.Axes.{set_of}
use Rattle.meaning.specs.Query.{no-condition}
use Rattle.meaning.specs.declared.Condition.{Condition}
use Rattle.query.specs.Check.{are_axes_of}
use Rattle.query.proofs.Laws.{all-every}
use Rattle.query.proofs.are_axes_of.Goals as goal

pub returns : goal.returns
unfolding are_axes_of
returns c =
    let a = c.args in
    all_from_yields_List (λ (x : Condition). eqb (set_of x.code) a.s) _ _ c.all.result c.all.ensures.ran (YieldsList-from_slice a.axes.now cc) (λ x b q k. search (rules, tests))
    ∙ all-every (λ (x : Condition). eqb (set_of x.code) a.s) no-condition a.axes.now
