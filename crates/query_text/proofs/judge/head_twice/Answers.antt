use Rattle.std.proofs.Common.{◌∙◌, take, rules, tests}
use Rattle.std.proofs.lemmas.Iterator.{YieldsList-from_slice}
use Rattle.std.proofs.lemmas.Iterator.Consumers.{YieldsList-from_enumerate}
use Rattle.std.proofs.lemmas.Iterator.Search.{any_from_yields_List}
use Rattle.query_text.proofs.JudgeLaws.{is_repeated, head_repeated}
use Rattle.query_text.proofs.judge.head_twice.Goals as goal

pub returns : goal.returns
returns c =
    let h = take c.args.q.now.head_count c.args.q.now.«head» in
    any_from_yields_List (is_repeated h) _ _ _ c.any.ensures.ran (YieldsList-from_enumerate (YieldsList-from_slice h cc) cc) (λ x b q k. search (rules, tests))
    ∙ head_repeated c.args.q.now (search rules)
