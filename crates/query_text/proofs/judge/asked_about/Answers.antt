use Rattle.std.proofs.Common.{sym, ◌∙◌}
use Rattle.meaning.specs.Tests.{◌or◌}
use Rattle.query_text.proofs.JudgeLaws.{label_asked, axis_asked, one_of}
use Rattle.query_text.proofs.judge.asked_about.Goals as goal

pub returns-then-labelled : goal.returns-then-labelled
unfolding ◌or◌
returns-then-labelled c = c.if-labelled.true ∙ sym (one_of _ _ (sym (label_asked c.args.q.now c.args.v c.labelled.ensures.inside) ∙ sym c.labelled.ensures.value ∙ c.if-labelled.true))

pub returns-else-labelled : goal.returns-else-labelled
unfolding ◌or◌
returns-else-labelled c =
    rw (sym (label_asked c.args.q.now c.args.v c.labelled.ensures.inside) ∙ sym c.labelled.ensures.value ∙ c.if-labelled.false) (c.related.ensures.value ∙ axis_asked c.args.q.now c.args.v c.related.ensures.inside)
