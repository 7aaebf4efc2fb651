use Rattle.std.proofs.Common.{◌∙◌}
use Rattle.query_text.proofs.AnswerLaws.{whole_legal, whole_bad}
use Rattle.query_text.proofs.PutLaws.{err_is}
use Rattle.query_text.proofs.read_query.Goals as goal

pub returns-in_err-find : goal.returns-in_err-find
returns-in_err-find c =
    let w = whole_bad c.args.text.now c.args.names.now _ c.in_err-find.ensures in
    record { value = err_is c.from_residual.result _ c.from_residual.ensures.1 ∙ w.0; names_after = w.1 }

pub returns : goal.returns
returns c = let w = whole_legal c.args.text.now c.args.names.now c.read_legal.result c.read_legal.new.names c.in_ok-find.ensures c.read_legal.ensures in record { value = w.0; names_after = w.1 }
