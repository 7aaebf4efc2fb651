-- The proof of `rest` of src/lib.rt. Assumes nothing.
use Rattle.brackets.proofs.Rests.{rest_read, rest-refused}
use Rattle.brackets.proofs.rest.Goals as goal

pub returns-in-Ok : goal.returns-in-Ok
returns-in-Ok c = rest_read c.args.text.now c.args.answer c.in-Ok.sentence c.in-Ok.is c.min.result c.min.ensures

pub returns-in-Err : goal.returns-in-Err
returns-in-Err c = rest-refused c.args.text.now c.args.answer c.in-Err.field-0 c.in-Err.is
