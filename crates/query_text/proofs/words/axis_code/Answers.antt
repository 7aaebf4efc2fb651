use Rattle.std.proofs.Common.{arith}
use Rattle.meaning.specs.Axes.{axes, bytes}
use Rattle.meaning.specs.QueryTexts.{axis-names}
use Rattle.query_text.proofs.PlaceOf.{axis_below}
use Rattle.query_text.proofs.words.axis_code.Goals as goal

pub returns-in_err-code : goal.returns-in_err-code
unfolding axis-names axes bytes
returns-in_err-code c = rw c.from_residual.ensures c.in_err-code.ensures

pub overflow_cast-result : goal.overflow_cast-result
unfolding axis-names axes bytes
overflow_cast-result c = let h = c.in_ok-code.ensures in let l = axis_below c.args.word.now h.0 in omega (arith, l, h.1)

pub returns : goal.returns
unfolding axis-names axes bytes
returns c = (c.in_ok-code.ensures.0, c.in_ok-code.ensures.1)
