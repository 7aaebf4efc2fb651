-- `query_text::machine::find`: the place of the whole text is the machine's, from place i in state q.
use Rattle.query_text.proofs.Running.{At}
use Rattle.query_text.proofs.machine.find.Given as goal

abbrev pub invariant-loop-i : goal.invariant-loop-i
invariant-loop-i l = At l.text l.q l.i
