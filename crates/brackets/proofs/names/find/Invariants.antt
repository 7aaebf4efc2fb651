-- The proof of `names::find` of src/names.rt. Assumes nothing.
use Rattle.brackets.proofs.Lists.{ReadTo}
use Rattle.brackets.proofs.names.find.Given as goal

abbrev pub invariant-loop-i : goal.invariant-loop-i
invariant-loop-i l = ReadTo l.list l.i l.begins l.ends.items l.noted
