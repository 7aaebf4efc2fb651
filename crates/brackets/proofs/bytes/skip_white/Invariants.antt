-- The proof of `skip_white` of src/bytes.rt. Assumes nothing.
use Rattle.std.proofs.Common.{◌≡◌, drop}
use Rattle.brackets.specs.Reader.{skip}
use Rattle.brackets.proofs.bytes.skip_white.Given as goal

abbrev pub invariant-loop-i : goal.invariant-loop-i
invariant-loop-i l = skip (drop l.i l.text) ≡ skip (drop l.at l.text)
