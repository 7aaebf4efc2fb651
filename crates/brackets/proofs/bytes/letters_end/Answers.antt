-- The proof of `letters_end` of src/bytes.rt. Assumes nothing.
use Rattle.std.proofs.Common.{length, arith}
use Rattle.brackets.proofs.Scanning.{inner-end}
use Rattle.brackets.proofs.bytes.letters_end.Goals as goal

pub returns : goal.returns
returns c = let i = c.loop-i in record { begins = c.requires; in_text = omega arith; are = λ k a b. i.invariant k a (omega arith); stop = inner-end c.args.text.now (length c.args.text.now) (omega arith) }
