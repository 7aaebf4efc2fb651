-- The proof of `letters_end` of src/bytes.rt. Assumes nothing.
use Rattle.std.proofs.Common.{ℕ, ◌≤◌, ◌<◌, get_or}
use Rattle.meaning.specs.Tests.{Is}
use Rattle.meaning.specs.Sentences.{inner}
use Rattle.brackets.proofs.bytes.letters_end.Given as goal

abbrev pub invariant-loop-i : goal.invariant-loop-i
invariant-loop-i l = (k : ℕ) → l.at ≤ k → k < l.i → Is (inner (get_or l.text k 0))
