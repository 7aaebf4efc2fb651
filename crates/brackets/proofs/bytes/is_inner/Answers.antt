-- The proof of `is_inner` of src/bytes.rt. Assumes nothing.
use Rattle.std.proofs.Common.{arith}
use Rattle.meaning.specs.Tests.{◌&◌, non}
use Rattle.meaning.specs.Sentences.{inner}
use Rattle.brackets.proofs.bytes.is_inner.Goals as goal

pub returns-then-b-gt41 : goal.returns-then-b-gt41
unfolding inner ◌&◌ non
returns-then-b-gt41 c = grind arith

pub returns-then-b-gt32 : goal.returns-then-b-gt32
unfolding inner ◌&◌ non
returns-then-b-gt32 c = grind arith

pub returns-else-b-gt32 : goal.returns-else-b-gt32
unfolding inner ◌&◌ non
returns-else-b-gt32 c = grind arith
