-- The proof of `is_white` of src/bytes.rt. Assumes nothing.
use Rattle.std.proofs.Common.{arith}
use Rattle.meaning.specs.Tests.{◌or◌}
use Rattle.meaning.specs.Sentences.{white}
use Rattle.brackets.proofs.bytes.is_white.Goals as goal

pub returns-in-32 : goal.returns-in-32
unfolding white ◌or◌
returns-in-32 c = grind arith

pub returns-in-32-2 : goal.returns-in-32-2
unfolding white ◌or◌
returns-in-32-2 c = grind arith

pub returns-in_default : goal.returns-in_default
unfolding white ◌or◌
returns-in_default c = grind arith

pub returns-in_default-2 : goal.returns-in_default-2
unfolding white ◌or◌
returns-in_default-2 c = grind arith

pub returns-else-b-le32 : goal.returns-else-b-le32
unfolding white ◌or◌
returns-else-b-le32 c = grind arith
