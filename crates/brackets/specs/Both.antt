-- Two tests at once, and tests that fail. Assumes nothing.
use Rattle.std.specs.Prelude.{refl, Bool, true, false}
use Rattle.std.proofs.lemmas.Bool.{false≢true}
use Rattle.meaning.specs.Tests.{Is, ◌&◌}

pub and_l : (a b : Bool) → Is (a & b) → Is a
unfolding ◌&◌
and_l true b h = refl
and_l false b h = h

pub and_r : (a b : Bool) → Is (a & b) → Is b
unfolding ◌&◌
and_r true b h = h
and_r false b h = absurd (false≢true h)

pub and_in : (a b : Bool) → Is a → Is b → Is (a & b)
unfolding ◌&◌
and_in a b p q = rw (p, q)
