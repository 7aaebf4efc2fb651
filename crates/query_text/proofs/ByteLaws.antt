-- Bytes of ranges, range by range. Assumes nothing.
use Rattle.std.proofs.Common.{◌≡◌, ℕ, Bool, true, false, ◌&&◌, ◌||◌, List, [], ◌∷◌, refl}
use Rattle.std.proofs.Math.Dec.{leb}
use Rattle.std.proofs.lemmas.Bool.Decides.{nat_tests}
use Rattle.meaning.specs.Tests.{◌&◌, ◌or◌}
use Rattle.meaning.specs.Texts.{Range, ◌to◌, within, among}

pub both_is : (x y : Bool) → (x & y) ≡ (x && y)
unfolding ◌&◌
both_is true y = refl
both_is false y = refl

pub either_is : (x y : Bool) → (x or y) ≡ (x || y)
unfolding ◌or◌
either_is true y = refl
either_is false y = refl

pub among_none : (b : ℕ) → among [] b ≡ false
unfolding among
among_none b = refl

pub among_more : (a z : ℕ) (rs : List Range) (b : ℕ) → among (a to z ∷ rs) b ≡ ((leb a b && leb b z) || among rs b)
unfolding among within
among_more a z rs b = simp (both_is, either_is)

pub ruleset byte_tests = (among_none, among_more, nat_tests)
