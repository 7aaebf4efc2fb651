-- The axes in one table: code (the place in the table), name, which of the seven and in which direction, and the set;
-- and the order of rows in each set. Assumes nothing: these are definitions.
use Rattle.std.specs.Prelude.{Bool, List, [], ◌∷◌, ℕ, zero, suc, ◌+◌, ◌*◌, eqb, ltb, length, get_or}
use Prim.Native.Char.{code}
use Prim.Native.String.{String}
use Prim.Native.String as Str
use Rattle.meaning.specs.Tests.{◌or◌}
use Rattle.meaning.specs.Table.{post, below, child, later, next, follows, level}

pub data Kind : Type 0 where
  Child Child⁺ Child* NextSibling NextSibling⁺ NextSibling* Following : Kind

pub data Direction : Type 0 where
  as_written exchanged : Direction

pub record Axis : Type 0 where
  pub name : List ℕ
  pub kind : Kind
  pub direction : Direction
  pub «set» : ℕ

-- the bytes of a quoted text
unfoldable pub bytes : String → List ℕ
bytes Str.[] = []
bytes (Str.◌∷◌ c s) = code c ∷ bytes s

unfoldable pub axes : List Axis
axes =
    record { name = bytes "Child"; kind = Child; direction = as_written; «set» = 3 }
    ∷ record { name = bytes "Child+"; kind = Child⁺; direction = as_written; «set» = 1 }
    ∷ record { name = bytes "Child*"; kind = Child*; direction = as_written; «set» = 1 }
    ∷ record { name = bytes "NextSibling"; kind = NextSibling; direction = as_written; «set» = 3 }
    ∷ record { name = bytes "NextSibling+"; kind = NextSibling⁺; direction = as_written; «set» = 3 }
    ∷ record { name = bytes "NextSibling*"; kind = NextSibling*; direction = as_written; «set» = 3 }
    ∷ record { name = bytes "Following"; kind = Following; direction = as_written; «set» = 2 }
    ∷ []

-- the axis of a code; a code past the table is no axis and is refused by its number (5)
unfoldable pub is_axis : ℕ → Bool
is_axis c = ltb c (length axes)

abbrev no-axis : Axis
no-axis = record { name = []; kind = Child; direction = as_written; «set» = 0 }

unfoldable pub axis_of : ℕ → Axis
axis_of c = get_or axes c no-axis

unfoldable pub set_of : ℕ → ℕ
set_of c = (axis_of c).«set»

-- the axis holds from row p to row q
unfoldable pub kind_holds : Kind → List ℕ → ℕ → ℕ → Bool
kind_holds Child t p q = child t p q
kind_holds Child⁺ t p q = below t p q
kind_holds Child* t p q = eqb p q or below t p q
kind_holds NextSibling t p q = next t p q
kind_holds NextSibling⁺ t p q = later t p q
kind_holds NextSibling* t p q = eqb p q or later t p q
kind_holds Following t p q = follows t p q

unfoldable pub directed : Direction → (ℕ → ℕ → Bool) → ℕ → ℕ → Bool
directed as_written holds p q = holds p q
directed exchanged holds p q = holds q p

unfoldable pub axis_holds : List ℕ → ℕ → ℕ → ℕ → Bool
axis_holds t c p q = directed (axis_of c).direction (kind_holds (axis_of c).kind t) p q

-- the order of rows in a set, by a key: pre-order; post-order; by level, then by row number (row numbers are below 1,024)
unfoldable pub key : ℕ → List ℕ → ℕ → ℕ
key zero t r = r
key (suc zero) t r = r
key (suc (suc zero)) t r = post t r
key (suc (suc (suc s))) t r = level t r * 1024 + r
