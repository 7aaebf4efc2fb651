-- The place where a text leaves a form, by computing: byte by byte, what may follow and whether any text is left.
-- That this is the place that `IsPlace` tells of, and the only one, is proved with the reader of query texts.
-- Assumes nothing: these are definitions.
use Rattle.std.specs.Prelude.{Bool, true, false, List, [], ◌∷◌, ℕ, suc, leb}
use Rattle.meaning.specs.Tests.{◌&◌, ◌or◌}
use Rattle.meaning.specs.Texts.{pick, Range, ◌to◌, among, Form, none, empty, byte, ◌then◌, ◌∣◌, many, Place, legal, bad}

-- the empty text has the form
unfoldable pub ends : Form → Bool
ends none = false
ends empty = true
ends (byte rs) = false
ends (f then g) = ends f & ends g
ends (f ∣ g) = ends f or ends g
ends (many f) = true

-- some text has the form
unfoldable pub some_byte : List Range → Bool
some_byte [] = false
some_byte ((a to z) ∷ rs) = leb a z or some_byte rs

unfoldable pub alive : Form → Bool
alive none = false
alive empty = true
alive (byte rs) = some_byte rs
alive (f then g) = alive f & alive g
alive (f ∣ g) = alive f or alive g
alive (many f) = true

-- `then` and `∣`, with what says nothing left out
unfoldable pub is_none : Form → Bool
is_none none = true
is_none empty = false
is_none (byte rs) = false
is_none (f then g) = false
is_none (f ∣ g) = false
is_none (many f) = false

unfoldable pub is_empty : Form → Bool
is_empty none = false
is_empty empty = true
is_empty (byte rs) = false
is_empty (f then g) = false
is_empty (f ∣ g) = false
is_empty (many f) = false

unfoldable pub cat : Form → Form → Form
cat f g = pick (is_none f) none (pick (is_empty f) g (f then g))

unfoldable pub alt : Form → Form → Form
alt f g = pick (is_none f) g (pick (is_none g) f (f ∣ g))

-- what may follow byte b
unfoldable pub after : ℕ → Form → Form
after b none = none
after b empty = none
after b (byte rs) = pick (among rs b) empty none
after b (f then g) = let h = cat (after b f) g in pick (ends f) (alt h (after b g)) h
after b (f ∣ g) = alt (after b f) (after b g)
after b (many f) = cat (after b f) (many f)

-- a place, counted from one byte before
unfoldable pub next : Place → Place
next legal = legal
next (bad p) = bad (suc p)

unfoldable pub place : Form → List ℕ → Place
place f [] = pick (ends f) legal (bad 0)
place f (b ∷ s) = let g = after b f in let p = next (place g s) in pick (alive g) p (bad 0)
