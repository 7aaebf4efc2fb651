-- Texts told by their form: a byte of some ranges, one form after another, one form or another, any number of one; and the
-- place where a text leaves a form. Assumes nothing: these are definitions.
use Rattle.std.specs.Prelude.{◌≡◌, Bool, true, false, ◌⊎◌, List, [], ◌∷◌, ◌++◌, ℕ, zero, suc, ◌≤◌, ◌<◌, leb, length, take}
use Prim.Native.String.{String}
use Rattle.meaning.specs.Tests.{Is, ◌&◌, ◌or◌}
use Rattle.meaning.specs.Axes.{bytes}

infixr 20 ◌then◌
infixr 10 ◌∣◌
infix 70 ◌to◌
-- one of two, by a test
unfoldable pub pick : {A : Type 0} → Bool → A → A → A
pick true a b = a
pick false a b = b

-- bytes from one to another, both included
pub data Range : Type 0 where
  ◌to◌ : ℕ → ℕ → Range

unfoldable pub within : Range → ℕ → Bool
within (a to z) b = leb a b & leb b z

unfoldable pub among : List Range → ℕ → Bool
among [] b = false
among (r ∷ rs) b = within r b or among rs b

pub data Form : Type 0 where
  none : Form
  empty : Form
  byte : List Range → Form
  ◌then◌ : Form → Form → Form
  ◌∣◌ : Form → Form → Form
  many : Form → Form

-- n texts of a kind, one after another
unfoldable pub Times : (List ℕ → Type 0) → ℕ → List ℕ → Type 0
Times P zero s = s ≡ []
Times P (suc n) s = (a : List ℕ) × (b : List ℕ) × (s ≡ a ++ b) × P a × Times P n b

-- a text has a form
unfoldable pub Has : Form → List ℕ → Type 0
Has none s = ⊥
Has empty s = s ≡ []
Has (byte rs) s = (b : ℕ) × (s ≡ b ∷ []) × Is (among rs b)
Has (f then g) s = (a : List ℕ) × (b : List ℕ) × (s ≡ a ++ b) × Has f a × Has g b
Has (f ∣ g) s = Has f s ⊎ Has g s
Has (many f) s = (n : ℕ) × Times (Has f) n s

-- made of these: one byte, a word, a quoted text, at most n of a form, one form of a list
unfoldable pub just : ℕ → Form
just b = byte (b to b ∷ [])

unfoldable pub word : List ℕ → Form
word [] = empty
word (b ∷ bs) = just b then word bs

unfoldable pub spelt : String → Form
spelt s = word (bytes s)

unfoldable pub up_to : ℕ → Form → Form
up_to zero f = empty
up_to (suc n) f = empty ∣ (f then up_to n f)

unfoldable pub any_of : List Form → Form
any_of [] = none
any_of (f ∷ []) = f
any_of (f ∷ g ∷ fs) = f ∣ any_of (g ∷ fs)

-- some text of the form begins so
abbrev pub Begins : Form → List ℕ → Type 0
Begins f s = (t : List ℕ) × Has f (s ++ t)

-- what is found of a text: it has the form, or a place
pub data Place : Type 0 where
  legal : Place
  bad : ℕ → Place

-- the place is the first byte with which no text of the form goes on, or the length where the text ends early
unfoldable pub IsPlace : Form → List ℕ → Place → Type 0
IsPlace f s legal = Has f s
IsPlace f s (bad p) = (Has f s → ⊥) × (p ≤ length s) × Begins f (take p s) × (p < length s → Begins f (take (suc p) s) → ⊥)
