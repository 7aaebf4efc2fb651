-- Parts of texts and lines of a list, as the functions on names see them. Assumes nothing: these are definitions.
use Rattle.std.specs.Prelude.{◌≡◌, Bool, false, List, [], ◌∷◌, ℕ, ◌+◌, ◌-◌, ◌<◌, eqb, length, get_or, take, drop}
use Rattle.meaning.specs.Names.{pick, names_of}

-- the bytes from a up to b
unfoldable pub part : ℕ → ℕ → List ℕ → List ℕ
part a b s = take (b - a) (drop a s)

-- the bytes in front of the first line feed
unfoldable pub ahead : List ℕ → List ℕ
ahead [] = []
ahead (x ∷ s) = pick (eqb x 10) [] (x ∷ ahead s)

-- `ends` has the line feeds of the list from a on, up to i
unfoldable pub MarkedTo : List ℕ → ℕ → List ℕ → ℕ → Type 0
MarkedTo list a [] i = a ≡ i
MarkedTo list a (e ∷ ends) i = (e ≡ a + length (ahead (drop a list))) × (e < length list) × MarkedTo list (e + 1) ends i

-- `ends` has all line feeds of the list from a on
unfoldable pub Marked : List ℕ → ℕ → List ℕ → Type 0
Marked list a [] = names_of (drop a list) ≡ []
Marked list a (e ∷ ends) = (e ≡ a + length (ahead (drop a list))) × (e < length list) × Marked list (e + 1) ends

-- no name begins with b
unfoldable pub NoneBegins : ℕ → List (List ℕ) → Type 0
NoneBegins b [] = Unit {0}
NoneBegins b ([] ∷ names) = NoneBegins b names
NoneBegins b ((y ∷ n) ∷ names) = (b ≡ y → ⊥) × NoneBegins b names

-- a byte that is not noted begins no name, and is neither - nor =
pub record NotedBytes (list : List ℕ) (noted : List Bool) : Type 0 where
  pub size : length noted ≡ 256
  pub missing : (b : ℕ) → b < 256 → get_or noted b false ≡ false → (b ≡ 45 → ⊥) × (b ≡ 61 → ⊥) × NoneBegins b (names_of list)
