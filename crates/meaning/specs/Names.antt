-- The list of names that a sentence is read with, and a row's label number. Assumes nothing: these are definitions.
use Rattle.std.specs.Prelude.{Bool, true, false, List, [], ◌∷◌, ℕ, suc, ltb, eqb, length}
use Rattle.meaning.specs.Tests.{◌&◌, ◌or◌}

-- one of two, by a test
unfoldable pub pick : {A : Type 0} → Bool → A → A → A
pick true a b = a
pick false a b = b

-- the names of a list of any bytes: each is closed by a line feed; what follows the last line feed is ignored
unfoldable pub onto : ℕ → List (List ℕ) → List (List ℕ)
onto x [] = []
onto x (n ∷ names) = (x ∷ n) ∷ names

unfoldable pub names_of : List ℕ → List (List ℕ)
names_of [] = []
names_of (x ∷ list) = pick (eqb x 10) ([] ∷ names_of list) (onto x (names_of list))

-- more than 32 names: 33 line feeds give 4
unfoldable pub too_many : List ℕ → Bool
too_many list = ltb 32 (length (names_of list))

-- a row's name: its label up to, not including, its first - or =
unfoldable pub name_of : List ℕ → List ℕ
name_of [] = []
name_of (x ∷ label) = pick (eqb x 45 or eqb x 61) [] (x ∷ name_of label)

unfoldable pub same : List ℕ → List ℕ → Bool
same [] [] = true
same [] (y ∷ b) = false
same (x ∷ a) [] = false
same (x ∷ a) (y ∷ b) = eqb x y & same a b

-- the place of a name among names that are counted from k: of equal names the first counts; 65,535 where it is not named
unfoldable pub place_from : ℕ → List ℕ → List (List ℕ) → ℕ
place_from k n [] = 65535
place_from k n (m ∷ names) = pick (same n m) k (place_from (suc k) n names)

unfoldable pub label_number : List ℕ → List ℕ → ℕ
label_number list label = place_from 0 (name_of label) (names_of list)
