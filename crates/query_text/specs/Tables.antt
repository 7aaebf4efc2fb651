-- The words of a text, and tables of them. Assumes nothing: these are definitions.
use Rattle.std.specs.Prelude.{◌≡◌, Bool, List, [], ◌∷◌, ◌++◌, ℕ, ◌<◌, ◌≤◌, length, get_or, map}
use Rattle.std.specs.Borrow.{Bor}
use Rattle.meaning.specs.Texts.{pick, among}
use Rattle.meaning.specs.QueryTexts.{in_word, words, is_variable, has, axis-names}
use Rattle.arrayvec.specs.ArrayVec.{ArrayVec}

-- the first n bytes of s are of a word, or are not, and then no more
pub record Front (s : List ℕ) (of_word : Bool) (n : ℕ) : Type 0 where
  pub within : n ≤ length s
  pub alike : (k : ℕ) → k < n → among in_word (get_or s k 0) ≡ of_word
  pub stops : n < length s → ¬ (among in_word (get_or s n 0) ≡ of_word)

-- w is the next word of s, and r stands behind it
pub record Next (s w r : List ℕ) : Type 0 where
  pub all : words [] s ≡ w ∷ words [] r
  pub less : length r < length s

-- the words of a table
unfoldable pub texts : ArrayVec (Bor (List ℕ)) → List (List ℕ)
texts w = map (λ x. x.now) w.items

-- a word more, where it is new
unfoldable pub noted : List (List ℕ) → List ℕ → List (List ℕ)
noted l w = pick (has l w) l (l ++ (w ∷ []))

-- the variables among words, and the label names
unfoldable pub vars_in : List (List ℕ) → List (List ℕ)
vars_in [] = []
vars_in (w ∷ ws) = pick (is_variable w) (w ∷ vars_in ws) (vars_in ws)

unfoldable pub names_in : List (List ℕ) → List (List ℕ)
names_in [] = []
names_in (w ∷ ws) = pick (is_variable w) (names_in ws) (pick (has axis-names w) (names_in ws) (w ∷ names_in ws))
