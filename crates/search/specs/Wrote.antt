-- What a function that writes a part of a line does to the buffer. Assumes nothing: these are definitions.
use Rattle.std.specs.Prelude.{◌≡◌, List, [], ◌∷◌, ◌++◌, ℕ, zero, suc, ◌+◌, ◌≤◌, length, take, drop}
use Rattle.std.proofs.lemmas.List.Edits.{sets}
use Rattle.meaning.specs.Run.{decimal}

-- the new bytes stand from place `at` on, at most `most` of them, and the next place is behind them
pub record Wrote (before : List ℕ) (at most : ℕ) (new after : List ℕ) (next : ℕ) : Type 0 where
  pub behind : next ≡ at + length new
  pub few : length new ≤ most
  pub stored : after ≡ sets before at new

-- row numbers, each after a space
unfoldable pub rows_spaced : List ℕ → List ℕ
rows_spaced [] = []
rows_spaced (r ∷ rs) = 32 ∷ (decimal r ++ rows_spaced rs)

-- the first n tuples of k rows
unfoldable pub chunks : ℕ → ℕ → List ℕ → List (List ℕ)
chunks k zero s = []
chunks k (suc n) s = take k s ∷ chunks k n (drop k s)
