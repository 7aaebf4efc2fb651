-- The tree table, document 01's chapter of that name: post numbers by row, the seven axes, levels. Assumes nothing: these are definitions.
use Rattle.std.specs.Prelude.{Bool, List, ℕ, suc, ltb, eqb, length, get_or}
use Rattle.meaning.specs.Tests.{◌&◌, non, every, some, count}

-- the post number of a row
abbrev pub post : List ℕ → ℕ → ℕ
post t r = get_or t r 0

-- the columns have one length n, and n is 1 to 1,024
unfoldable pub is_sized : List ℕ → List ℕ → Bool
is_sized t labels = eqb (length t) (length labels) & ltb 0 (length t) & ltb (length t) 1025

-- the post numbers are 0 to n - 1, each once (n numbers below n, no two equal), and row 0 has n - 1
unfoldable pub is_numbered : List ℕ → Bool
is_numbered t =
    every (length t) (λ r. ltb (post t r) (length t) & every r (λ q. non (eqb (post t q) (post t r))))
    & eqb (suc (post t 0)) (length t)

-- no three rows a < b < c have post c < post a < post b
unfoldable pub is_nested : List ℕ → Bool
is_nested t =
    every (length t) (λ c. every c (λ b. every b (λ a. non (ltb (post t c) (post t a) & ltb (post t a) (post t b)))))

unfoldable pub is_tree : List ℕ → Bool
is_tree t = is_numbered t & is_nested t

-- Child+: q is below p
unfoldable pub below : List ℕ → ℕ → ℕ → Bool
below t p q = ltb p q & ltb (post t q) (post t p)

-- Child: and no row lies between
unfoldable pub child : List ℕ → ℕ → ℕ → Bool
child t p q = below t p q & non (some (length t) (λ z. below t p z & below t z q))

-- NextSibling+: both are children of one row
unfoldable pub later : List ℕ → ℕ → ℕ → Bool
later t p q = ltb p q & some (length t) (λ z. child t z p & child t z q)

-- NextSibling: and no row is a later sibling of p and an earlier one of q
unfoldable pub next : List ℕ → ℕ → ℕ → Bool
next t p q = later t p q & non (some (length t) (λ z. later t p z & later t z q))

-- Following
unfoldable pub follows : List ℕ → ℕ → ℕ → Bool
follows t p q = ltb p q & ltb (post t p) (post t q)

-- a row's level: the number of its ancestors
unfoldable pub level : List ℕ → ℕ → ℕ
level t r = count (length t) (λ z. below t z r)
