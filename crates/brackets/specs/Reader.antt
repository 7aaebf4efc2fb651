-- A reader of bracketed text that computes: the shape that the readers in src follow. Assumes nothing: these are definitions.
use Rattle.std.specs.Prelude.{Bool, true, false, List, [], ◌∷◌, ℕ, zero, suc, ◌+◌, ◌-◌, ◌*◌, length, get_or, drop, ltb, eqb}
use Rattle.meaning.specs.Tests.{◌&◌}
use Rattle.meaning.specs.Names.{pick}
use Rattle.meaning.specs.Sentences.{white, inner, Tree, Trees, leaf, node, one, more, size, Sentence, plain, bare, Reading, found, wrong_at, large_at}

-- what was read and the rest; or the rest from the byte that is wrong, or from the parenthesis that breaks a limit; or out of fuel
pub data Got (A : Type 0) : Type 0 where
  got : A → List ℕ → Got A
  wrong : List ℕ → Got A
  over : List ℕ → Got A
  lost : Got A

unfoldable pub then : {A B : Type 0} → Got A → (A → List ℕ → Got B) → Got B
then (got a r) k = k a r
then (wrong r) k = wrong r
then (over r) k = over r
then lost k = lost

-- what follows the white space at the front
unfoldable pub skip : List ℕ → List ℕ
skip [] = []
skip (x ∷ s) = pick (white x) (skip s) (x ∷ s)

-- the bytes of a label or word at the front, at most n, and what follows them; the white space at the front
unfoldable pub letters : ℕ → List ℕ → List ℕ
letters zero s = []
letters (suc n) [] = []
letters (suc n) (x ∷ s) = pick (inner x) (x ∷ letters n s) []

unfoldable pub past : ℕ → List ℕ → List ℕ
past zero s = s
past (suc n) [] = []
past (suc n) (x ∷ s) = pick (inner x) (past n s) (x ∷ s)

unfoldable pub blanks : List ℕ → List ℕ
blanks [] = []
blanks (x ∷ s) = pick (white x) (x ∷ blanks s) []

unfoldable pub empty : List ℕ → Bool
empty [] = true
empty (x ∷ s) = false

unfoldable pub heads : ℕ → List ℕ → Bool
heads c s = eqb (get_or s 0 0) c

-- behind x: a closing parenthesis
unfoldable pub closing : {A : Type 0} → A → List ℕ → Got A
closing x s = pick (heads 41 s) (got x (drop 1 s)) (wrong s)

unfoldable pub worded : List ℕ → List ℕ → List ℕ → Got Tree
worded l b w = pick (empty (letters 64 w)) (wrong w) (closing (leaf l b (letters 64 w) (blanks (past 64 w))) (skip (past 64 w)))

unfoldable pub bodied : List ℕ → List ℕ → List ℕ → Got Trees → Got Tree
bodied l b w g = pick (heads 40 w) (then g (λ ts. closing (node l b ts))) (worded l b w)

unfoldable pub labelled : List ℕ → Got Tree → Got Tree
labelled u g = pick (empty (letters 64 u)) (wrong u) (pick (empty (blanks (past 64 u))) (wrong (past 64 u)) g)

unfoldable pub limited : ℕ → ℕ → List ℕ → Got Tree → Got Tree
limited lv room u g = pick (ltb 0 lv & ltb 0 room) g (over (40 ∷ u))

unfoldable pub followed : Tree → List ℕ → Got Trees → Got Trees
followed t u g = pick (heads 40 (skip u)) (then g (λ ts. got (more t (blanks u) ts))) (got (one t (blanks u)) (skip u))

-- the text behind an opening parenthesis; with lv levels and room rows left
unfoldable mutual
  pub read_tree : ℕ → List ℕ → ℕ → ℕ → Got Tree
  read_tree zero u lv room = lost
  read_tree (suc f) u lv room =
      let l = letters 64 u in
      let v = past 64 u in
      let w = skip v in
      let g = read_trees f (drop 1 w) (lv - 1) (room - 1) in
      limited lv room u (labelled u (bodied l (blanks v) w g))

  pub read_trees : ℕ → List ℕ → ℕ → ℕ → Got Trees
  read_trees zero u lv room = lost
  read_trees (suc f) u lv room =
      then (read_tree f u lv room) (λ t r. let g = read_trees f (drop 1 (skip r)) lv (room - size t) in followed t r g)

-- the whole: white space, and a tree or a bare pair around one
unfoldable pub paired : List ℕ → List ℕ → Got Tree → Got Sentence
paired s v g = pick (heads 40 (skip v)) (then g (λ t r. closing (bare (blanks s) (blanks v) t (blanks r)) (skip r))) (wrong (skip v))

unfoldable pub reading : List ℕ → Got Sentence
reading s =
    let v = drop 1 (skip s) in
    let f = 2 * length s + 2 in
    let g = read_tree f v 64 1024 in
    let h = read_tree f (drop 1 (skip v)) 64 1024 in
    pick (heads 40 (skip s)) (pick (inner (get_or v 0 0)) (then g (λ t r. got (plain (blanks s) t) r)) (paired s v h)) (wrong (skip s))

-- what was got of a text of n bytes, with the place of a fault
unfoldable pub placed : ℕ → Got Sentence → Reading
placed n (got x r) = found x r
placed n (wrong r) = wrong_at (n - length r)
placed n (over r) = large_at (n - length r)
placed n lost = wrong_at 0

unfoldable pub reading_of : List ℕ → Reading
reading_of s = placed (length s) (reading s)
