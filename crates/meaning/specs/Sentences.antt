-- The bracketed sentence, document 01's chapter of that name: legal sentences, what a sentence yields, the refusals with
-- their places, and what a reading answers and leaves. Assumes nothing: these are definitions.
use Rattle.std.specs.Prelude.{◌≡◌, Result, Ok, Err, Bool, true, List, [], ◌∷◌, ◌++◌, ℕ, suc, ◌+◌, ◌-◌, ◌≤◌, ◌<◌, length, get_or, take, drop, ltb, leb, eqb}
use Rattle.meaning.specs.Tests.{Is, ◌&◌, ◌or◌, non}
use Rattle.meaning.specs.Names.{pick, too_many, label_number}
use Rattle.meaning.specs.declared.Refusal.{Refusal}
use Rattle.meaning.specs.declared.Refusal.TheVariants.{Counts, ShortBuffer, Brackets, TooLarge}
use Rattle.meaning.specs.declared.SentenceReading.{SentenceReading}

-- white space: space, tab, line feed, carriage return
unfoldable pub white : ℕ → Bool
white x = eqb x 32 or eqb x 9 or eqb x 10 or eqb x 13

-- a byte of a label or word: above 32, and no parenthesis
unfoldable pub inner : ℕ → Bool
inner x = ltb 32 x & non (eqb x 40) & non (eqb x 41)

-- every byte passes
unfoldable pub all : (ℕ → Bool) → List ℕ → Bool
all p [] = true
all p (x ∷ s) = p x & all p s

-- a label or word: 1 to 64 such bytes
unfoldable pub token : List ℕ → Bool
token l = all inner l & ltb 0 (length l) & leb (length l) 64

-- white space, perhaps none; white space, at least one byte
unfoldable pub blank : List ℕ → Bool
blank w = all white w

unfoldable pub gap : List ℕ → Bool
gap w = all white w & ltb 0 (length w)

-- a tree as it is written, with its white space: ( label white word white ), or ( label white trees )
mutual
  pub data Tree : Type 0 where
    leaf : (label after-label word after : List ℕ) → Tree
    node : (label after-label : List ℕ) → Trees → Tree

  -- one or more trees, each with the white space behind it
  pub data Trees : Type 0 where
    one : Tree → (after : List ℕ) → Trees
    more : Tree → (after : List ℕ) → Trees → Trees

-- the text of a tree, in front of the text r
unfoldable mutual
  pub write : Tree → List ℕ → List ℕ
  write (leaf l b w a) r = 40 ∷ (l ++ (b ++ (w ++ (a ++ 41 ∷ r))))
  write (node l b ts) r = 40 ∷ (l ++ (b ++ writes ts (41 ∷ r)))

  pub writes : Trees → List ℕ → List ℕ
  writes (one t a) r = write t (a ++ r)
  writes (more t a ts) r = write t (a ++ writes ts r)

-- labels and words are such, white space is white, and there is some after each label
unfoldable mutual
  pub good : Tree → Bool
  good (leaf l b w a) = token l & gap b & token w & blank a
  good (node l b ts) = token l & gap b & goods ts

  pub goods : Trees → Bool
  goods (one t a) = good t & blank a
  goods (more t a ts) = good t & blank a & goods ts

-- rows: each tree is one
unfoldable mutual
  pub size : Tree → ℕ
  size (leaf l b w a) = 1
  size (node l b ts) = suc (sizes ts)

  pub sizes : Trees → ℕ
  sizes (one t a) = size t
  sizes (more t a ts) = size t + sizes ts

-- the trees nest at most n deep
unfoldable mutual
  pub nests : ℕ → Tree → Bool
  nests n (leaf l b w a) = ltb 0 n
  nests n (node l b ts) = ltb 0 n & nestss (n - 1) ts

  pub nestss : ℕ → Trees → Bool
  nestss n (one t a) = nests n t
  nestss n (more t a ts) = nests n t & nestss n ts

-- the post numbers, rows in the order of opening, numbers from n: a tree's own comes after those of its trees
unfoldable mutual
  pub posts : ℕ → Tree → List ℕ
  posts n (leaf l b w a) = n ∷ []
  posts n (node l b ts) = (n + sizes ts) ∷ postss n ts

  pub postss : ℕ → Trees → List ℕ
  postss n (one t a) = posts n t
  postss n (more t a ts) = posts n t ++ postss (n + size t) ts

-- the label numbers, rows in the order of opening
unfoldable mutual
  pub labels : (List ℕ → ℕ) → Tree → List ℕ
  labels number (leaf l b w a) = number l ∷ []
  labels number (node l b ts) = number l ∷ labelss number ts

  pub labelss : (List ℕ → ℕ) → Trees → List ℕ
  labelss number (one t a) = labels number t
  labelss number (more t a ts) = labels number t ++ labelss number ts

-- a sentence: one tree, or one pair of parentheses without a label around one tree; white space may stand before
pub data Sentence : Type 0 where
  plain : (before : List ℕ) → Tree → Sentence
  bare : (before inside : List ℕ) → Tree → (after : List ℕ) → Sentence

unfoldable pub tree_of : Sentence → Tree
tree_of (plain w t) = t
tree_of (bare w v t a) = t

-- the text of a sentence, in front of the text r
unfoldable pub spell : Sentence → List ℕ → List ℕ
spell (plain w t) r = w ++ write t r
spell (bare w v t a) r = w ++ 40 ∷ (v ++ write t (a ++ 41 ∷ r))

unfoldable pub legal : Sentence → Bool
legal (plain w t) = blank w & good t
legal (bare w v t a) = blank w & blank v & good t & blank a

-- the limits: 64 levels, 1,024 rows
unfoldable pub allowed : Sentence → Bool
allowed x = legal x & nests 64 (tree_of x) & leb (size (tree_of x)) 1024

-- some sentence that passes p begins with c; `Begins legal c`: c continues a legal text
pub record Begins (p : Sentence → Bool) (c : List ℕ) : Type 0 where
  pub sentence : Sentence
  pub passes : Is (p sentence)
  pub others : List ℕ
  pub text : c ++ others ≡ spell sentence []

-- what stands at a text's front: a sentence and then r; or a fault with its place
pub data Reading : Type 0 where
  found : Sentence → (r : List ℕ) → Reading
  wrong_at : (place : ℕ) → Reading
  large_at : (place : ℕ) → Reading

pub record IsSentence (s : List ℕ) (x : Sentence) (r : List ℕ) : Type 0 where
  pub is_allowed : Is (allowed x)
  pub text : s ≡ spell x r

-- 11: no sentence stands at the front; the place is the first byte that continues no legal text, or the length where the
-- text ends early; no limit is broken before it
pub record Is11 (s : List ℕ) (place : ℕ) : Type 0 where
  pub none : (x : Sentence) (r : List ℕ) → Is (legal x) → s ≡ spell x r → ⊥
  pub in_text : place ≤ length s
  pub before : Begins allowed (take place s)
  pub stops : place < length s → Begins legal (take (suc place) s) → ⊥

-- 12: the place is an opening parenthesis, legal there, with which only sentences beyond the limits begin; none is before it
pub record Is12 (s : List ℕ) (place : ℕ) : Type 0 where
  pub opens : get_or s place 0 ≡ 40
  pub before : Begins allowed (take place s)
  pub continues : Begins legal (take (suc place) s)
  pub beyond : Begins allowed (take (suc place) s) → ⊥

unfoldable pub IsReading : List ℕ → Reading → Type 0
IsReading s (found x r) = IsSentence s x r
IsReading s (wrong_at p) = Is11 s p
IsReading s (large_at p) = Is12 s p

-- the answer: 4 for the names, then 11 or 12, then 9 where either column is shorter than the rows
unfoldable pub sentence_says : List ℕ → Reading → ℕ → ℕ → Result SentenceReading Refusal
sentence_says text (found x r) posts labels =
    pick (leb (size (tree_of x)) posts & leb (size (tree_of x)) labels)
    (Ok (record { rows = size (tree_of x); end = length text - length r }))
    (Err ShortBuffer)
sentence_says text (wrong_at p) posts labels = Err (Brackets p)
sentence_says text (large_at p) posts labels = Err (TooLarge p)

unfoldable pub sentence_answer : List ℕ → List ℕ → Reading → ℕ → ℕ → Result SentenceReading Refusal
sentence_answer text list g posts labels = pick (too_many list) (Err Counts) (sentence_says text g posts labels)

-- the sentence's rows in each column
unfoldable pub posts_of : Reading → List ℕ
posts_of (found x r) = posts 0 (tree_of x)
posts_of (wrong_at p) = []
posts_of (large_at p) = []

unfoldable pub labels_of : List ℕ → Reading → List ℕ
labels_of list (found x r) = labels (label_number list) (tree_of x)
labels_of list (wrong_at p) = []
labels_of list (large_at p) = []

-- what a column holds afterwards: the rows and then what was there; on a refusal what was there
unfoldable pub sentence_leaves : Result SentenceReading Refusal → List ℕ → List ℕ → List ℕ
sentence_leaves (Ok x) new column = new ++ drop x.rows column
sentence_leaves (Err r) new column = column

-- a reading of the text with a list of names into two columns: its answer, and the columns before and afterwards
pub record SentenceRead (text list post label : List ℕ) (answer : Result SentenceReading Refusal) (post' label' : List ℕ) : Type 0 where
  pub reading : Reading
  pub is_reading : IsReading text reading
  pub answered : answer ≡ sentence_answer text list reading (length post) (length label)
  pub posts_left : post' ≡ sentence_leaves answer (posts_of reading) post
  pub labels-left : label' ≡ sentence_leaves answer (labels_of list reading) label

-- the part of the text after the sentence, from just behind its last parenthesis; a refusal hands back the whole text
unfoldable pub sentence_rest : List ℕ → Result SentenceReading Refusal → List ℕ
sentence_rest text (Ok x) = drop x.end text
sentence_rest text (Err r) = text
