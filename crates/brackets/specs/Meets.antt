-- What the readers in src answer and leave in the columns, against the reader that computes. Assumes nothing: these are definitions.
use Rattle.std.specs.Prelude.{◌≡◌, Result, Ok, Err, false, List, ℕ, ◌+◌, ◌-◌, ◌≤◌, ◌<◌, length, get_or, set, take, drop, leb}
use Rattle.std.proofs.lemmas.List.Edits.{sets}
use Rattle.meaning.specs.Tests.{Is, ◌&◌}
use Rattle.meaning.specs.Names.{pick, label_number}
use Rattle.meaning.specs.Sentences.{inner, posts, postss, labels, labelss, Sentence, tree_of, sentence_leaves}
use Rattle.meaning.specs.declared.Refusal.TheVariants.{ShortBuffer, Brackets, TooLarge}
use Rattle.meaning.specs.declared.Refusal.{Refusal}
use Rattle.meaning.specs.declared.SentenceReading.{SentenceReading}
use Rattle.brackets.specs.declared.trees.Label.{Label}
use Rattle.brackets.specs.Numbers.{Answer, read}
use Rattle.brackets.specs.Reader.{skip, Got, got, wrong, over, lost, past, worded, read_tree, read_trees, reading}

-- letters at a place, up to the first byte that is none
pub record Letters (s : List ℕ) (at e : ℕ) : Type 0 where
  pub begins : at ≤ e
  pub in_text : e ≤ length s
  pub are : (k : ℕ) → at ≤ k → k < e → Is (inner (get_or s k 0))
  pub stop : inner (get_or s e 0) ≡ false

-- read: rows from `rows` on, with post numbers ps and label numbers ls, up to the place of the rest
pub record Read-as (s : List ℕ) (rows : ℕ) (rest ps ls : List ℕ) (r : Answer) (post post' lab lab' : List ℕ) : Type 0 where
  pub next : ℕ
  pub is : r ≡ read (rows + length ps) next
  pub rest_is : rest ≡ drop next s
  pub in_text : next ≤ length s
  pub few : rows + length ps ≤ 1024
  pub posts_are : post' ≡ sets post rows ps
  pub labels_are : lab' ≡ sets lab rows ls
  pub same : length ls ≡ length ps

-- on a refusal nothing is said of the columns; nor of anything where the fuel is too short
unfoldable pub Meets : {A : Type 0} → (A → List ℕ) → (A → List ℕ) → List ℕ → ℕ → Got A → Answer → List ℕ → List ℕ → List ℕ → List ℕ → Type 0
Meets ps ls s rows (got x rest) r post post' lab lab' = Read-as s rows rest (ps x) (ls x) r post post' lab lab'
Meets ps ls s rows (wrong rest) r post post' lab lab' = r ≡ Err (Brackets (length s - length rest))
Meets ps ls s rows (over rest) r post post' lab lab' = r ≡ Err (TooLarge (length s - length rest))
Meets ps ls s rows lost r post post' lab lab' = Unit {0}

-- a tree behind its opening parenthesis at `at`, and a body of trees whose first opening parenthesis is at `at`, with
-- `levels` left and `rows` read: for every fuel
abbrev pub MeetsTree : List ℕ → List ℕ → ℕ → ℕ → ℕ → Answer → List ℕ → List ℕ → List ℕ → List ℕ → Type 0
MeetsTree s list at levels rows r post post' lab lab' =
    (f : ℕ) → Meets (posts (rows - (64 - levels))) (labels (label_number list)) s rows (read_tree f (drop at s) levels (1024 - rows)) r post post' lab lab'

abbrev pub MeetsBody : List ℕ → List ℕ → ℕ → ℕ → ℕ → Answer → List ℕ → List ℕ → List ℕ → List ℕ → Type 0
MeetsBody s list at levels rows r post post' lab lab' =
    (f : ℕ) → Meets (postss (rows - (64 - levels))) (labelss (label_number list)) s rows (read_trees f (drop (at + 1) s) levels (1024 - rows)) r post post' lab lab'

-- a label from `at` up to e within the limits, and white space behind it up to w
pub record LabelRead (s : List ℕ) (at levels rows e w : ℕ) : Type 0 where
  pub deep : levels ≡ 0 → ⊥
  pub room : rows < 1024
  pub some : at < e
  pub label-end : drop e s ≡ past 64 (drop at s)
  pub gap : e < w
  pub gap-end : drop w s ≡ skip (drop e s)
  pub in_text : w ≤ length s

-- the label of a tree, or a refusal that is the tree's
abbrev pub MeetsLabel : List ℕ → ℕ → ℕ → ℕ → Result Label Refusal → Type 0
MeetsLabel s at levels rows (Ok l) = LabelRead s at levels rows l.end l.body
MeetsLabel s at levels rows (Err why) = (list post post' lab lab' : List ℕ) → MeetsTree s list at levels rows (Err why) post post' lab lab'

-- a closing parenthesis at `at`, and the post number of its row with `rows` read
pub record Closed (s : List ℕ) (at rows levels row : ℕ) (r : Answer) (post post' : List ℕ) : Type 0 where
  pub shut : get_or s at 0 ≡ 41 → (r ≡ read rows (at + 1)) × (post' ≡ set post row (rows - 1 - (64 - levels)))
  pub not_shut : (get_or s at 0 ≡ 41 → ⊥) → r ≡ Err (Brackets at)

-- a leaf's word at `at` and its closing parenthesis, whatever its label
abbrev pub MeetsLeaf : List ℕ → ℕ → ℕ → ℕ → Answer → List ℕ → List ℕ → Type 0
MeetsLeaf s at levels row r post post' =
    (list l b lab : List ℕ) → Meets (posts (row - (64 - levels))) (labels (label_number list)) s row (worded l b (drop at s)) r post post' lab (set lab row (label_number list l))

-- the whole reading
unfoldable pub sent_posts : Sentence → List ℕ
sent_posts x = posts 0 (tree_of x)

unfoldable pub sent_labels : (List ℕ → ℕ) → Sentence → List ℕ
sent_labels num x = labels num (tree_of x)

abbrev pub MeetsWhole : List ℕ → List ℕ → Answer → List ℕ → List ℕ → List ℕ → List ℕ → Type 0
MeetsWhole s list r post post' lab lab' = Meets sent_posts (sent_labels (label_number list)) s 0 (reading s) r post post' lab lab'

-- rows from two columns handed over to two others: the answer, and what the others hold before and afterwards
pub record HandedOver (x : SentenceReading) (posts labels : List ℕ) (r : Answer) (post post' label label' : List ℕ) : Type 0 where
  pub answered : r ≡ pick (leb x.rows (length post) & leb x.rows (length label)) (Ok x) (Err ShortBuffer)
  pub posts_left : post' ≡ sentence_leaves r (take x.rows posts) post
  pub labels-left : label' ≡ sentence_leaves r (take x.rows labels) label
