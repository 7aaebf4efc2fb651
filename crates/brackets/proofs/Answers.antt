-- The public reader path by path: from what the sentence reader meets to the definition. Assumes nothing.
use Rattle.std.proofs.Common.{Ok, Err, ◌⊎◌, inl, inr, ◌≡◌, refl, sym, ap, ap₂, ◌∙◌, subst, Bool, true, false, List, ◌++◌, ℕ, ◌+◌, ◌-◌, ◌*◌, ◌≤◌, ◌<◌, zero-add, arith, length, get_or, take, drop, take_at, leb, le-leb}
use lib.Seq.{sets, sets-eq}
use borrow.Author.Tests.{lt-leb}
use Rattle.meaning.specs.declared.SentenceReading.{SentenceReading}
use Rattle.meaning.specs.Tests.{◌&◌}
use Rattle.meaning.specs.Names.{pick, too_many, label_number}
use Rattle.meaning.specs.Sentences.{inner, Tree, size, posts, labels, Sentence, tree_of, found, IsReading, sentence_says, sentence_answer, posts_of, labels_of, sentence_leaves, SentenceRead}
use Rattle.meaning.specs.declared.Refusal.{Refusal}
use Rattle.meaning.specs.declared.Refusal.TheVariants.{Counts, ShortBuffer}
use Rattle.brackets.specs.Reader.{skip, Got, got, wrong, over, lost, then, heads, closing, paired, reading, read_tree, placed, reading_of}
use Rattle.brackets.specs.Pieces.{and_not_l, and_not_r}
use Rattle.brackets.specs.Right.{RightTree, tree_right}
use Rattle.brackets.specs.Whole.{short, reading_right}
use Rattle.brackets.specs.Table.{posts_length, labels_length}
use Rattle.brackets.specs.Numbers.{Answer, read, read-refused, read_rows, read-end}
use Rattle.brackets.specs.Meets.{Meets, sent_posts, sent_labels, MeetsWhole, HandedOver}
use Rattle.brackets.proofs.Paths.{place_of}

-- ---- there is always fuel
unfoldable pub Kept : {A : Type 0} → Got A → Type 0
Kept (got x r) = Unit {0}
Kept (wrong r) = Unit {0}
Kept (over r) = Unit {0}
Kept lost = ⊥

kept_tree : (f : ℕ) (u : List ℕ) (lv room : ℕ) → 2 * length u < f → Kept (read_tree f u lv room)
unfolding RightTree Kept
kept_tree f u lv room h = go (read_tree f u lv room) (tree_right f u lv room)
  where
    go : (g : Got Tree) → RightTree f u lv room g → Kept g
    go (got x r) R = tt
    go (wrong r) R = tt
    go (over r) R = tt
    go lost R = absurd (omega (arith, R))

kept_then : (g : Got Tree) (k : Tree → List ℕ → Got Sentence) → Kept g → ((t : Tree) (r : List ℕ) → Kept (k t r)) → Kept (then g k)
unfolding then Kept
kept_then (got t r) k G K = K t r
kept_then (wrong r) k G K = tt
kept_then (over r) k G K = tt
kept_then lost k G K = G

kept-pick : (b : Bool) (g h : Got Sentence) → Kept g → Kept h → Kept (pick b g h)
unfolding pick
kept-pick true g h G H = G
kept-pick false g h G H = H

kept-closing : (x : Sentence) (s : List ℕ) → Kept (closing x s)
unfolding closing Kept
kept-closing x s = kept-pick (heads 41 s) (got x (drop 1 s)) (wrong s) tt tt

pub kept : (s : List ℕ) → Kept (reading s)
unfolding reading paired Kept
kept s =
    let f = 2 * length s + 2 in
    kept-pick (heads 40 (skip s)) _ _
    (kept-pick (inner (get_or (drop 1 (skip s)) 0 0)) _ _
    (kept_then (read_tree (2 * length s + 2) (drop 1 (skip s)) 64 1024) _ (kept_tree (2 * length s + 2) (drop 1 (skip s)) 64 1024 (omega (arith, short s))) (λ t r. tt))
    (kept-pick (heads 40 (skip (drop 1 (skip s)))) _ _
    (kept_then (read_tree (2 * length s + 2) (drop 1 (skip (drop 1 (skip s)))) 64 1024) _ (kept_tree (2 * length s + 2) (drop 1 (skip (drop 1 (skip s)))) 64 1024 (omega (arith, short s, short (drop 1 (skip s))))) (λ t r. kept-closing _ _))
    tt))
    tt

-- ---- the names
pub too_many_lem : (s list post lab : List ℕ) → too_many list ≡ true → SentenceRead s list post lab (Err Counts) post lab
unfolding sentence_answer sentence_leaves pick
too_many_lem s list post lab h = record { reading = reading_of s; is_reading = reading_right s; answered = rw h; posts_left = refl; labels-left = refl }

-- ---- the columns
module _ (x : SentenceReading) (posts labels post label : List ℕ) where
  pub over_all : x.rows ≤ length post → x.rows ≤ length label → (post' label' : List ℕ) → post' ≡ take x.rows posts ++ drop x.rows post → label' ≡ take x.rows labels ++ drop x.rows label
      → HandedOver x posts labels (Ok x) post post' label label'
  unfolding sentence_leaves pick ◌&◌
  over_all a b post' label' P L =
      record {
        answered = rw (le-leb x.rows (length post) a, le-leb x.rows (length label) b);
        posts_left = P;
        labels-left = L;
      }

  pub over_none : (length post < x.rows) ⊎ ((x.rows ≤ length post) × (length label < x.rows)) → HandedOver x posts labels (Err ShortBuffer) post post label label
  unfolding sentence_leaves pick
  over_none h = record { answered = rw (short h); posts_left = refl; labels-left = refl }
    where
      short : (length post < x.rows) ⊎ ((x.rows ≤ length post) × (length label < x.rows)) → (leb x.rows (length post) & leb x.rows (length label)) ≡ false
      short (inl a) = and_not_l _ _ (lt-leb x.rows (length post) a)
      short (inr b) = and_not_r (leb x.rows (length post)) _ (lt-leb x.rows (length label) b.1)

copied : (p ps : List ℕ) (rows : ℕ) → rows ≡ length ps → length ps ≤ length p → take rows (sets p 0 ps) ≡ ps
copied p ps rows e h =
    let z : 0 + length ps ≡ length ps = zero-add (length ps) in
    rw e (ap (take (length ps)) (sets-eq ps p 0 (omega arith)) ∙ take_at ps (drop (0 + length ps) p) (length ps) refl)

module _ (s names list : List ℕ) (n : names ≡ list) (r : Answer) (p p₁ l l₁ : List ℕ) (lp : length p ≡ 1024) (ll : length l ≡ 1024) (T₀ : MeetsWhole s names r p p₁ l l₁) where
  T : MeetsWhole s list r p p₁ l l₁
  T = rw n at T₀

  record Was (next rows : ℕ) : Type 0 where
    x : Sentence
    rest : List ℕ
    eq : reading_of s ≡ found x rest
    place : length s - length rest ≡ next
    count : rows ≡ size (tree_of x)
    few : rows ≤ 1024
    posts_are : p₁ ≡ sets p 0 (posts 0 (tree_of x))
    labels_are : l₁ ≡ sets l 0 (labels (label_number list) (tree_of x))

  was : (next rows : ℕ) → r ≡ read rows next → Was next rows
  unfolding reading_of Kept Meets placed sent_posts sent_labels
  was next rows d = go (reading s) (kept s) T refl
    where
      go : (g : Got Sentence) → Kept g → Meets sent_posts (sent_labels (label_number list)) s 0 g r p p₁ l l₁ → reading s ≡ g → Was next rows
      go (got x rest) K M e =
          let c : 0 + length (posts 0 (tree_of x)) ≡ rows = read_rows _ _ (sym M.is ∙ d) in
          record {
            x = x;
            rest = rest;
            eq = ap (placed (length s)) e;
            place = ap (λ (y : List ℕ). length s - length y) M.rest_is ∙ place_of s M.next M.in_text ∙ read-end _ _ (sym M.is ∙ d);
            count = omega (arith, posts_length (tree_of x) 0);
            few = omega (arith, M.few);
            posts_are = M.posts_are;
            labels_are = M.labels_are;
          }
      go (wrong rest) K M e = absurd (read-refused _ _ (sym d ∙ M))
      go (over rest) K M e = absurd (read-refused _ _ (sym d ∙ M))
      go lost K M e = absurd K

  pub whole-few : (next rows : ℕ) → r ≡ read rows next → rows ≤ 1024
  whole-few next rows d = (was next rows d).few

  module _ (N : too_many list ≡ false) (post lab : List ℕ) where
    pub whole-read : (next rows : ℕ) → r ≡ read rows next → (r' : Answer) (post' lab' : List ℕ) → HandedOver (record { rows = rows; end = next }) p₁ l₁ r' post post' lab lab' → SentenceRead s list post lab r' post' lab'
    unfolding sentence_answer sentence_says posts_of labels_of pick
    whole-read next rows d r' post' lab' H =
        let w = was next rows d in
        let t = tree_of w.x in
        let np : rows ≡ length (posts 0 t) = w.count ∙ sym (posts_length t 0) in
        let nl : rows ≡ length (labels (label_number list) t) = w.count ∙ sym (labels_length (label_number list) t) in
        record {
          reading = found w.x w.rest;
          is_reading = subst (IsReading s) w.eq (reading_right s);
          answered = rw (N) (H.answered
              ∙ ap₂ (λ (k e : ℕ). pick (leb k (length post) & leb k (length lab)) (read k e) (Err ShortBuffer)) w.count (sym w.place));
          posts_left = H.posts_left ∙ ap (λ (x : List ℕ). sentence_leaves r' x post) (ap (take rows) w.posts_are ∙ copied p (posts 0 t) rows np (omega (arith, w.few)));
          labels-left = H.labels-left ∙ ap (λ (x : List ℕ). sentence_leaves r' x lab) (ap (take rows) w.labels_are ∙ copied l (labels (label_number list) t) rows nl (omega (arith, w.few)));
        }

    pub whole_not : (why : Refusal) → r ≡ Err why → SentenceRead s list post lab (Err why) post lab
    unfolding sentence_answer sentence_says sentence_leaves pick reading_of placed Kept Meets
    whole_not why d =
        record {
          reading = reading_of s;
          is_reading = reading_right s;
          answered = rw (N) (refusal (reading s) (kept s) T);
          posts_left = refl;
          labels-left = refl;
        }
      where
        refusal : (g : Got Sentence) → Kept g → Meets sent_posts (sent_labels (label_number list)) s 0 g r p p₁ l l₁ → Err why ≡ sentence_says s (placed (length s) g) (length post) (length lab)
        refusal (got x rest) K M = absurd (read-refused _ _ (sym M.is ∙ d))
        refusal (wrong rest) K M = sym d ∙ M
        refusal (over rest) K M = sym d ∙ M
        refusal lost K M = absurd K
