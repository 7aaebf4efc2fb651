-- The post numbers that a tree yields always form a tree table. Assumes nothing.
use Rattle.std.specs.Prelude.{◌≡◌, refl, Err, List, [], ◌∷◌, ◌++◌, ℕ, zero, suc, ◌+◌, ◌-◌, ◌≤◌, ◌<◌, length, get_or, take, drop, ltb, leb, eqb, Bool, true, false}
use Rattle.std.proofs.Common.{sym, ap, ◌∙◌, subst, suc-add, zero-add, add-zero, arith, length-append, ltb-true, lt-ltb, leb-true, eq-eqb, ne_eqb}
use Rattle.std.proofs.Math.Decide.{dec_lt}
use Rattle.std.proofs.Math.ListN.{get_or-append}
use Rattle.brackets.specs.Texts.{take_front}
use Rattle.meaning.specs.Tests.{Is, ◌&◌, non, every}
use Rattle.meaning.specs.Table.{is_numbered, is_nested, is_tree, is_sized}
use Rattle.meaning.specs.Names.{pick, too_many, label_number}
use Rattle.meaning.specs.Sentences.{Tree, Trees, leaf, node, one, more, size, sizes, nests, posts, postss, labels, labelss, Sentence, tree_of, legal, allowed, Reading, found, wrong_at, large_at, IsReading, sentence_says, sentence_answer, posts_of, labels_of, sentence_leaves, SentenceRead}
use Rattle.meaning.specs.declared.Refusal.TheVariants.{Counts, ShortBuffer}
use Rattle.brackets.specs.Numbers.{read, read-refused, read_rows}
use Rattle.brackets.specs.Both.{and_r, and_in}

-- the numbers n to n + length l - 1, each once, and no three rows a < b < c with post c < post a < post b
pub record Spread (n : ℕ) (l : List ℕ) : Type 0 where
  pub low : (r : ℕ) → r < length l → n ≤ get_or l r 0
  pub high : (r : ℕ) → r < length l → get_or l r 0 < n + length l
  pub once : (q r : ℕ) → q < r → r < length l → get_or l q 0 ≡ get_or l r 0 → ⊥
  pub nested : (a b c : ℕ) → a < b → b < c → c < length l → get_or l c 0 < get_or l a 0 → get_or l a 0 < get_or l b 0 → ⊥

right : (l m : List ℕ) (j : ℕ) → get_or (l ++ m) (length l + j) 0 ≡ get_or m j 0
right [] m j = ap (λ (k : ℕ). get_or m k 0) (zero-add j)
right (x ∷ l) m j = ap (λ (k : ℕ). get_or (x ∷ (l ++ m)) k 0) (suc-add (length l) j) ∙ right l m j

right_of : (l m : List ℕ) (i : ℕ) → length l ≤ i → get_or (l ++ m) i 0 ≡ get_or m (i - length l) 0
right_of l m i h = ap (λ (k : ℕ). get_or (l ++ m) k 0) (let e : i ≡ length l + (i - length l) = omega arith in e) ∙ right l m (i - length l)

pub join : (n : ℕ) (l m : List ℕ) → Spread n l → Spread (n + length l) m → Spread n (l ++ m)
join n l m L M =
    let e = length-append l m in
    record {
      low = λ r h. low r h (dec_lt r (length l));
      high = λ r h. high r h (dec_lt r (length l));
      once = λ q r h k. once q r h k (dec_lt q (length l)) (dec_lt r (length l));
      nested = λ a b c h k i. nested a b c h k i (dec_lt a (length l)) (dec_lt c (length l));
    }
  where
    low : (r : ℕ) → r < length (l ++ m) → Dec (r < length l) → n ≤ get_or (l ++ m) r 0
    low r h (yes i) = omega (arith, get_or-append l m 0 r i, L.low r i)
    low r h (no i) = omega (arith, right_of l m r (omega arith), M.low (r - length l) (omega (arith, length-append l m)))

    high : (r : ℕ) → r < length (l ++ m) → Dec (r < length l) → get_or (l ++ m) r 0 < n + length (l ++ m)
    high r h (yes i) = omega (arith, get_or-append l m 0 r i, L.high r i, length-append l m)
    high r h (no i) = omega (arith, right_of l m r (omega arith), M.high (r - length l) (omega (arith, length-append l m)), length-append l m)

    once : (q r : ℕ) → q < r → r < length (l ++ m) → Dec (q < length l) → Dec (r < length l) → get_or (l ++ m) q 0 ≡ get_or (l ++ m) r 0 → ⊥
    once q r h k (yes i) (yes j) e = L.once q r h j (sym (get_or-append l m 0 q i) ∙ e ∙ get_or-append l m 0 r j)
    once q r h k (yes i) (no j) e = omega (arith, get_or-append l m 0 q i, L.high q i, right_of l m r (omega arith), M.low (r - length l) (omega (arith, length-append l m)))
    once q r h k (no i) (yes j) e = omega arith
    once q r h k (no i) (no j) e =
        M.once (q - length l) (r - length l) (omega arith) (omega (arith, length-append l m)) (sym (right_of l m q (omega arith)) ∙ e ∙ right_of l m r (omega arith))

    nested : (a b c : ℕ) → a < b → b < c → c < length (l ++ m) → Dec (a < length l) → Dec (c < length l) → get_or (l ++ m) c 0 < get_or (l ++ m) a 0 → get_or (l ++ m) a 0 < get_or (l ++ m) b 0 → ⊥
    nested a b c h k i (yes x) (yes y) u v =
        let ea = get_or-append l m 0 a x in
        let eb = get_or-append l m 0 b (omega arith) in
        let ec = get_or-append l m 0 c y in
        L.nested a b c h k y (omega arith) (omega arith)
    nested a b c h k i (yes x) (no y) u v =
        omega (arith, get_or-append l m 0 a x, L.high a x, right_of l m c (omega arith), M.low (c - length l) (omega (arith, length-append l m)))
    nested a b c h k i (no x) (yes y) u v = omega arith
    nested a b c h k i (no x) (no y) u v =
        let ea = right_of l m a (omega arith) in
        let eb = right_of l m b (omega arith) in
        let ec = right_of l m c (omega arith) in
        M.nested (a - length l) (b - length l) (c - length l) (omega arith) (omega arith) (omega (arith, length-append l m)) (omega arith) (omega arith)

-- a root in front, with the number after theirs
pub root : (n : ℕ) (l : List ℕ) → Spread n l → Spread n ((n + length l) ∷ l)
root n l L = record { low = low; high = high; once = once; nested = nested }
  where
    low : (r : ℕ) → r < suc (length l) → n ≤ get_or ((n + length l) ∷ l) r 0
    low zero h = omega arith
    low (suc r) h = L.low r (omega arith)

    high : (r : ℕ) → r < suc (length l) → get_or ((n + length l) ∷ l) r 0 < n + suc (length l)
    high zero h = omega arith
    high (suc r) h = omega (arith, L.high r (omega arith))

    once : (q r : ℕ) → q < r → r < suc (length l) → get_or ((n + length l) ∷ l) q 0 ≡ get_or ((n + length l) ∷ l) r 0 → ⊥
    once q zero h k e = omega arith
    once zero (suc r) h k e = omega (arith, L.high r (omega arith))
    once (suc q) (suc r) h k e = L.once q r (omega arith) (omega arith) e

    nested : (a b c : ℕ) → a < b → b < c → c < suc (length l) → get_or ((n + length l) ∷ l) c 0 < get_or ((n + length l) ∷ l) a 0 → get_or ((n + length l) ∷ l) a 0 < get_or ((n + length l) ∷ l) b 0 → ⊥
    nested a zero c h k i u v = omega arith
    nested a (suc b) zero h k i u v = omega arith
    nested zero (suc b) (suc c) h k i u v = omega (arith, L.high b (omega arith))
    nested (suc a) (suc b) (suc c) h k i u v = L.nested a b c (omega arith) (omega arith) (omega arith) u v

nothing : (n : ℕ) → Spread n []
nothing n = record { low = λ r h. omega arith; high = λ r h. omega arith; once = λ q r h k. omega arith; nested = λ a b c h k i. omega arith }

mutual
  unfolding posts size

  pub posts_length : (t : Tree) (n : ℕ) → length (posts n t) ≡ size t
  posts_length (leaf l b w a) n = refl
  posts_length (node l b ts) n = ap suc (postss_length ts n)

  pub postss_length : (ts : Trees) (n : ℕ) → length (postss n ts) ≡ sizes ts
  postss_length (one t a) n = posts_length t n
  postss_length (more t a ts) n = length-append (posts n t) (postss (n + size t) ts) ∙ (let e = posts_length t n in let e' = postss_length ts (n + size t) in omega arith)

mutual
  unfolding posts size

  pub posts_spread : (t : Tree) (n : ℕ) → Spread n (posts n t)
  posts_spread (leaf l b w a) n = subst (λ (k : ℕ). Spread n (k ∷ [])) (add-zero n) (root n [] (nothing n))
  posts_spread (node l b ts) n = rw (← postss_length ts n) (root n (postss n ts) (postss_spread ts n))

  pub postss_spread : (ts : Trees) (n : ℕ) → Spread n (postss n ts)
  postss_spread (one t a) n = posts_spread t n
  postss_spread (more t a ts) n =
      join n (posts n t) (postss (n + size t) ts) (posts_spread t n) (rw (posts_length t n) (postss_spread ts (n + size t)))

-- ---- the tests of the tree table
every_in : (n : ℕ) (p : ℕ → Bool) → ((k : ℕ) → k < n → Is (p k)) → Is (every n p)
unfolding every
every_in zero p h = refl
every_in (suc n) p h = and_in _ _ (h n (omega arith)) (every_in n p (λ k i. h k (omega arith)))

not_eq : (a b : ℕ) → (a ≡ b → ⊥) → Is (non (eqb a b))
unfolding non
not_eq a b h = rw (ne_eqb a b h)

not_three : (a b c : ℕ) → (c < a → a < b → ⊥) → Is (non (ltb c a & ltb a b))
unfolding non ◌&◌
not_three a b c h = go (ltb c a) (ltb a b) refl refl
  where
    go : (x y : Bool) → ltb c a ≡ x → ltb a b ≡ y → Is (non (x & y))
    go true true e f = absurd (h (ltb-true c a e) (ltb-true a b f))
    go true false e f = refl
    go false y e f = refl

first_is : (t : Tree) → suc (get_or (posts 0 t) 0 0) ≡ size t
unfolding posts size
first_is (leaf l b w a) = refl
first_is (node l b ts) = ap suc (zero-add (sizes ts))

-- the post numbers of a tree are never refused 2 or 3
pub numbered : (t : Tree) → Is (is_numbered (posts 0 t))
unfolding is_numbered
numbered t =
    let S = posts_spread t 0 in
    and_in _ _
    (every_in (length (posts 0 t)) _ (λ r h. and_in _ _ (lt-ltb (get_or (posts 0 t) r 0) (length (posts 0 t)) (omega (arith, S.high r h))) (every_in r _ (λ q k. not_eq _ _ (S.once q r k h)))))
    (eq-eqb _ _ (first_is t ∙ sym (posts_length t 0)))

pub nested : (t : Tree) → Is (is_nested (posts 0 t))
unfolding is_nested
nested t =
    let S = posts_spread t 0 in
    every_in (length (posts 0 t)) _ (λ c h. every_in c _ (λ b k. every_in b _ (λ a j. not_three _ _ _ (S.nested a b c j k h))))

pub size-some : (t : Tree) → 1 ≤ size t
unfolding size
size-some (leaf l b w a) = omega arith
size-some (node l b ts) = omega arith

mutual
  unfolding labels size

  pub labels_length : (f : List ℕ → ℕ) (t : Tree) → length (labels f t) ≡ size t
  labels_length f (leaf l b w a) = refl
  labels_length f (node l b ts) = ap suc (labelss_length f ts)

  pub labelss_length : (f : List ℕ → ℕ) (ts : Trees) → length (labelss f ts) ≡ sizes ts
  labelss_length f (one t a) = labels_length f t
  labelss_length f (more t a ts) = length-append (labels f t) (labelss f ts) ∙ (let e = labels_length f t in let e' = labelss_length f ts in omega arith)

-- ---- what a reading leaves in the first rows of the columns is a tree table: never refused 1, 2 or 3
front_is : (new old : List ℕ) (n : ℕ) → length new ≡ n → take n (new ++ old) ≡ new
front_is new old n h = ap (λ (k : ℕ). take k (new ++ old)) (sym h) ∙ take_front new old

pub record Tabled (rows : ℕ) (post label : List ℕ) : Type 0 where
  pub sized : Is (is_sized (take rows post) (take rows label))
  pub is_tree_lem : Is (is_tree (take rows post))
  pub some : 1 ≤ rows
  pub few : rows ≤ 1024

columns : (list : List ℕ) (x : Sentence) → Is (allowed x) → (old old' : List ℕ)
    → Tabled (size (tree_of x)) (posts 0 (tree_of x) ++ old) (labels (label_number list) (tree_of x) ++ old')
unfolding allowed is_tree is_sized
columns list x h old old' =
    let t = tree_of x in
    let p = front_is (posts 0 t) old (size t) (posts_length t 0) in
    let l = front_is (labels (label_number list) t) old' (size t) (labels_length (label_number list) t) in
    let n = posts_length t 0 in
    let m = labels_length (label_number list) t in
    let k : size t ≤ 1024 = leb-true _ _ (and_r (nests 64 t) _ (and_r (legal x) _ h)) in
    record {
      sized = rw (p, l) (and_in _ _ (eq-eqb _ _ (n ∙ sym m)) (and_in _ _ (lt-ltb 0 (length (posts 0 t)) (omega (arith, size-some t))) (lt-ltb (length (posts 0 t)) 1025 (omega arith))));
      is_tree_lem = rw p (and_in _ _ (numbered t) (nested t));
      some = size-some t;
      few = k;
    }

pub read_table : (text list post label : List ℕ) (rows end : ℕ) (post' label' : List ℕ) → SentenceRead text list post label (read rows end) post' label' → Tabled rows post' label'
unfolding sentence_answer sentence_says pick IsReading posts_of labels_of sentence_leaves
read_table text list post label rows end post' label' R = go R.reading (too_many list) R.is_reading R.answered R.posts_left R.labels-left
  where
    go : (o : Reading) (b : Bool) → IsReading text o → read rows end ≡ pick b (Err Counts) (sentence_says text o (length post) (length label))
        → post' ≡ posts_of o ++ drop rows post → label' ≡ labels_of list o ++ drop rows label → Tabled rows post' label'
    go o true I e p l = absurd (read-refused _ _ e)
    go (wrong_at q) false I e p l = absurd (read-refused _ _ e)
    go (large_at q) false I e p l = absurd (read-refused _ _ e)
    go (found x r) false I e p l = fit (leb (size (tree_of x)) (length post) & leb (size (tree_of x)) (length label)) e
      where
        fit : (c : Bool) → read rows end ≡ pick c (read (size (tree_of x)) (length text - length r)) (Err ShortBuffer) → Tabled rows post' label'
        fit true e = rw (read_rows _ _ e, p, l) (columns list x I.is_allowed _ _)
        fit false e = absurd (read-refused _ _ e)
