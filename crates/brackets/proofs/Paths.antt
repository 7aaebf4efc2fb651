-- The tree reader and the body reader path by path. Assumes nothing.
use Rattle.std.proofs.Common.{Ok, Err, take, ◌⊎◌, inl, inr, ◌≡◌, refl, sym, ap, ap₂, ◌∙◌, subst, true, false, List, [], ◌∷◌, ◌++◌, ℕ, zero, suc, ◌+◌, ◌-◌, ◌*◌, ◌≤◌, ◌<◌, add-zero, add-suc, suc-add, add-one, arith, length, get_or, set, drop, length-append, length-drop, drop_of_length-le, drop-cons, ltb, lt-ltb, le-ltb, eq-eqb, ne_eqb}
use native.Mathlib.Decide.{dec_lt, ℕ_discrete}
use lib.ListN.{get_or-eq_default}
use lib.Seq.{sets, set_comm}
use Rattle.meaning.specs.Tests.{Is, ◌&◌}
use Rattle.meaning.specs.Names.{pick, label_number}
use Rattle.brackets.specs.Both.{and_in}
use Rattle.meaning.specs.Sentences.{white, Tree, Trees, leaf, node, more, posts, postss, labels, labelss, size}
use Rattle.brackets.specs.Reader.{skip, Got, got, wrong, over, lost, then, letters, past, blanks, empty, heads, closing, worded, bodied, labelled, limited, followed, read_tree, read_trees}
use Rattle.brackets.specs.Numbers.{Answer, read, read-refused, read_rows, read-end}
use Rattle.brackets.specs.Meets.{Letters, Read-as, Meets, MeetsTree, MeetsBody, LabelRead, MeetsLabel, Closed, MeetsLeaf}
use Rattle.brackets.specs.Texts.{inside-at}
use Rattle.brackets.proofs.Lists.{label-part}
use Rattle.brackets.proofs.Scanning.{skip-on, skip_here, inner_not_white, inner_not_41, letters-short, letters_long}
use Rattle.brackets.specs.Table.{posts_length, postss_length}
use Rattle.brackets.specs.Pieces.{letters-past, blanks-skip, and_not_l, and_not_r}
use Rattle.brackets.specs.Right.{RightTree, RightTrees, tree_right, trees_right, write_long}
use Rattle.meaning.specs.declared.Refusal.{Refusal}
use Rattle.meaning.specs.declared.Refusal.TheVariants.{Brackets, TooLarge}

-- ---- places and rests
pub head-drop : (s : List ℕ) (k : ℕ) → get_or (drop k s) 0 0 ≡ get_or s k 0
head-drop s k = go (dec_lt k (length s))
  where
    go : Dec (k < length s) → get_or (drop k s) 0 0 ≡ get_or s k 0
    go (yes h) = ap (λ (y : List ℕ). get_or y 0 0) (drop-cons s k 0 h)
    go (no h) = ap (λ (y : List ℕ). get_or y 0 0) (drop_of_length-le s {i = k} (omega arith)) ∙ sym (get_or-eq_default s 0 {n = k} (omega arith))

pub heads_yes : (s : List ℕ) (k c : ℕ) → get_or s k 0 ≡ c → heads c (drop k s) ≡ true
unfolding heads
heads_yes s k c e = eq-eqb _ _ (head-drop s k ∙ e)

pub heads-no : (s : List ℕ) (k c : ℕ) → (get_or s k 0 ≡ c → ⊥) → heads c (drop k s) ≡ false
unfolding heads
heads-no s k c n = ne_eqb _ _ (λ e. n (sym (head-drop s k) ∙ e))

pub drop-one : (s : List ℕ) (k : ℕ) → drop 1 (drop k s) ≡ drop (k + 1) s
drop-one s k = go (dec_lt k (length s))
  where
    go : Dec (k < length s) → drop 1 (drop k s) ≡ drop (k + 1) s
    go (yes h) = ap (drop 1) (drop-cons s k 0 h) ∙ ap (λ (j : ℕ). drop j s) (sym (add-one k))
    go (no h) = ap (drop 1) (drop_of_length-le s {i = k} (omega arith)) ∙ sym (drop_of_length-le s {i = k + 1} (omega arith))

pub place_of : (s : List ℕ) (k : ℕ) → k ≤ length s → length s - length (drop k s) ≡ k
place_of s k h = let e = length-drop k s in omega arith

empty_yes : (l : List ℕ) → length l ≡ 0 → empty l ≡ true
unfolding empty
empty_yes [] e = refl
empty_yes (x ∷ l) e = absurd (omega arith)

empty-no : (l : List ℕ) → 0 < length l → empty l ≡ false
unfolding empty
empty-no [] e = absurd (omega arith)
empty-no (x ∷ l) e = refl

module _ (s : List ℕ) (at e : ℕ) (a : at ≤ e) (b : e ≤ length s) where
  pub letters-count : drop e s ≡ past 64 (drop at s) → length (letters 64 (drop at s)) ≡ e - at
  letters-count h =
      let p = ap length (letters-past 64 (drop at s)) in
      let q = length-append (letters 64 (drop at s)) (past 64 (drop at s)) in
      let i = ap length h in
      let j = length-drop at s in
      let k = length-drop e s in
      omega arith

  pub blanks-count : drop e s ≡ skip (drop at s) → length (blanks (drop at s)) ≡ e - at
  blanks-count h =
      let p = ap length (blanks-skip (drop at s)) in
      let q = length-append (blanks (drop at s)) (skip (drop at s)) in
      let i = ap length h in
      let j = length-drop at s in
      let k = length-drop e s in
      omega arith

-- ---- columns
pub set_before : (l : List ℕ) (i j v : ℕ) (vs : List ℕ) → i < j → set (sets l j vs) i v ≡ sets (set l i v) j vs
set_before l i j v [] h = refl
set_before l i j v (w ∷ vs) h =
    set_before (set l j w) i (suc j) v vs (omega arith) ∙ ap (λ (x : List ℕ). sets x (suc j) vs) (set_comm l j i w v (λ (e : j ≡ i). omega arith))

pub sets_more : (l : List ℕ) (i : ℕ) (vs ws : List ℕ) → sets (sets l i vs) (i + length vs) ws ≡ sets l i (vs ++ ws)
sets_more l i [] ws = ap (λ (k : ℕ). sets l k ws) (add-zero i)
sets_more l i (v ∷ vs) ws =
    ap (λ (k : ℕ). sets (sets (set l i v) (suc i) vs) k ws) (add-suc i (length vs) ∙ sym (suc-add i (length vs))) ∙ sets_more (set l i v) (suc i) vs ws

-- ---- answers
module _ {A : Type 0} (ps ls : A → List ℕ) (s : List ℕ) (rows : ℕ) (post post' lab lab' : List ℕ) where
  pub meets_wrong : (g : Got A) (k : ℕ) → k ≤ length s → g ≡ wrong (drop k s) → Meets ps ls s rows g (Err (Brackets k)) post post' lab lab'
  unfolding Meets
  meets_wrong g k h e = rw e (ap (λ (k : ℕ). Err (Brackets k)) (sym (place_of s k h)))

-- ---- the tree reader
posts_node : (n : ℕ) (l b : List ℕ) (ts : Trees) → posts n (node l b ts) ≡ (n + length (postss n ts)) ∷ postss n ts
unfolding posts
posts_node n l b ts = ap (λ (k : ℕ). (n + k) ∷ postss n ts) (sym (postss_length ts n))

module _ (u : List ℕ) (lv room f : ℕ) where
  tree_far : (ltb 0 lv & ltb 0 room) ≡ false → read_tree (suc f) u lv room ≡ over (40 ∷ u)
  unfolding read_tree limited pick
  tree_far N = rw N

  module _ (N : Is (ltb 0 lv & ltb 0 room)) where
    tree_bare : empty (letters 64 u) ≡ true → read_tree (suc f) u lv room ≡ wrong u
    unfolding read_tree limited labelled pick
    tree_bare e = rw (N, e)

    module _ (e : empty (letters 64 u) ≡ false) where
      tree_tight : empty (blanks (past 64 u)) ≡ true → read_tree (suc f) u lv room ≡ wrong (past 64 u)
      unfolding read_tree limited labelled pick
      tree_tight k = rw (N, e, k)

      tree_word : empty (blanks (past 64 u)) ≡ false → heads 40 (skip (past 64 u)) ≡ false → read_tree (suc f) u lv room ≡ worded (letters 64 u) (blanks (past 64 u)) (skip (past 64 u))
      unfolding read_tree limited labelled bodied pick
      tree_word k h = rw (N, e, k, h)

      tree_trees : empty (blanks (past 64 u)) ≡ false → heads 40 (skip (past 64 u)) ≡ true
          → read_tree (suc f) u lv room ≡ then (read_trees f (drop 1 (skip (past 64 u))) (lv - 1) (room - 1)) (λ ts. closing (node (letters 64 u) (blanks (past 64 u)) ts))
      unfolding read_tree limited labelled bodied pick
      tree_trees k h = rw (N, e, k, h)

module _ (s list : List ℕ) (at lv rows : ℕ) (post post' lab lab' : List ℕ) where
  pub tree_over : 1 ≤ at → at ≤ length s → (ltb 0 lv & ltb 0 (1024 - rows)) ≡ false → MeetsTree s list at lv rows (Err (TooLarge (at - 1))) post post' lab lab'
  unfolding Meets read_tree
  tree_over a b N zero = tt
  tree_over a b N (suc f) = rw (tree_far (drop at s) lv (1024 - rows) f N) (ap (λ (k : ℕ). Err (TooLarge k)) (let e = length-drop at s in omega arith))

  -- the label ends at e
  module _ (l : lv ≡ 0 → ⊥) (m : rows < 1024) (e : ℕ) (E : drop e s ≡ past 64 (drop at s)) (i : at ≤ e) (j : e ≤ length s) where
    within_limits : Is (ltb 0 lv & ltb 0 (1024 - rows))
    within_limits = and_in _ _ (lt-ltb 0 lv (omega (arith, l))) (lt-ltb 0 (1024 - rows) (omega arith))

    pub tree_no_label : e ≡ at → MeetsTree s list at lv rows (Err (Brackets at)) post post' lab lab'
    unfolding Meets read_tree
    tree_no_label q zero = tt
    tree_no_label q (suc f) =
        meets_wrong (posts (rows - (64 - lv))) (labels (label_number list)) s rows post post' lab lab' _ at (omega arith)
        (tree_bare (drop at s) lv (1024 - rows) f within_limits (empty_yes _ (omega (arith, letters-count s at e i j E))))

    module _ (n : e ≡ at → ⊥) where
      labelled_yes : empty (letters 64 (drop at s)) ≡ false
      labelled_yes = empty-no _ (omega (arith, letters-count s at e i j E, n))

      module _ (w : ℕ) (W : drop w s ≡ skip (drop e s)) (x : e ≤ w) (y : w ≤ length s) where
        gap-count : length (blanks (past 64 (drop at s))) ≡ w - e
        gap-count = ap (λ (q : List ℕ). length (blanks q)) (sym E) ∙ blanks-count s e w x y W

        pub tree_no_gap : w ≡ e → MeetsTree s list at lv rows (Err (Brackets e)) post post' lab lab'
        unfolding Meets read_tree
        tree_no_gap q zero = tt
        tree_no_gap q (suc f) =
            meets_wrong (posts (rows - (64 - lv))) (labels (label_number list)) s rows post post' lab lab' _ e j
            (tree_tight (drop at s) lv (1024 - rows) f within_limits labelled_yes (empty_yes _ (omega (arith, gap-count))) ∙ ap wrong (sym E))

-- a body and then a closing parenthesis
module _ (s list : List ℕ) (rows n : ℕ) (l b : List ℕ) (g : Got Trees) (r : Answer) (post post₁ lab₀ lab₁ : List ℕ)
    (B : Meets (postss n) (labelss (label_number list)) s (rows + 1) g r post post₁ lab₀ lab₁) where
  shut_no : (next after : ℕ) → r ≡ read after next → (get_or s next 0 ≡ 41 → ⊥) → (post' lab lab' : List ℕ)
      → Meets (posts n) (labels (label_number list)) s rows (then g (λ ts. closing (node l b ts))) (Err (Brackets next)) post post' lab lab'
  unfolding Meets then closing pick
  shut_no next after d q post' lab lab' = go g B
    where
      go : (g : Got Trees) → Meets (postss n) (labelss (label_number list)) s (rows + 1) g r post post₁ lab₀ lab₁ → Meets (posts n) (labels (label_number list)) s rows (then g (λ ts. closing (node l b ts))) (Err (Brackets next)) post post' lab lab'
      go (got x rest) M =
          let e : M.next ≡ next = read-end _ _ (sym M.is ∙ d) in
          let R : rest ≡ drop next s = M.rest_is ∙ ap (λ (k : ℕ). drop k s) e in
          rw (ap (heads 41) R ∙ heads-no s next 41 q) (ap (λ (k : ℕ). Err (Brackets k)) (sym (place_of s next (omega (arith, M.in_text, e))) ∙ ap (λ (y : List ℕ). length s - length y) (sym R)))
      go (wrong rest) M = absurd (read-refused _ _ (sym d ∙ M))
      go (over rest) M = absurd (read-refused _ _ (sym d ∙ M))
      go lost M = tt

  shut_refused : (why : Refusal) → r ≡ Err why → (post' lab lab' : List ℕ)
      → Meets (posts n) (labels (label_number list)) s rows (then g (λ ts. closing (node l b ts))) (Err why) post post' lab lab'
  unfolding Meets then closing
  shut_refused why d post' lab lab' = go g B
    where
      go : (g : Got Trees) → Meets (postss n) (labelss (label_number list)) s (rows + 1) g r post post₁ lab₀ lab₁ → Meets (posts n) (labels (label_number list)) s rows (then g (λ ts. closing (node l b ts))) (Err why) post post' lab lab'
      go (got x rest) M = absurd (read-refused _ _ (sym M.is ∙ d))
      go (wrong rest) M = sym d ∙ M
      go (over rest) M = sym d ∙ M
      go lost M = tt

  shut_yes : (next after v : ℕ) → r ≡ read after next → get_or s next 0 ≡ 41 → next < length s → (lab : List ℕ) → lab₀ ≡ set lab rows (label_number list l) → v ≡ n + (after - (rows + 1))
      → Meets (posts n) (labels (label_number list)) s rows (then g (λ ts. closing (node l b ts))) (read after (next + 1)) post (set post₁ rows v) lab lab₁
  unfolding Meets then closing pick labels
  shut_yes next after v d q i lab L Q = go g B
    where
      go : (g : Got Trees) → Meets (postss n) (labelss (label_number list)) s (rows + 1) g r post post₁ lab₀ lab₁ → Meets (posts n) (labels (label_number list)) s rows (then g (λ ts. closing (node l b ts))) (read after (next + 1)) post (set post₁ rows v) lab lab₁
      go (got x rest) M =
          let e : M.next ≡ next = read-end _ _ (sym M.is ∙ d) in
          let c : rows + 1 + length (postss n x) ≡ after = read_rows _ _ (sym M.is ∙ d) in
          let R : rest ≡ drop next s = M.rest_is ∙ ap (λ (k : ℕ). drop k s) e in
          let p : v ≡ n + length (postss n x) = Q ∙ omega arith in
          rw (ap (heads 41) R ∙ heads_yes s next 41 q, posts_node n l b x)
          (record {
            next = next + 1;
            is = ap (λ (k : ℕ). read k (next + 1)) (omega arith);
            rest_is = ap (drop 1) R ∙ drop-one s next;
            in_text = omega arith;
            few = omega (arith, M.few);
            posts_are = ap₂ (λ (y : List ℕ) (k : ℕ). set y rows k) M.posts_are p ∙ set_before post rows (rows + 1) _ (postss n x) (omega arith) ∙ ap (λ (k : ℕ). sets (set post rows (n + length (postss n x))) k (postss n x)) (add-one rows);
            labels_are = M.labels_are ∙ ap₂ (λ (y : List ℕ) (k : ℕ). sets y k (labelss (label_number list) x)) L (add-one rows);
            same = ap suc M.same;
          })
      go (wrong rest) M = absurd (read-refused _ _ (sym d ∙ M))
      go (over rest) M = absurd (read-refused _ _ (sym d ∙ M))
      go lost M = tt

-- the label reader
module _ (s : List ℕ) (at lv rows : ℕ) where
  label-refused : (why : Refusal) → ((list post post' lab lab' : List ℕ) → MeetsTree s list at lv rows (Err why) post post' lab lab') → MeetsLabel s at lv rows (Err why)
  label-refused why h = h

  pub label_over : 1 ≤ at → at ≤ length s → (lv ≡ 0) ⊎ ((lv ≡ 0 → ⊥) × (1024 ≤ rows)) → MeetsLabel s at lv rows (Err (TooLarge (at - 1)))
  label_over a b z = label-refused _ (λ list post post' lab lab'. tree_over s list at lv rows post post' lab lab' a b (no_room z))
    where
      no_room : (lv ≡ 0) ⊎ ((lv ≡ 0 → ⊥) × (1024 ≤ rows)) → (ltb 0 lv & ltb 0 (1024 - rows)) ≡ false
      no_room (inl e) = and_not_l (ltb 0 lv) _ (le-ltb 0 lv (omega arith))
      no_room (inr e) = and_not_r (ltb 0 lv) _ (le-ltb 0 (1024 - rows) (omega (arith, e.1)))

  module _ (l : lv ≡ 0 → ⊥) (m : rows < 1024) (e : ℕ) (L : Letters s at e) where
    pub label_none : e ≡ at → MeetsLabel s at lv rows (Err (Brackets at))
    label_none q =
        label-refused _ (λ list post post' lab lab'. tree_no_label s list at lv rows post post' lab lab' l m e (letters-short s at e L (omega arith)) L.begins L.in_text q)

    pub label_long : 64 < e - at → MeetsLabel s at lv rows (Err (Brackets (at + 64)))
    label_long q =
        let z = letters_long s at e L q in
        let k : at + 64 ≤ length s = omega (arith, L.in_text) in
        label-refused _ (λ list post post' lab lab'. tree_no_gap s list at lv rows post post' lab lab' l m (at + 64) z.0 (omega arith) k (λ e. omega arith)
        (at + 64) (sym (skip_here s (at + 64) (inner_not_white _ z.1))) (omega arith) k refl)

    module _ (n : e ≡ at → ⊥) (k : e - at ≤ 64) where
      pub label_tight : white (get_or s e 0) ≡ false → MeetsLabel s at lv rows (Err (Brackets e))
      label_tight q =
          label-refused _ (λ list post post' lab lab'. tree_no_gap s list at lv rows post post' lab lab' l m e (letters-short s at e L k) L.begins L.in_text n
          e (sym (skip_here s e q)) (omega arith) L.in_text refl)

      pub label_done : Is (white (get_or s e 0)) → (w : ℕ) → drop w s ≡ skip (drop (e + 1) s) → e + 1 ≤ w → w ≤ length s → MeetsLabel s at lv rows (Ok (record { end = e; body = w }))
      label_done q w W x y =
          record {
            deep = l;
            room = m;
            some = omega (arith, L.begins, n);
            label-end = letters-short s at e L k;
            gap = omega arith;
            gap-end = W ∙ skip-on s e q;
            in_text = y;
          }

room_in : (rows : ℕ) → 1024 - (rows + 1) ≡ 1024 - rows - 1
room_in rows = omega arith

base_in : (lv rows : ℕ) → (lv ≡ 0 → ⊥) → lv ≤ 64 → 64 ≤ lv + rows → rows + 1 - (64 - (lv - 1)) ≡ rows - (64 - lv)
base_in zero rows l a b = absurd (l refl)
base_in (suc lv) rows l a b = let e : suc lv - 1 ≡ lv = omega arith in rw e (less lv rows a b)
  where
    less : (lv rows : ℕ) → suc lv ≤ 64 → 64 ≤ suc lv + rows → rows + 1 - (64 - lv) ≡ rows - (64 - suc lv)
    less lv rows a b = omega arith

-- the tree reader, its label read
module _ (s list : List ℕ) (at lv rows e w : ℕ) (L : LabelRead s at lv rows e w) (v₀ : ℕ) (Q : v₀ ≡ label_number list (take (e - at) (drop at s))) (post lab : List ℕ) where
  has_limits : Is (ltb 0 lv & ltb 0 (1024 - rows))
  has_limits = within_limits s list at lv rows post post lab lab L.deep L.room e L.label-end (omega (arith, L.some)) (omega (arith, L.gap, L.in_text))

  has-label : empty (letters 64 (drop at s)) ≡ false
  has-label = empty-no _ (omega (arith, letters-count s at e (omega (arith, L.some)) (omega (arith, L.gap, L.in_text)) L.label-end, L.some))

  body_here : drop w s ≡ skip (past 64 (drop at s))
  body_here = L.gap-end ∙ ap skip L.label-end

  has-gap : empty (blanks (past 64 (drop at s))) ≡ false
  has-gap =
      empty-no _ (omega (arith, ap (λ (q : List ℕ). length (blanks q)) (sym L.label-end), blanks-count s e w (omega (arith, L.gap)) L.in_text L.gap-end, L.gap))

  number_is : v₀ ≡ label_number list (letters 64 (drop at s))
  number_is = Q ∙ ap (label_number list) (label-part s at e (letters-count s at e (omega (arith, L.some)) (omega (arith, L.gap, L.in_text)) L.label-end))

  pub tree_leaf : (r : Answer) (post' : List ℕ) → (get_or s w 0 ≡ 40 → ⊥) → MeetsLeaf s w lv rows r post post' → MeetsTree s list at lv rows r post post' lab (set lab rows v₀)
  unfolding Meets read_tree
  tree_leaf r post' h M zero = tt
  tree_leaf r post' h M (suc f) =
      rw (tree_word (drop at s) lv (1024 - rows) f has_limits has-label has-gap (ap (heads 40) (sym body_here) ∙ heads-no s w 40 h), number_is)
      (subst
      (λ (z : List ℕ). Meets (posts (rows - (64 - lv))) (labels (label_number list)) s rows (worded (letters 64 (drop at s)) (blanks (past 64 (drop at s))) z) r post post' lab (set lab rows (label_number list (letters 64 (drop at s))))) body_here
      (M list (letters 64 (drop at s)) (blanks (past 64 (drop at s))) lab))

  -- and its body
  module _ (h : get_or s w 0 ≡ 40) (k₀ : lv ≤ 64) (k : 64 ≤ lv + rows) (post₁ lab₁ : List ℕ) (r : Answer) (B : MeetsBody s list w (lv - 1) (rows + 1) r post post₁ (set lab rows v₀) lab₁) where
    body_as : (f : ℕ) → Meets (postss (rows - (64 - lv))) (labelss (label_number list)) s (rows + 1) (read_trees f (drop 1 (skip (past 64 (drop at s)))) (lv - 1) (1024 - rows - 1)) r post post₁ (set lab rows v₀) lab₁
    body_as f =
        let p : rows + 1 - (64 - (lv - 1)) ≡ rows - (64 - lv) = base_in lv rows L.deep k₀ k in
        let q : 1024 - (rows + 1) ≡ 1024 - rows - 1 = room_in rows in
        let W : drop (w + 1) s ≡ drop 1 (skip (past 64 (drop at s))) = sym (drop-one s w) ∙ ap (drop 1) body_here in
        subst (λ (z : List ℕ). Meets (postss (rows - (64 - lv))) (labelss (label_number list)) s (rows + 1) (read_trees f z (lv - 1) (1024 - rows - 1)) r post post₁ (set lab rows v₀) lab₁) W
        (subst (λ (z : ℕ). Meets (postss (rows - (64 - lv))) (labelss (label_number list)) s (rows + 1) (read_trees f (drop (w + 1) s) (lv - 1) z) r post post₁ (set lab rows v₀) lab₁) q
        (subst (λ (z : ℕ). Meets (postss z) (labelss (label_number list)) s (rows + 1) (read_trees f (drop (w + 1) s) (lv - 1) (1024 - (rows + 1))) r post post₁ (set lab rows v₀) lab₁) p
        (B f)))

    read_in : (f : ℕ) → read_tree (suc f) (drop at s) lv (1024 - rows)
        ≡ then (read_trees f (drop 1 (skip (past 64 (drop at s)))) (lv - 1) (1024 - rows - 1)) (λ ts. closing (node (letters 64 (drop at s)) (blanks (past 64 (drop at s))) ts))
    read_in f = tree_trees (drop at s) lv (1024 - rows) f has_limits has-label has-gap (ap (heads 40) (sym body_here) ∙ heads_yes s w 40 h)

    pub tree_refused : (why : Refusal) → r ≡ Err why → (post' lab' : List ℕ) → MeetsTree s list at lv rows (Err why) post post' lab lab'
    unfolding Meets read_tree
    tree_refused why d post' lab' zero = tt
    tree_refused why d post' lab' (suc f) = rw (read_in f) (shut_refused s list rows _ _ _ _ r post post₁ _ lab₁ (body_as f) why d post' lab lab')

    module _ (next after : ℕ) (d : r ≡ read after next) where
      tree_open : (get_or s next 0 ≡ 41 → ⊥) → (post' lab' : List ℕ) → MeetsTree s list at lv rows (Err (Brackets next)) post post' lab lab'
      unfolding Meets read_tree
      tree_open q post' lab' zero = tt
      tree_open q post' lab' (suc f) = rw (read_in f) (shut_no s list rows _ _ _ _ r post post₁ _ lab₁ (body_as f) next after d q post' lab lab')

      tree_done : get_or s next 0 ≡ 41 → rows + 1 ≤ after → MeetsTree s list at lv rows (read after (next + 1)) post (set post₁ rows (after - 1 - (64 - lv))) lab lab₁
      unfolding Meets read_tree
      tree_done q c zero = tt
      tree_done q c (suc f) =
          rw (read_in f)
          (shut_yes s list rows (rows - (64 - lv)) (letters 64 (drop at s)) _ _ r post post₁ _ lab₁ (body_as f) next after (after - 1 - (64 - lv)) d q (inside-at s next 40 q) lab (ap (set lab rows) number_is) (omega arith))

      pub tree_closed : (r' : Answer) (post' : List ℕ) → rows + 1 ≤ after → Closed s next after lv rows r' post₁ post' → MeetsTree s list at lv rows r' post post' lab lab₁
      tree_closed r' post' c C = go (ℕ_discrete (get_or s next 0) 41)
        where
          go : Dec (get_or s next 0 ≡ 41) → MeetsTree s list at lv rows r' post post' lab lab₁
          go (yes q) = rw ((C.shut q).0, (C.shut q).1) (tree_done q c)
          go (no q) = rw (C.not_shut q) (tree_open q post' lab₁)

-- ---- the leaf reader
module _ (s : List ℕ) (at lv row : ℕ) (post post' : List ℕ) (e : ℕ) (L : Letters s at e) where
  pub leaf_none : e ≡ at → MeetsLeaf s at lv row (Err (Brackets at)) post post'
  unfolding worded pick
  leaf_none q list l b lab =
      meets_wrong (posts (row - (64 - lv))) (labels (label_number list)) s row post post' lab _ _ at (omega (arith, L.in_text))
      (rw (empty_yes (letters 64 (drop at s)) (omega (arith, letters-count s at e L.begins L.in_text (letters-short s at e L (omega arith))))))

  worded-at : (e₁ y : ℕ) → drop e₁ s ≡ past 64 (drop at s) → at < e₁ → e₁ ≤ length s → drop y s ≡ skip (drop e₁ s) → (l b : List ℕ)
      → worded l b (drop at s) ≡ closing (leaf l b (letters 64 (drop at s)) (blanks (past 64 (drop at s)))) (drop y s)
  unfolding worded pick
  worded-at e₁ y E i j Y l b =
      rw (empty-no (letters 64 (drop at s)) (omega (arith, letters-count s at e₁ (omega arith) j E))) (ap (closing (leaf l b (letters 64 (drop at s)) (blanks (past 64 (drop at s))))) (ap skip (sym E) ∙ sym Y))

  leaf_open : (e₁ y : ℕ) → drop e₁ s ≡ past 64 (drop at s) → at < e₁ → e₁ ≤ length s → drop y s ≡ skip (drop e₁ s) → y ≤ length s → (get_or s y 0 ≡ 41 → ⊥) → MeetsLeaf s at lv row (Err (Brackets y)) post post'
  unfolding closing pick
  leaf_open e₁ y E i j Y k q list l b lab =
      meets_wrong (posts (row - (64 - lv))) (labels (label_number list)) s row post post' lab _ _ y k (worded-at e₁ y E i j Y l b ∙ rw (heads-no s y 41 q))

  pub leaf_long : 64 < e - at → MeetsLeaf s at lv row (Err (Brackets (at + 64))) post post'
  leaf_long q =
      let z = letters_long s at e L q in
      let k : at + 64 ≤ length s = omega (arith, L.in_text) in
      leaf_open (at + 64) (at + 64) z.0 (omega arith) k (sym (skip_here s (at + 64) (inner_not_white _ z.1))) k (inner_not_41 _ z.1)

  leaf_shut : (y : ℕ) → e - at ≤ 64 → at < e → drop y s ≡ skip (drop e s) → get_or s y 0 ≡ 41 → row < 1024 → post' ≡ set post row (row + 1 - 1 - (64 - lv)) → MeetsLeaf s at lv row (read (row + 1) (y + 1)) post post'
  unfolding closing pick Meets posts labels
  leaf_shut y f i Y q m P list l b lab =
      let v : row + 1 - 1 - (64 - lv) ≡ row - (64 - lv) = omega arith in
      rw (worded-at e y (letters-short s at e L f) i L.in_text Y l b, heads_yes s y 41 q)
      (record {
        next = y + 1;
        is = refl;
        rest_is = drop-one s y;
        in_text = omega (arith, inside-at s y 40 q);
        few = omega arith;
        posts_are = P ∙ ap (set post row) v;
        labels_are = refl;
        same = refl;
      })

  pub leaf_closed : (e ≡ at → ⊥) → e - at ≤ 64 → row < 1024 → (y : ℕ) → drop y s ≡ skip (drop e s) → y ≤ length s → (r : Answer) → Closed s y (row + 1) lv row r post post' → MeetsLeaf s at lv row r post post'
  leaf_closed n f m y Y k r C = go (ℕ_discrete (get_or s y 0) 41)
    where
      i : at < e
      i = omega (arith, n, L.begins)

      go : Dec (get_or s y 0 ≡ 41) → MeetsLeaf s at lv row r post post'
      go (yes q) = rw (C.shut q).0 (leaf_shut y f i Y q m (C.shut q).1)
      go (no q) = rw (C.not_shut q) (leaf_open e y (letters-short s at e L f) i L.in_text Y k q)

-- ---- what an answer tells
pub tree_known : (s list : List ℕ) (at lv rows : ℕ) (post post' lab lab' : List ℕ) (r : Answer) → at ≤ length s → MeetsTree s list at lv rows r post post' lab lab' → (next after : ℕ) → r ≡ read after next
    → (at < next) × (next ≤ length s) × (rows ≤ after) × (after ≤ 1024)
unfolding Meets RightTree
tree_known s list at lv rows post post' lab lab' r a M next after d =
    go (read_tree (2 * length s + 1) (drop at s) lv (1024 - rows)) (tree_right (2 * length s + 1) (drop at s) lv (1024 - rows)) (M (2 * length s + 1))
  where
    go : (g : Got Tree) → RightTree (2 * length s + 1) (drop at s) lv (1024 - rows) g → Meets (posts (rows - (64 - lv))) (labels (label_number list)) s rows g r post post' lab lab'
        → (at < next) × (next ≤ length s) × (rows ≤ after) × (after ≤ 1024)
    go (got t rest) R N =
        let e : N.next ≡ next = read-end _ _ (sym N.is ∙ d) in
        let c : rows + length (posts (rows - (64 - lv)) t) ≡ after = read_rows _ _ (sym N.is ∙ d) in
        let p = write_long t rest in
        let q = ap length R.text in
        let u = ap length N.rest_is in
        let v = length-drop N.next s in
        let w = length-drop at s in
        (omega (arith, N.in_text), omega (arith, N.in_text), omega arith, omega (arith, N.few))
    go (wrong rest) R N = absurd (read-refused _ _ (sym d ∙ N))
    go (over rest) R N = absurd (read-refused _ _ (sym d ∙ N))
    go lost R N = absurd (omega (arith, R, length-drop at s))

pub body_known : (s list : List ℕ) (at lv rows : ℕ) (post post' lab lab' : List ℕ) (r : Answer) → MeetsBody s list at lv rows r post post' lab lab' → (next after : ℕ) → r ≡ read after next
    → (next ≤ length s) × (rows ≤ after) × (after ≤ 1024)
unfolding Meets RightTrees
body_known s list at lv rows post post' lab lab' r M next after d =
    go (read_trees (2 * length s + 2) (drop (at + 1) s) lv (1024 - rows)) (trees_right (2 * length s + 2) (drop (at + 1) s) lv (1024 - rows)) (M (2 * length s + 2))
  where
    go : (g : Got Trees) → RightTrees (2 * length s + 2) (drop (at + 1) s) lv (1024 - rows) g → Meets (postss (rows - (64 - lv))) (labelss (label_number list)) s rows g r post post' lab lab'
        → (next ≤ length s) × (rows ≤ after) × (after ≤ 1024)
    go (got ts rest) R N =
        let e : N.next ≡ next = read-end _ _ (sym N.is ∙ d) in
        let c : rows + length (postss (rows - (64 - lv)) ts) ≡ after = read_rows _ _ (sym N.is ∙ d) in
        (omega (arith, N.in_text), omega arith, omega (arith, N.few))
    go (wrong rest) R N = absurd (read-refused _ _ (sym d ∙ N))
    go (over rest) R N = absurd (read-refused _ _ (sym d ∙ N))
    go lost R N = absurd (omega (arith, R, length-drop (at + 1) s))

-- ---- the body reader
module _ (s list : List ℕ) (at lv rows : ℕ) (post post₁ lab lab₁ : List ℕ) (r : Answer) (T : MeetsTree s list (at + 1) lv rows r post post₁ lab lab₁) where
  abbrev after_first : ℕ → Tree → List ℕ → Got Trees
  after_first f t z = followed t z (read_trees f (drop 1 (skip z)) lv (1024 - rows - size t))

  trees_in : (f : ℕ) → read_trees (suc f) (drop (at + 1) s) lv (1024 - rows) ≡ then (read_tree f (drop (at + 1) s) lv (1024 - rows)) (after_first f)
  unfolding read_trees
  trees_in f = refl

  pub body_refused : (why : Refusal) → r ≡ Err why → (post' lab' : List ℕ) → MeetsBody s list at lv rows (Err why) post post' lab lab'
  unfolding Meets then read_trees
  body_refused why d post' lab' zero = tt
  body_refused why d post' lab' (suc f) = rw (trees_in f) (go (read_tree f (drop (at + 1) s) lv (1024 - rows)) (T f))
    where
      go : (g : Got Tree) → Meets (posts (rows - (64 - lv))) (labels (label_number list)) s rows g r post post₁ lab lab₁
          → Meets (postss (rows - (64 - lv))) (labelss (label_number list)) s rows (then g (after_first f)) (Err why) post post' lab lab'
      go (got t rest) M = absurd (read-refused _ _ (sym M.is ∙ d))
      go (wrong rest) M = sym d ∙ M
      go (over rest) M = sym d ∙ M
      go lost M = tt

  module _ (next after : ℕ) (d : r ≡ read after next) (y : ℕ) (Y : drop y s ≡ skip (drop next s)) (z : y ≤ length s) where
    pub body_last : (get_or s y 0 ≡ 40 → ⊥) → MeetsBody s list at lv rows (read after y) post post₁ lab lab₁
    unfolding Meets then followed pick read_trees posts labels
    body_last q zero = tt
    body_last q (suc f) = rw (trees_in f) (go (read_tree f (drop (at + 1) s) lv (1024 - rows)) (T f))
      where
        go : (g : Got Tree) → Meets (posts (rows - (64 - lv))) (labels (label_number list)) s rows g r post post₁ lab lab₁
            → Meets (postss (rows - (64 - lv))) (labelss (label_number list)) s rows (then g (after_first f)) (read after y) post post₁ lab lab₁
        go (got t rest) M =
            let e : M.next ≡ next = read-end _ _ (sym M.is ∙ d) in
            let c : rows + length (posts (rows - (64 - lv)) t) ≡ after = read_rows _ _ (sym M.is ∙ d) in
            let R : skip rest ≡ drop y s = ap skip (M.rest_is ∙ ap (λ (k : ℕ). drop k s) e) ∙ sym Y in
            rw (ap (heads 40) R ∙ heads-no s y 40 q)
            (record { next = y; is = ap (λ (k : ℕ). read k y) (sym c); rest_is = R; in_text = z; few = M.few; posts_are = M.posts_are; labels_are = M.labels_are; same = M.same })
        go (wrong rest) M = absurd (read-refused _ _ (sym d ∙ M))
        go (over rest) M = absurd (read-refused _ _ (sym d ∙ M))
        go lost M = tt

    -- and another body behind it
    module _ (q : get_or s y 0 ≡ 40) (r₂ : Answer) (post₂ lab₂ : List ℕ) (B : MeetsBody s list y lv after r₂ post₁ post₂ lab₁ lab₂) (u : 64 ≤ lv + rows) where
      module _ (t : Tree) (rest : List ℕ) (M : Read-as s rows rest (posts (rows - (64 - lv)) t) (labels (label_number list) t) r post post₁ lab lab₁) where
        after_is : rows + size t ≡ after
        after_is = ap (λ (k : ℕ). rows + k) (sym (posts_length t (rows - (64 - lv)))) ∙ read_rows _ _ (sym M.is ∙ d)

        rest_here : skip rest ≡ drop y s
        rest_here = ap skip (M.rest_is ∙ ap (λ (k : ℕ). drop k s) (read-end _ _ (sym M.is ∙ d))) ∙ sym Y

        rest_as : (f : ℕ) → Meets (postss (rows - (64 - lv) + size t)) (labelss (label_number list)) s after (read_trees f (drop 1 (skip rest)) lv (1024 - rows - size t)) r₂ post₁ post₂ lab₁ lab₂
        rest_as f =
            let a : after - (64 - lv) ≡ rows - (64 - lv) + size t = omega (arith, after_is) in
            let b : 1024 - after ≡ 1024 - rows - size t = omega (arith, after_is) in
            let c : drop (y + 1) s ≡ drop 1 (skip rest) = sym (drop-one s y) ∙ ap (drop 1) (sym rest_here) in
            subst (λ (z : List ℕ). Meets (postss (rows - (64 - lv) + size t)) (labelss (label_number list)) s after (read_trees f z lv (1024 - rows - size t)) r₂ post₁ post₂ lab₁ lab₂) c
            (subst (λ (z : ℕ). Meets (postss (rows - (64 - lv) + size t)) (labelss (label_number list)) s after (read_trees f (drop (y + 1) s) lv z) r₂ post₁ post₂ lab₁ lab₂) b
            (subst (λ (z : ℕ). Meets (postss z) (labelss (label_number list)) s after (read_trees f (drop (y + 1) s) lv (1024 - after)) r₂ post₁ post₂ lab₁ lab₂) a
            (B f)))

        more_rows : (ts : Trees) (z : List ℕ) → Read-as s after z (postss (rows - (64 - lv) + size t) ts) (labelss (label_number list) ts) r₂ post₁ post₂ lab₁ lab₂
            → Read-as s rows z (postss (rows - (64 - lv)) (more t (blanks rest) ts)) (labelss (label_number list) (more t (blanks rest) ts)) r₂ post post₂ lab lab₂
        unfolding posts labels
        more_rows ts z N =
            let p₁ = posts (rows - (64 - lv)) t in
            let p₂ = postss (rows - (64 - lv) + size t) ts in
            let l₁ = labels (label_number list) t in
            let l₂ = labelss (label_number list) ts in
            let c = length-append p₁ p₂ in
            let c' = length-append l₁ l₂ in
            let k = posts_length t (rows - (64 - lv)) in
            let a = after_is in
            let m : rows + length p₁ ≡ after = omega arith in
            let m' : rows + length l₁ ≡ after = omega (arith, M.same) in
            record {
              next = N.next;
              is = N.is ∙ ap (λ (k : ℕ). read k N.next) (omega arith);
              rest_is = N.rest_is;
              in_text = N.in_text;
              few = omega (arith, N.few);
              posts_are = N.posts_are ∙ ap₂ (λ (x : List ℕ) (i : ℕ). sets x i p₂) M.posts_are (sym m) ∙ sets_more post rows p₁ p₂;
              labels_are = N.labels_are ∙ ap₂ (λ (x : List ℕ) (i : ℕ). sets x i l₂) M.labels_are (sym m') ∙ sets_more lab rows l₁ l₂;
              same = omega (arith, M.same, N.same);
            }

        joined : (g : Got Trees) → Meets (postss (rows - (64 - lv) + size t)) (labelss (label_number list)) s after g r₂ post₁ post₂ lab₁ lab₂
            → Meets (postss (rows - (64 - lv))) (labelss (label_number list)) s rows (followed t rest g) r₂ post post₂ lab lab₂
        unfolding followed pick Meets then
        joined g N = rw (ap (heads 40) rest_here ∙ heads_yes s y 40 q) (go g N)
          where
            go : (g : Got Trees) → Meets (postss (rows - (64 - lv) + size t)) (labelss (label_number list)) s after g r₂ post₁ post₂ lab₁ lab₂
                → Meets (postss (rows - (64 - lv))) (labelss (label_number list)) s rows (then g (λ ts. got (more t (blanks rest) ts))) r₂ post post₂ lab lab₂
            go (got ts z) N = more_rows ts z N
            go (wrong z) N = N
            go (over z) N = N
            go lost N = tt

      pub body_more : MeetsBody s list at lv rows r₂ post post₂ lab lab₂
      unfolding Meets then read_trees
      body_more zero = tt
      body_more (suc f) = rw (trees_in f) (go (read_tree f (drop (at + 1) s) lv (1024 - rows)) (T f))
        where
          go : (g : Got Tree) → Meets (posts (rows - (64 - lv))) (labels (label_number list)) s rows g r post post₁ lab lab₁
              → Meets (postss (rows - (64 - lv))) (labelss (label_number list)) s rows (then g (after_first f)) r₂ post post₂ lab lab₂
          go (got t rest) M = joined t rest M _ (rest_as t rest M f)
          go (wrong rest) M = absurd (read-refused _ _ (sym d ∙ M))
          go (over rest) M = absurd (read-refused _ _ (sym d ∙ M))
          go lost M = tt
