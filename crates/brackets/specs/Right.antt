-- The reader is right: what it reads is written there; where it refuses, the text before continues to a tree, and the machine stops. Assumes nothing.
use Rattle.std.specs.Prelude.{◌≡◌, ◌⊎◌, Bool, ltb}
use Rattle.std.proofs.Math.Path.{refl, sym, ap}
use Rattle.std.proofs.Common.{◌∙◌, inl, arith, ltb-true, le-ltb}
use Rattle.std.proofs.Math.Logic.{inr}
use Rattle.std.proofs.Math.Bool.{true, false}
use mathlib.Core.List.{List, [], ◌∷◌, ◌++◌, append_assoc}
use Prim.Native.Nat.{ℕ, zero, suc, ◌+◌, ◌-◌, ◌*◌, ◌≤◌, ◌<◌}
use Rattle.std.proofs.Math.ListN.{length, drop, length-append}
use Rattle.meaning.specs.Tests.{Is, ◌&◌, ◌or◌, non}
use Rattle.meaning.specs.Names.{pick}
use Rattle.brackets.specs.Both.{and_l, and_r, and_in}
use Rattle.meaning.specs.Sentences.{all, white, inner, token, blank, gap, Tree, Trees, leaf, node, one, more, write, writes, good, goods, size, sizes, nests, nestss}
use Rattle.brackets.specs.Reader.{skip, Got, got, wrong, over, lost, then, letters, past, blanks, empty, heads, closing, worded, bodied, labelled, limited, followed, read_tree, read_trees}
use Rattle.brackets.specs.Steps.{in_label, in_gap, in_word, after-word, after_tree, within, waiting, step, stopped, run}
use Rattle.brackets.specs.Fits.{fits, fits-inner, fits-white, fits_open, fits_not, fits_tree}
use Rattle.brackets.specs.Pieces.{and_not_l, and_not_r, letters-past, letters-all, letters-few, past_stops, blanks-skip, blanks-all, Bare, skip_bare, no-blanks, letters-token, blanks-gap, headed, not_headed, not_lettered}
use Rattle.brackets.specs.Machine.{goes, stays, white-run, word-white, tree_white, label-run, word-run, token-all, head-run, from, gap_open, tree_open, closes_up, tree_run, trees_run}

-- ---- what a reading with fuel f promises
pub record Whole {A : Type 0} (wr : A → List ℕ → List ℕ) (gd : A → Bool) (nst : ℕ → A → Bool) (sz : A → ℕ) (s : List ℕ) (lv room : ℕ) (x : A) (r : List ℕ) : Type 0 where
  pub is_good : Is (gd x)
  pub text : s ≡ wr x r
  pub deep : Is (nst lv x)
  pub few : sz x ≤ room

-- up to r the text continues
pub record Partial {A : Type 0} (wr : A → List ℕ → List ℕ) (gd : A → Bool) (s r : List ℕ) : Type 0 where
  pub front : List ℕ
  pub x : A
  pub v : List ℕ
  pub is_good : Is (gd x)
  pub cut : s ≡ front ++ r
  pub text : (z : List ℕ) → front ++ (v ++ z) ≡ wr x z

-- and no further, and within the limits
pub record Broken {A : Type 0} (wr : A → List ℕ → List ℕ) (gd : A → Bool) (nst : ℕ → A → Bool) (sz : A → ℕ) (least : ℕ) (u : List ℕ) (lv room : ℕ) (r : List ℕ) : Type 0 where
  pub part : Partial wr gd (40 ∷ u) r
  pub deep : Is (nst lv part.x)
  pub few : sz part.x ≤ room
  pub dead : (b : Bool) (d : ℕ) → least ≤ d → run u (within b (in_label 0) d) ≡ stopped r

-- a text within the limits begins with front
pub record Inside {A : Type 0} (wr : A → List ℕ → List ℕ) (gd : A → Bool) (nst : ℕ → A → Bool) (sz : A → ℕ) (front : List ℕ) (lv room : ℕ) : Type 0 where
  pub y : A
  pub w : List ℕ
  pub is_good : Is (gd y)
  pub text : (z : List ℕ) → front ++ (w ++ z) ≡ wr y z
  pub deep : Is (nst lv y)
  pub few : sz y ≤ room

-- up to r the text continues within the limits, and with r's parenthesis beyond them
pub record Beyond {A : Type 0} (wr : A → List ℕ → List ℕ) (gd : A → Bool) (nst : ℕ → A → Bool) (sz : A → ℕ) (s : List ℕ) (lv room : ℕ) (r : List ℕ) : Type 0 where
  pub part : Partial wr gd s r
  pub rest : List ℕ
  pub v : List ℕ
  pub is : r ≡ 40 ∷ rest
  pub v_is : part.v ≡ 40 ∷ v
  pub broken : fits (part.front ++ 40 ∷ []) lv room ≡ false
  pub inside : (part.front ≡ []) ⊎ Inside wr gd nst sz part.front lv room

pub record Ready (r : List ℕ) : Type 0 where
  pub bare_text : Bare r
  pub not_40 : heads 40 r ≡ false

unfoldable pub RightTree : ℕ → List ℕ → ℕ → ℕ → Got Tree → Type 0
RightTree f u lv room (got t r) = Whole write good nests size (40 ∷ u) lv room t r
RightTree f u lv room (wrong r) = Broken write good nests size 0 u lv room r
RightTree f u lv room (over r) = Beyond write good nests size (40 ∷ u) lv room r
RightTree f u lv room lost = f ≤ 2 * length u

unfoldable pub RightTrees : ℕ → List ℕ → ℕ → ℕ → Got Trees → Type 0
RightTrees f u lv room (got ts r) = Whole writes goods nestss sizes (40 ∷ u) lv room ts r × Ready r
RightTrees f u lv room (wrong r) = Broken writes goods nestss sizes 1 u lv room r
RightTrees f u lv room (over r) = Beyond writes goods nestss sizes (40 ∷ u) lv room r
RightTrees f u lv room lost = f ≤ 2 * length u + 1

-- ---- texts in a row
glue : (l b z w : List ℕ) → (l ++ (b ++ z)) ++ w ≡ l ++ (b ++ (z ++ w))
glue l b z w = append_assoc l (b ++ z) w ∙ ap (λ (y : List ℕ). l ++ y) (append_assoc b z w)

mutual
  unfolding write

  pub write_on : (t : Tree) (y z : List ℕ) → write t y ++ z ≡ write t (y ++ z)
  write_on (leaf l b w a) y z =
      ap (λ (q : List ℕ). 40 ∷ q) (glue l b (w ++ (a ++ 41 ∷ y)) z ∙ ap (λ (q : List ℕ). l ++ (b ++ q)) (glue w a (41 ∷ y) z))
  write_on (node l b ts) y z = ap (λ (q : List ℕ). 40 ∷ q) (glue l b (writes ts (41 ∷ y)) z ∙ ap (λ (q : List ℕ). l ++ (b ++ q)) (writes_on ts (41 ∷ y) z))

  pub writes_on : (ts : Trees) (y z : List ℕ) → writes ts y ++ z ≡ writes ts (y ++ z)
  writes_on (one t a) y z = write_on t (a ++ y) z ∙ ap (write t) (append_assoc a y z)
  writes_on (more t a ts) y z = write_on t (a ++ writes ts y) z ∙ ap (write t) (append_assoc a (writes ts y) z ∙ ap (λ (q : List ℕ). a ++ q) (writes_on ts y z))

mutual
  unfolding write

  pub write_long : (t : Tree) (r : List ℕ) → length r + 2 ≤ length (write t r)
  write_long (leaf l b w a) r =
      let e₁ = length-append l (b ++ (w ++ (a ++ 41 ∷ r))) in
      let e₂ = length-append b (w ++ (a ++ 41 ∷ r)) in
      let e₃ = length-append w (a ++ 41 ∷ r) in
      let e₄ = length-append a (41 ∷ r) in
      omega arith
  write_long (node l b ts) r =
      let e₁ = length-append l (b ++ writes ts (41 ∷ r)) in
      let e₂ = length-append b (writes ts (41 ∷ r)) in
      omega (arith, writes_long ts (41 ∷ r))

  pub writes_long : (ts : Trees) (r : List ℕ) → length r + 2 ≤ length (writes ts r)
  writes_long (one t a) r = let e = length-append a r in omega (arith, write_long t (a ++ r))
  writes_long (more t a ts) r = let e = length-append a (writes ts r) in omega (arith, write_long t (a ++ writes ts r), writes_long ts r)

-- ---- where the machine stops
gap_dead : (w : List ℕ) (b : Bool) (d : ℕ) → Bare w → heads 40 w ≡ false → empty (letters 64 w) ≡ true → run w (within b in_gap d) ≡ stopped w
unfolding run step pick
gap_dead [] b d h k m = refl
gap_dead (x ∷ w) b d h k m = stays x w (within b in_gap d) (rw (h.not_white x w refl, not_headed 40 (x ∷ w) k x w refl, not_lettered 63 (x ∷ w) m x w refl))

after_dead : (y : List ℕ) (b : Bool) (d : ℕ) → Bare y → heads 41 y ≡ false → run y (within b after-word d) ≡ stopped y
unfolding run step waiting pick
after_dead [] b d h k = refl
after_dead (x ∷ y) b d h k = stays x y (within b after-word d) (rw (h.not_white x y refl, not_headed 41 (x ∷ y) k x y refl))

tree_dead : (y : List ℕ) (b : Bool) (d : ℕ) → Ready y → heads 41 y ≡ false → run y (within b after_tree d) ≡ stopped y
unfolding run step waiting pick
tree_dead [] b d h k = refl
tree_dead (x ∷ y) b d h k = stays x y (within b after_tree d) (rw (not_headed 40 (x ∷ y) h.not_40 x y refl, h.bare_text.not_white x y refl, not_headed 41 (x ∷ y) k x y refl))

-- no letter at a place where letters stop, or 64 before
full : (k : ℕ) (x : ℕ) → (Is (inner x) → k ≡ 64) → (inner x & ltb k 64) ≡ false
unfolding ◌&◌
full k x h = go (inner x) refl
  where
    go : (c : Bool) → inner x ≡ c → (c & ltb k 64) ≡ false
    go true e = le-ltb k 64 (omega (arith, h e))
    go false e = refl

word_dead : (p : List ℕ) (k : ℕ) (b : Bool) (d : ℕ) → ((x : ℕ) (v : List ℕ) → p ≡ x ∷ v → Is (inner x) → k ≡ 64) → heads 41 (skip p) ≡ false → run p (within b (in_word k) d) ≡ stopped (skip p)
unfolding run skip step waiting pick
word_dead [] k b d h m = refl
word_dead (x ∷ p) k b d h m = go (white x) refl m
  where
    go : (c : Bool) → white x ≡ c → heads 41 (pick c (skip p) (x ∷ p)) ≡ false → run (x ∷ p) (within b (in_word k) d) ≡ stopped (pick c (skip p) (x ∷ p))
    go true e m =
        goes x p (within b (in_word k) d) (within b after-word d) (rw (full k x (h x p refl), e))
        ∙ ap (λ (y : List ℕ). run y (within b after-word d)) (sym (blanks-skip p))
        ∙ white-run (blanks p) (skip p) _ (blanks-all p) (word-white b d)
        ∙ after_dead (skip p) b d (skip_bare p) m
    go false e m = stays x p (within b (in_word k) d) (rw (full k x (h x p refl), e, not_headed 41 (x ∷ p) m x p refl))

label_dead : (p : List ℕ) (k : ℕ) (b : Bool) (d : ℕ) → ((x : ℕ) (v : List ℕ) → p ≡ x ∷ v → Is (inner x) → k ≡ 64) → Bare p → run p (within b (in_label k) d) ≡ stopped p
unfolding run step pick
label_dead [] k b d h m = refl
label_dead (x ∷ p) k b d h m = stays x p (within b (in_label k) d) (rw (full k x (h x p refl), and_not_l (white x) (ltb 0 k) (m.not_white x p refl)))

none_dead : (u : List ℕ) (b : Bool) (d : ℕ) → empty (letters 64 u) ≡ true → run u (within b (in_label 0) d) ≡ stopped u
unfolding run step pick
none_dead [] b d h = refl
none_dead (x ∷ u) b d h = stays x u (within b (in_label 0) d) (rw (and_not_l (inner x) (ltb 0 64) (not_lettered 63 (x ∷ u) h x u refl), and_not_r (white x) (ltb 0 0) refl))

-- ---- a tree
module _ (u l a w : List ℕ) (lv room : ℕ) (L : Is (token l)) (G : Is (gap a)) (U : u ≡ l ++ (a ++ w)) (N : Is (ltb 0 lv & ltb 0 room)) where
  gap-blank : Is (blank a)
  unfolding gap blank
  gap-blank = and_l _ _ G

  head-fits : (z : List ℕ) → fits (40 ∷ (l ++ (a ++ z))) lv room ≡ fits z (lv - 1) (room - 1)
  head-fits z = fits_open (l ++ (a ++ z)) lv room N ∙ fits-inner l (a ++ z) _ _ (token-all l L) ∙ fits-white a z _ _ gap-blank

  head_goes : (b : Bool) (d : ℕ) → run u (within b (in_label 0) d) ≡ run w (within b in_gap d)
  head_goes b d = ap (λ (y : List ℕ). run y (within b (in_label 0) d)) U ∙ head-run b d l a w L G

  some_level : 0 < lv
  some_level = ltb-true 0 lv (and_l _ _ N)

  some-room : 0 < room
  some-room = ltb-true 0 room (and_r (ltb 0 lv) _ N)

  leaf_deep : (x c : List ℕ) → Is (nests lv (leaf l a x c))
  unfolding nests
  leaf_deep x c = and_l _ _ N

  leaf_few : (x c : List ℕ) → size (leaf l a x c) ≤ room
  unfolding size
  leaf_few x c = some-room

  node_deep : (ts : Trees) → Is (nestss (lv - 1) ts) → Is (nests lv (node l a ts))
  unfolding nests
  node_deep ts d = and_in _ _ (and_l _ _ N) d

  node_few : (ts : Trees) → sizes ts ≤ room - 1 → size (node l a ts) ≤ room
  unfolding size
  node_few ts h = omega (arith, some-room)

  -- a word is missing
  no_word : Bare w → heads 40 w ≡ false → empty (letters 64 w) ≡ true → Broken write good nests size 0 u lv room w
  unfolding write good token gap blank all inner white ◌&◌ ◌or◌ non
  no_word B h e =
      record {
        part = record {
          front = 40 ∷ (l ++ (a ++ []));
          x = leaf l a (120 ∷ []) [];
          v = 120 ∷ 41 ∷ [];
          is_good = and_in _ _ L (and_in _ _ G refl);
          cut = ap (λ (q : List ℕ). 40 ∷ q) (U ∙ sym (glue l a [] w));
          text = λ z. ap (λ (q : List ℕ). 40 ∷ q) (glue l a [] (120 ∷ 41 ∷ z));
        };
        deep = leaf_deep (120 ∷ []) [];
        few = leaf_few (120 ∷ []) [];
        dead = λ b d m. head_goes b d ∙ gap_dead w b d B h e;
      }

  -- a word x with white space c behind it, and then y
  module _ (x c y : List ℕ) (X : Is (token x)) (C : Is (blank c)) (W : w ≡ x ++ (c ++ y)) where
    row_1 : (z : List ℕ) → (40 ∷ (l ++ (a ++ (x ++ c)))) ++ z ≡ 40 ∷ (l ++ (a ++ (x ++ (c ++ z))))
    row_1 z = ap (λ (q : List ℕ). 40 ∷ q) (glue l a (x ++ c) z ∙ ap (λ (q : List ℕ). l ++ (a ++ q)) (append_assoc x c z))

    whole_text : 40 ∷ u ≡ 40 ∷ (l ++ (a ++ (x ++ (c ++ y))))
    whole_text = ap (λ (q : List ℕ). 40 ∷ q) (U ∙ ap (λ (q : List ℕ). l ++ (a ++ q)) W)

    leaf_good : Is (good (leaf l a x c))
    unfolding good
    leaf_good = and_in _ _ L (and_in _ _ G (and_in _ _ X C))

    word-whole : (r : List ℕ) → y ≡ 41 ∷ r → Whole write good nests size (40 ∷ u) lv room (leaf l a x c) r
    unfolding write
    word-whole r e =
        record {
          is_good = leaf_good;
          text = whole_text ∙ ap (λ (q : List ℕ). 40 ∷ (l ++ (a ++ (x ++ (c ++ q))))) e;
          deep = leaf_deep x c;
          few = leaf_few x c;
        }

    word_broken : ((b : Bool) (d : ℕ) → run w (within b in_gap d) ≡ stopped y) → Broken write good nests size 0 u lv room y
    unfolding write
    word_broken k =
        record {
          part = record {
            front = 40 ∷ (l ++ (a ++ (x ++ c)));
            x = leaf l a x c;
            v = 41 ∷ [];
            is_good = leaf_good;
            cut = whole_text ∙ sym (row_1 y);
            text = λ z. row_1 (41 ∷ z);
          };
          deep = leaf_deep x c;
          few = leaf_few x c;
          dead = λ b d m. head_goes b d ∙ k b d;
        }

  word_right : (f : ℕ) → Bare w → heads 40 w ≡ false → RightTree (suc f) u lv room (worded l a w)
  unfolding worded closing RightTree pick
  word_right f B h = go (empty (letters 64 w)) refl
    where
      W : w ≡ letters 64 w ++ (blanks (past 64 w) ++ skip (past 64 w))
      W = sym (letters-past 64 w) ∙ ap (λ (q : List ℕ). letters 64 w ++ q) (sym (blanks-skip (past 64 w)))

      shut : empty (letters 64 w) ≡ false → (t : Bool) → heads 41 (skip (past 64 w)) ≡ t
          → RightTree (suc f) u lv room (pick t (got (leaf l a (letters 64 w) (blanks (past 64 w))) (drop 1 (skip (past 64 w)))) (wrong (skip (past 64 w))))
      shut e true q = word-whole _ _ _ (letters-token w e) (blanks-all (past 64 w)) W _ (headed 40 _ q)
      shut e false q =
          word_broken _ _ _ (letters-token w e) (blanks-all (past 64 w)) W
          (λ b d.
          ap (λ (y : List ℕ). run y (within b in_gap d)) (sym (letters-past 64 w))
          ∙ word-run b d (letters 64 w) (past 64 w) (letters-token w e)
          ∙ word_dead (past 64 w) (length (letters 64 w)) b d (past_stops 64 w) q)

      go : (t : Bool) → empty (letters 64 w) ≡ t
          → RightTree (suc f) u lv room (pick t (wrong w) (pick (heads 41 (skip (past 64 w))) (got (leaf l a (letters 64 w) (blanks (past 64 w))) (drop 1 (skip (past 64 w)))) (wrong (skip (past 64 w)))))
      go true e = no_word B h e
      go false e = shut e (heads 41 (skip (past 64 w))) refl

  module _ (h : heads 40 w ≡ true) where
    gap_goes : (b : Bool) (d : ℕ) → run u (within b (in_label 0) d) ≡ run (drop 1 w) (within b (in_label 0) (suc d))
    gap_goes b d = head_goes b d ∙ from w _ _ (headed 39 w h) (gap_open b d)

    -- trees in front of r
    part_node : (r : List ℕ) → Partial writes goods (40 ∷ drop 1 w) r → Partial write good (40 ∷ u) r
    unfolding write good
    part_node r P =
        record {
          front = 40 ∷ (l ++ (a ++ P.front));
          x = node l a P.x;
          v = P.v ++ 41 ∷ [];
          is_good = and_in _ _ L (and_in _ _ G P.is_good);
          cut = ap (λ (q : List ℕ). 40 ∷ q) (U ∙ ap (λ (q : List ℕ). l ++ (a ++ q)) (headed 39 w h ∙ P.cut) ∙ sym (glue l a P.front r));
          text = λ z. ap (λ (q : List ℕ). 40 ∷ q) (glue l a P.front ((P.v ++ 41 ∷ []) ++ z) ∙ ap (λ (q : List ℕ). l ++ (a ++ q)) (ap (λ (q : List ℕ). P.front ++ q) (append_assoc P.v (41 ∷ []) z) ∙ P.text (41 ∷ z)));
        }

    -- a word may stand where the first tree is too far
    inside_node : (front : List ℕ) → (front ≡ []) ⊎ Inside writes goods nestss sizes front (lv - 1) (room - 1) → Inside write good nests size (40 ∷ (l ++ (a ++ front))) lv room
    unfolding write good token gap blank all inner white ◌&◌ ◌or◌ non
    inside_node front (inl e) =
        record {
          y = leaf l a (120 ∷ []) [];
          w = 120 ∷ 41 ∷ [];
          is_good = and_in _ _ L (and_in _ _ G refl);
          text = λ z. ap (λ (q : List ℕ). 40 ∷ q) (glue l a front (120 ∷ 41 ∷ z) ∙ ap (λ (q : List ℕ). l ++ (a ++ (q ++ 120 ∷ 41 ∷ z))) e);
          deep = leaf_deep (120 ∷ []) [];
          few = leaf_few (120 ∷ []) [];
        }
    inside_node front (inr I) =
        record {
          y = node l a I.y;
          w = I.w ++ 41 ∷ [];
          is_good = and_in _ _ L (and_in _ _ G I.is_good);
          text = λ z. ap (λ (q : List ℕ). 40 ∷ q) (glue l a front ((I.w ++ 41 ∷ []) ++ z) ∙ ap (λ (q : List ℕ). l ++ (a ++ q)) (ap (λ (q : List ℕ). front ++ q) (append_assoc I.w (41 ∷ []) z) ∙ I.text (41 ∷ z)));
          deep = node_deep I.y I.deep;
          few = node_few I.y I.few;
        }

    beyond_node : (r : List ℕ) → Beyond writes goods nestss sizes (40 ∷ drop 1 w) (lv - 1) (room - 1) r → Beyond write good nests size (40 ∷ u) lv room r
    unfolding part_node
    beyond_node r P =
        record {
          part = part_node r P.part;
          rest = P.rest;
          v = P.v ++ 41 ∷ [];
          is = P.is;
          v_is = ap (λ (q : List ℕ). q ++ 41 ∷ []) P.v_is;
          broken = ap (λ (q : List ℕ). fits (40 ∷ q) lv room) (glue l a P.part.front (40 ∷ [])) ∙ head-fits _ ∙ P.broken;
          inside = inr (inside_node P.part.front P.inside);
        }

    broken_node : (r : List ℕ) → Broken writes goods nestss sizes 1 (drop 1 w) (lv - 1) (room - 1) r → Broken write good nests size 0 u lv room r
    unfolding part_node
    broken_node r P =
        record {
          part = part_node r P.part;
          deep = node_deep P.part.x P.deep;
          few = node_few P.part.x P.few;
          dead = λ b d m. gap_goes b d ∙ P.dead b (suc d) (omega arith);
        }

    module _ (ts : Trees) (r : List ℕ) (P : Whole writes goods nestss sizes (40 ∷ drop 1 w) (lv - 1) (room - 1) ts r) where
      trees_text : w ≡ writes ts r
      trees_text = headed 39 w h ∙ P.text

      node_good : Is (good (node l a ts))
      unfolding good
      node_good = and_in _ _ L (and_in _ _ G P.is_good)

      node_whole : heads 41 r ≡ true → Whole write good nests size (40 ∷ u) lv room (node l a ts) (drop 1 r)
      unfolding write
      node_whole q =
          record {
            is_good = node_good;
            text = ap (λ (y : List ℕ). 40 ∷ y) (U ∙ ap (λ (y : List ℕ). l ++ (a ++ y)) (trees_text ∙ ap (writes ts) (headed 40 r q)));
            deep = node_deep ts P.deep;
            few = node_few ts P.few;
          }

      node_broken : Ready r → heads 41 r ≡ false → Broken write good nests size 0 u lv room r
      unfolding write
      node_broken R q =
          record {
            part = record {
              front = 40 ∷ (l ++ (a ++ writes ts []));
              x = node l a ts;
              v = 41 ∷ [];
              is_good = node_good;
              cut = ap (λ (y : List ℕ). 40 ∷ y) (U ∙ ap (λ (y : List ℕ). l ++ (a ++ y)) (trees_text ∙ sym (writes_on ts [] r)) ∙ sym (glue l a (writes ts []) r));
              text = λ z. ap (λ (y : List ℕ). 40 ∷ y) (glue l a (writes ts []) (41 ∷ z) ∙ ap (λ (y : List ℕ). l ++ (a ++ y)) (writes_on ts [] (41 ∷ z)));
            };
            deep = node_deep ts P.deep;
            few = node_few ts P.few;
            dead = λ b d m.
                gap_goes b d ∙ ap (λ (y : List ℕ). run (drop 1 y) (within b (in_label 0) (suc d))) trees_text
                ∙ trees_run ts P.is_good r b d ∙ tree_dead r b d R q;
          }

    node_right : (f : ℕ) (g : Got Trees) → RightTrees f (drop 1 w) (lv - 1) (room - 1) g → RightTree (suc f) u lv room (then g (λ ts. closing (node l a ts)))
    unfolding then closing RightTree RightTrees pick
    node_right f (wrong r) P = broken_node r P
    node_right f (over r) P = beyond_node r P
    node_right f lost P = let e = ap length (U ∙ ap (λ (q : List ℕ). l ++ (a ++ q)) (headed 39 w h)) in let e₁ = length-append l (a ++ (40 ∷ drop 1 w)) in let e₂ = length-append a (40 ∷ drop 1 w) in omega (arith, e, e₁, e₂, P)
    node_right f (got ts r) P = shut (heads 41 r) refl
      where
        shut : (t : Bool) → heads 41 r ≡ t → RightTree (suc f) u lv room (pick t (got (node l a ts) (drop 1 r)) (wrong r))
        shut true q = node_whole ts r P.0 q
        shut false q = node_broken ts r P.0 P.1 q

-- ---- the label and the limits
no_label : (u : List ℕ) (lv room : ℕ) → Is (ltb 0 lv & ltb 0 room) → empty (letters 64 u) ≡ true → Broken write good nests size 0 u lv room u
unfolding write good token gap blank all inner white ◌&◌ ◌or◌ non nests size
no_label u lv room N e =
    record {
      part = record {
        front = 40 ∷ [];
        x = leaf (120 ∷ []) (32 ∷ []) (120 ∷ []) [];
        v = 120 ∷ 32 ∷ 120 ∷ 41 ∷ [];
        is_good = refl;
        cut = refl;
        text = λ z. refl;
      };
      deep = and_l _ _ N;
      few = ltb-true 0 room (and_r (ltb 0 lv) _ N);
      dead = λ b d m. none_dead u b d e;
    }

no_gap : (u : List ℕ) (lv room : ℕ) → Is (ltb 0 lv & ltb 0 room) → empty (letters 64 u) ≡ false → empty (blanks (past 64 u)) ≡ true → Broken write good nests size 0 u lv room (past 64 u)
unfolding write good token gap blank all inner white ◌&◌ ◌or◌ non nests size
no_gap u lv room N e q =
    record {
      part = record {
        front = 40 ∷ letters 64 u;
        x = leaf (letters 64 u) (32 ∷ []) (120 ∷ []) [];
        v = 32 ∷ 120 ∷ 41 ∷ [];
        is_good = and_in _ _ (letters-token u e) refl;
        cut = ap (λ (y : List ℕ). 40 ∷ y) (sym (letters-past 64 u));
        text = λ z. refl;
      };
      deep = and_l _ _ N;
      few = ltb-true 0 room (and_r (ltb 0 lv) _ N);
      dead = λ b d m.
          ap (λ (y : List ℕ). run y (within b (in_label 0) d)) (sym (letters-past 64 u))
          ∙ label-run b d (letters 64 u) (past 64 u) 0 (letters-all 64 u) (omega (arith, letters-few 64 u))
          ∙ label_dead (past 64 u) (0 + length (letters 64 u)) b d (λ x v k i. omega (arith, past_stops 64 u x v k i)) (no-blanks (past 64 u) q);
    }

too_far : (u : List ℕ) (lv room : ℕ) → (ltb 0 lv & ltb 0 room) ≡ false → Beyond write good nests size (40 ∷ u) lv room (40 ∷ u)
unfolding write good token gap blank all inner white ◌&◌ ◌or◌ non
too_far u lv room N =
    record {
      part = record {
        front = [];
        x = leaf (120 ∷ []) (32 ∷ []) (120 ∷ []) [];
        v = 40 ∷ 120 ∷ 32 ∷ 120 ∷ 41 ∷ [];
        is_good = refl;
        cut = refl;
        text = λ z. refl;
      };
      rest = u;
      v = 120 ∷ 32 ∷ 120 ∷ 41 ∷ [];
      is = refl;
      v_is = refl;
      broken = fits_not [] lv room N;
      inside = inl refl;
    }

tree_step : (f : ℕ) (u : List ℕ) (lv room : ℕ) (g : Got Trees) → RightTrees f (drop 1 (skip (past 64 u))) (lv - 1) (room - 1) g
    → RightTree (suc f) u lv room (limited lv room u (labelled u (bodied (letters 64 u) (blanks (past 64 u)) (skip (past 64 u)) g)))
unfolding limited labelled bodied pick RightTree
tree_step f u lv room g P = go (ltb 0 lv & ltb 0 room) refl
  where
    U : u ≡ letters 64 u ++ (blanks (past 64 u) ++ skip (past 64 u))
    U = sym (letters-past 64 u) ∙ ap (λ (q : List ℕ). letters 64 u ++ q) (sym (blanks-skip (past 64 u)))

    deep : Is (ltb 0 lv & ltb 0 room) → empty (letters 64 u) ≡ false → empty (blanks (past 64 u)) ≡ false → (t : Bool) → heads 40 (skip (past 64 u)) ≡ t
        → RightTree (suc f) u lv room (pick t (then g (λ ts. closing (node (letters 64 u) (blanks (past 64 u)) ts))) (worded (letters 64 u) (blanks (past 64 u)) (skip (past 64 u))))
    deep N e k true q = node_right u _ _ _ lv room (letters-token u e) (blanks-gap (past 64 u) k) U N q f g P
    deep N e k false q = word_right u _ _ _ lv room (letters-token u e) (blanks-gap (past 64 u) k) U N f (skip_bare (past 64 u)) q

    spaced : Is (ltb 0 lv & ltb 0 room) → empty (letters 64 u) ≡ false → (t : Bool) → empty (blanks (past 64 u)) ≡ t
        → RightTree (suc f) u lv room (pick t (wrong (past 64 u)) (bodied (letters 64 u) (blanks (past 64 u)) (skip (past 64 u)) g))
    spaced N e true k = no_gap u lv room N e k
    spaced N e false k = deep N e k (heads 40 (skip (past 64 u))) refl

    named : Is (ltb 0 lv & ltb 0 room) → (t : Bool) → empty (letters 64 u) ≡ t
        → RightTree (suc f) u lv room (pick t (wrong u) (pick (empty (blanks (past 64 u))) (wrong (past 64 u)) (bodied (letters 64 u) (blanks (past 64 u)) (skip (past 64 u)) g)))
    named N true e = no_label u lv room N e
    named N false e = spaced N e (empty (blanks (past 64 u))) refl

    go : (t : Bool) → (ltb 0 lv & ltb 0 room) ≡ t → RightTree (suc f) u lv room (pick t (labelled u (bodied (letters 64 u) (blanks (past 64 u)) (skip (past 64 u)) g)) (over (40 ∷ u)))
    go true N = named N (empty (letters 64 u)) refl
    go false N = too_far u lv room N

-- ---- trees in a row
one-part : (s r : List ℕ) → Partial write good s r → Partial writes goods s r
unfolding write good blank all
one-part s r P = record { front = P.front; x = one P.x []; v = P.v; is_good = and_in _ _ P.is_good refl; cut = P.cut; text = P.text }

one_inside : (front : List ℕ) (lv room : ℕ) → (front ≡ []) ⊎ Inside write good nests size front lv room → (front ≡ []) ⊎ Inside writes goods nestss sizes front lv room
unfolding write good blank all nests size
one_inside front lv room (inl e) = inl e
one_inside front lv room (inr I) = inr (record { y = one I.y []; w = I.w; is_good = and_in _ _ I.is_good refl; text = I.text; deep = I.deep; few = I.few })

module _ (u : List ℕ) (lv room : ℕ) (t : Tree) (r : List ℕ) (T : Whole write good nests size (40 ∷ u) lv room t r) where
  again : write t r ≡ write t (blanks r ++ skip r)
  again = ap (write t) (sym (blanks-skip r))

  one-whole : Whole writes goods nestss sizes (40 ∷ u) lv room (one t (blanks r)) (skip r)
  unfolding write good size nests
  one-whole =
      record {
        is_good = and_in _ _ T.is_good (blanks-all r);
        text = T.text ∙ again;
        deep = T.deep;
        few = T.few;
      }

  module _ (h : heads 40 (skip r) ≡ true) where
    y : List ℕ
    y = skip r

    on : (f z : List ℕ) → write t (blanks r ++ f) ++ z ≡ write t (blanks r ++ (f ++ z))
    on f z = write_on t (blanks r ++ f) z ∙ ap (write t) (append_assoc (blanks r) f z)

    more-part : (q : List ℕ) → Partial writes goods (40 ∷ drop 1 (skip r)) q → Partial writes goods (40 ∷ u) q
    unfolding write good
    more-part q P =
        record {
          front = write t (blanks r ++ P.front);
          x = more t (blanks r) P.x;
          v = P.v;
          is_good = and_in _ _ T.is_good (and_in _ _ (blanks-all r) P.is_good);
          cut = T.text ∙ again ∙ ap (λ (y : List ℕ). write t (blanks r ++ y)) (headed 39 (skip r) h ∙ P.cut) ∙ sym (on P.front q);
          text = λ z. on P.front (P.v ++ z) ∙ ap (λ (y : List ℕ). write t (blanks r ++ y)) (P.text z);
        }

    more_deep : (ts : Trees) → Is (nestss lv ts) → Is (nestss lv (more t (blanks r) ts))
    unfolding nests
    more_deep ts d = and_in _ _ T.deep d

    more-few : (ts : Trees) → sizes ts ≤ room - size t → sizes (more t (blanks r) ts) ≤ room
    unfolding size
    more-few ts k = omega (arith, T.few)

    -- the trees may end where the next one is too far
    more-inside : (front : List ℕ) → (front ≡ []) ⊎ Inside writes goods nestss sizes front lv (room - size t) → Inside writes goods nestss sizes (write t (blanks r ++ front)) lv room
    unfolding write good nests size
    more-inside front (inl e) =
        record {
          y = one t (blanks r);
          w = [];
          is_good = and_in _ _ T.is_good (blanks-all r);
          text = λ z. on front z ∙ ap (λ (y : List ℕ). write t (blanks r ++ (y ++ z))) e;
          deep = T.deep;
          few = T.few;
        }
    more-inside front (inr I) =
        record {
          y = more t (blanks r) I.y;
          w = I.w;
          is_good = and_in _ _ T.is_good (and_in _ _ (blanks-all r) I.is_good);
          text = λ z. on front (I.w ++ z) ∙ ap (λ (y : List ℕ). write t (blanks r ++ y)) (I.text z);
          deep = more_deep I.y I.deep;
          few = more-few I.y I.few;
        }

    more_beyond : (q : List ℕ) → Beyond writes goods nestss sizes (40 ∷ drop 1 (skip r)) lv (room - size t) q → Beyond writes goods nestss sizes (40 ∷ u) lv room q
    unfolding more-part
    more_beyond q P =
        record {
          part = more-part q P.part;
          rest = P.rest;
          v = P.v;
          is = P.is;
          v_is = P.v_is;
          broken = ap (λ (y : List ℕ). fits y lv room) (on P.part.front (40 ∷ []))
              ∙ fits_tree t T.is_good (blanks r ++ (P.part.front ++ 40 ∷ [])) lv room T.deep T.few ∙ fits-white (blanks r) _ _ _ (blanks-all r) ∙ P.broken;
          inside = inr (more-inside P.part.front P.inside);
        }

    more_goes : (b : Bool) (d : ℕ) → run u (within b (in_label 0) (suc d)) ≡ run (drop 1 (skip r)) (within b (in_label 0) (suc d))
    more_goes b d =
        ap (λ (y : List ℕ). run (drop 1 y) (within b (in_label 0) (suc d))) (T.text ∙ again)
        ∙ tree_run t T.is_good (blanks r ++ skip r) b (suc d)
        ∙ closes_up b d (blanks r ++ skip r)
        ∙ white-run (blanks r) (skip r) _ (blanks-all r) (tree_white b d)
        ∙ from (skip r) _ _ (headed 39 (skip r) h) (tree_open b d)

    more-whole : (ts : Trees) (q : List ℕ) → Whole writes goods nestss sizes (40 ∷ drop 1 (skip r)) lv (room - size t) ts q → Whole writes goods nestss sizes (40 ∷ u) lv room (more t (blanks r) ts) q
    unfolding write good
    more-whole ts q P =
        record {
          is_good = and_in _ _ T.is_good (and_in _ _ (blanks-all r) P.is_good);
          text = T.text ∙ again ∙ ap (λ (y : List ℕ). write t (blanks r ++ y)) (headed 39 (skip r) h ∙ P.text);
          deep = more_deep ts P.deep;
          few = more-few ts P.few;
        }

    more_right : (f : ℕ) (g : Got Trees) → RightTrees f (drop 1 (skip r)) lv (room - size t) g → RightTrees (suc f) u lv room (then g (λ ts. got (more t (blanks r) ts)))
    unfolding then RightTrees more-part
    more_right f (got ts q) P = (more-whole ts q P.0, P.1)
    more_right f (wrong q) P =
        record {
          part = more-part q P.part;
          deep = more_deep P.part.x P.deep;
          few = more-few P.part.x P.few;
          dead = dead;
        }
      where
        dead : (b : Bool) (d : ℕ) → 1 ≤ d → run u (within b (in_label 0) d) ≡ stopped q
        dead b zero m = absurd (omega arith)
        dead b (suc d) m = more_goes b d ∙ P.dead b (suc d) (omega arith)
    more_right f (over q) P = more_beyond q P
    more_right f lost P = let e = ap length T.text in let e₁ = write_long t r in let e₂ = ap length (blanks-skip r) in let e₃ = length-append (blanks r) (skip r) in let e₄ = ap length (headed 39 (skip r) h) in omega (arith, e, e₁, e₂, e₃, e₄, P)

  followed_right : (f : ℕ) (g : Got Trees) → RightTrees f (drop 1 (skip r)) lv (room - size t) g → RightTrees (suc f) u lv room (followed t r g)
  unfolding followed RightTrees pick
  followed_right f g P = go (heads 40 (skip r)) refl
    where
      go : (b : Bool) → heads 40 (skip r) ≡ b → RightTrees (suc f) u lv room (pick b (then g (λ ts. got (more t (blanks r) ts))) (got (one t (blanks r)) (skip r)))
      go true e = more_right e f g P
      go false e = (one-whole, record { bare_text = skip_bare r; not_40 = e })

trees_step : (f : ℕ) (u : List ℕ) (lv room : ℕ) (g : Got Tree) (k : Tree → List ℕ → Got Trees) → RightTree f u lv room g
    → ((t : Tree) (r : List ℕ) → RightTrees f (drop 1 (skip r)) lv (room - size t) (k t r)) → RightTrees (suc f) u lv room (then g (λ t r. followed t r (k t r)))
unfolding then RightTree RightTrees one-part nests size
trees_step f u lv room (got t r) k T K = followed_right u lv room t r T f (k t r) (K t r)
trees_step f u lv room (wrong r) k T K = record { part = one-part _ _ T.part; deep = T.deep; few = T.few; dead = λ b d m. T.dead b d (omega arith) }
trees_step f u lv room (over r) k T K = record { part = one-part _ _ T.part; rest = T.rest; v = T.v; is = T.is; v_is = T.v_is; broken = T.broken; inside = one_inside _ lv room T.inside }
trees_step f u lv room lost k T K = omega (arith, T)

mutual
  unfolding read_tree RightTree RightTrees

  pub tree_right : (f : ℕ) (u : List ℕ) (lv room : ℕ) → RightTree f u lv room (read_tree f u lv room)
  tree_right zero u lv room = omega arith
  tree_right (suc f) u lv room = tree_step f u lv room (read_trees f (drop 1 (skip (past 64 u))) (lv - 1) (room - 1)) (trees_right f (drop 1 (skip (past 64 u))) (lv - 1) (room - 1))

  pub trees_right : (f : ℕ) (u : List ℕ) (lv room : ℕ) → RightTrees f u lv room (read_trees f u lv room)
  trees_right zero u lv room = omega arith
  trees_right (suc f) u lv room =
      trees_step f u lv room (read_tree f u lv room) (λ t r. read_trees f (drop 1 (skip r)) lv (room - size t)) (tree_right f u lv room) (λ t r. trees_right f (drop 1 (skip r)) lv (room - size t))
