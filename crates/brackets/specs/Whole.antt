-- The reading that is computed is the reading as defined. Assumes nothing.
use Rattle.std.specs.Prelude.{◌≡◌, ◌⊎◌, Bool, ℕ, suc, ◌+◌, ◌-◌, ◌*◌, ◌≤◌, ◌<◌, get_or, take, drop, ltb}
use Rattle.std.proofs.Math.Path.{refl, sym, ap}
use Rattle.std.proofs.Common.{ap₂, ◌∙◌, subst, inl, inr, arith, length-append, le-leb}
use Rattle.std.proofs.Math.Bool.{true, false}
use Rattle.std.proofs.lemmas.Bool.{false≢true}
use mathlib.Core.List.{List, [], ◌∷◌, ◌++◌, append_assoc}
use Rattle.std.proofs.Math.ListN.{length}
use Rattle.brackets.specs.Texts.{take_front, take_next, at_next}
use Rattle.std.proofs.Math.Dec.{eqb}
use Rattle.meaning.specs.Tests.{Is, ◌&◌, ◌or◌, non}
use Rattle.meaning.specs.Names.{pick}
use Rattle.meaning.specs.Sentences.{all, white, inner, token, blank, gap, Tree, leaf, write, good, size, nests, plain, bare, tree_of, spell, legal, allowed, Begins, Reading, found, wrong_at, large_at, IsSentence, Is11, Is12, IsReading}
use Rattle.brackets.specs.Both.{and_in}
use Rattle.brackets.specs.Reader.{skip, Got, got, wrong, over, lost, then, blanks, heads, closing, paired, reading, placed, reading_of, read_tree}
use Rattle.brackets.specs.Steps.{in_label, start, first, inside-pair, within, after-pair, closes, waiting, step, stopped, run, moved}
use Rattle.brackets.specs.Pieces.{blanks-skip, blanks-all, Bare, skip_bare, headed, not_headed}
use Rattle.brackets.specs.Machine.{goes, stays, white-run, start-white, pair-white, after-white, from, tree_run, first_label, start_open, pair_open, stop_ends, stop_none}
use Rattle.brackets.specs.Fits.{fits, fits-white, fits_open, fits_none}
use Rattle.brackets.specs.Right.{Whole, Partial, Inside, Beyond, RightTree, tree_right, write_on}
use Rattle.brackets.specs.Pairs.{pair, no-fit}

no-inner_0 : Is (inner 0) → false ≡ true
unfolding inner ◌&◌
no-inner_0 h = h

-- ---- places
module _ (s f r : List ℕ) (e : s ≡ f ++ r) where
  place_is : length s - length r ≡ length f
  place_is = let i = ap length e in let j = length-append f r in omega arith

  up_to : take (length s - length r) s ≡ f
  up_to = ap (λ (k : ℕ). take k s) place_is ∙ ap (take (length f)) e ∙ take_front f r

  one_more : (b : ℕ) (u : List ℕ) → r ≡ b ∷ u → take (suc (length s - length r)) s ≡ f ++ b ∷ []
  one_more b u q = ap (λ (k : ℕ). take (suc k) s) place_is ∙ ap (take (suc (length f))) (e ∙ ap (λ (y : List ℕ). f ++ y) q) ∙ take_next f b u

  byte_at : (b : ℕ) (u : List ℕ) → r ≡ b ∷ u → get_or s (length s - length r) 0 ≡ b
  byte_at b u q = ap (λ (k : ℕ). get_or s k 0) place_is ∙ ap (λ (y : List ℕ). get_or y (length f) 0) (e ∙ ap (λ (y : List ℕ). f ++ y) q) ∙ at_next f b u

-- ---- from what the reader promises to the definition
eleven : (s r : List ℕ) (P : Partial spell legal s r) → Is (allowed P.x) → run s start ≡ stopped r → Is11 s (length s - length r)
eleven s r P A D =
    record {
      none = stop_none s r D;
      in_text = omega arith;
      before = subst (Begins allowed) (sym (up_to s P.front r P.cut)) (record { sentence = P.x; passes = A; others = P.v ++ []; text = P.text [] });
      stops = λ h. stops r refl (λ e. let z = ap length e in omega arith);
    }
  where
    stops : (r' : List ℕ) → r ≡ r' → (r' ≡ [] → ⊥) → Begins legal (take (suc (length s - length r)) s) → ⊥
    stops [] e n B = n refl
    stops (b ∷ u) e n B =
        stop_ends P.front b u (ap (λ (y : List ℕ). run (P.front ++ y) start) (sym e) ∙ ap (λ (y : List ℕ). run y start) (sym P.cut) ∙ D ∙ ap stopped e)
        (subst (Begins legal) (one_more s P.front r P.cut b u e) B)

-- what the reader promises of a text: beside the definition, that the limits counted on the text are broken at a place of 12
unfoldable pub Promised : List ℕ → Reading → Type 0
Promised s (found x r) = IsSentence s x r
Promised s (wrong_at p) = Is11 s p
Promised s (large_at p) = Is12 s p × (fits (take (suc p) s) (64 + pair s) (1024 + pair s) ≡ false)

twelve : (s r : List ℕ) (P : Partial spell legal s r) (u v : List ℕ) → r ≡ 40 ∷ u → P.v ≡ 40 ∷ v → Begins allowed P.front
    → (k : ℕ) → pair s ≡ k → fits (P.front ++ 40 ∷ []) (64 + k) (1024 + k) ≡ false → Promised s (large_at (length s - length r))
unfolding Promised
twelve s r P u v e q I k z F =
    let m = one_more s P.front r P.cut 40 u e in
    let c : s ≡ (P.front ++ 40 ∷ []) ++ u = P.cut ∙ ap (λ (y : List ℕ). P.front ++ y) e ∙ sym (append_assoc P.front (40 ∷ []) u) in (
      record {
        opens = byte_at s P.front r P.cut 40 u e;
        before = subst (Begins allowed) (sym (up_to s P.front r P.cut)) I;
        continues = subst (Begins legal) (sym m)
            (record {
              sentence = P.x;
              passes = P.is_good;
              others = v ++ [];
              text = append_assoc P.front (40 ∷ []) (v ++ []) ∙ ap (λ (y : List ℕ). P.front ++ (y ++ [])) (sym q) ∙ P.text [];
            });
        beyond = λ B. no-fit s (P.front ++ 40 ∷ []) u c k z F (subst (Begins allowed) m B);
      },
      ap₂ (λ (y : List ℕ) (j : ℕ). fits y (64 + j) (1024 + j)) m z ∙ F,
    )

plain_allowed : (w : List ℕ) (t : Tree) → Is (blank w) → Is (good t) → Is (nests 64 t) → size t ≤ 1024 → Is (allowed (plain w t))
unfolding allowed legal tree_of
plain_allowed w t h g n m = and_in _ _ (and_in _ _ h g) (and_in _ _ n (le-leb _ _ m))

bare_allowed : (w v : List ℕ) (t : Tree) (a : List ℕ) → Is (legal (bare w v t a)) → Is (nests 64 t) → size t ≤ 1024 → Is (allowed (bare w v t a))
unfolding allowed tree_of
bare_allowed w v t a h n m = and_in _ _ h (and_in _ _ n (le-leb _ _ m))

-- a first tree is never too far
not_first : (f : List ℕ) → f ≡ [] → fits (f ++ 40 ∷ []) 64 1024 ≡ false → ⊥
not_first f e h = false≢true (sym h ∙ ap (λ (y : List ℕ). fits (y ++ 40 ∷ []) 64 1024) e ∙ fits_open [] 64 1024 (and_in (ltb 0 64) (ltb 0 1024) refl refl) ∙ fits_none _ _)

-- ---- the white space before
module _ (s : List ℕ) where
  to_first : heads 40 (skip s) ≡ true → run s start ≡ run (drop 1 (skip s)) first
  to_first h =
      ap (λ (y : List ℕ). run y start) (sym (blanks-skip s)) ∙ white-run (blanks s) (skip s) start (blanks-all s) start-white ∙ from (skip s) start first (headed 39 (skip s) h) start_open

  text_is : heads 40 (skip s) ≡ true → s ≡ blanks s ++ 40 ∷ drop 1 (skip s)
  text_is h = sym (blanks-skip s) ∙ ap (λ (y : List ℕ). blanks s ++ y) (headed 39 (skip s) h)

  start_dead : (y : List ℕ) → Bare y → heads 40 y ≡ false → run y start ≡ stopped y
  unfolding run step pick
  start_dead [] B h = refl
  start_dead (x ∷ y) B h = stays x y start (rw (B.not_white x y refl, not_headed 40 (x ∷ y) h x y refl))

  no_tree : heads 40 (skip s) ≡ false → Is11 s (length s - length (skip s))
  unfolding spell legal write good token gap blank all inner white ◌&◌ ◌or◌ non nests size
  no_tree h =
      eleven s (skip s)
      (record {
        front = blanks s;
        x = plain (blanks s) (leaf (120 ∷ []) (32 ∷ []) (120 ∷ []) []);
        v = 40 ∷ 120 ∷ 32 ∷ 120 ∷ 41 ∷ [];
        is_good = and_in _ _ (blanks-all s) refl;
        cut = sym (blanks-skip s);
        text = λ z. refl;
      })
      (plain_allowed (blanks s) _ (blanks-all s) refl refl (omega arith))
      (ap (λ (y : List ℕ). run y start) (sym (blanks-skip s)) ∙ white-run (blanks s) (skip s) start (blanks-all s) start-white ∙ start_dead (skip s) (skip_bare s) h)

  pair_is : heads 40 (skip s) ≡ true → (b : Bool) → inner (get_or (drop 1 (skip s)) 0 0) ≡ b → pair s ≡ pick b 0 1
  unfolding pair
  pair_is h b e = ap (λ (y : List ℕ). pick (inner (get_or y 1 0)) 0 1) (headed 39 (skip s) h) ∙ ap (λ (c : Bool). pick c 0 1) e

  -- ---- a tree alone
  module _ (h : heads 40 (skip s) ≡ true) where
    part_plain : (r : List ℕ) → Partial write good (40 ∷ drop 1 (skip s)) r → Partial spell legal s r
    unfolding spell legal
    part_plain r P =
        record {
          front = blanks s ++ P.front;
          x = plain (blanks s) P.x;
          v = P.v;
          is_good = and_in _ _ (blanks-all s) P.is_good;
          cut = text_is h ∙ ap (λ (y : List ℕ). blanks s ++ y) P.cut ∙ sym (append_assoc (blanks s) P.front r);
          text = λ z. append_assoc (blanks s) P.front (P.v ++ z) ∙ ap (λ (y : List ℕ). blanks s ++ y) (P.text z);
        }

    inside_plain : (f : List ℕ) → Inside write good nests size f 64 1024 → Begins allowed (blanks s ++ f)
    unfolding spell
    inside_plain f I =
        record {
          sentence = plain (blanks s) I.y;
          passes = plain_allowed (blanks s) I.y (blanks-all s) I.is_good I.deep I.few;
          others = I.w ++ [];
          text = append_assoc (blanks s) f (I.w ++ []) ∙ ap (λ (y : List ℕ). blanks s ++ y) (I.text []);
        }

    plain_over : (r : List ℕ) → pair s ≡ 0 → Beyond write good nests size (40 ∷ drop 1 (skip s)) 64 1024 r → Promised s (large_at (length s - length r))
    unfolding part_plain
    plain_over r z B =
        twelve s r (part_plain r B.part) B.rest B.v B.is B.v_is (go B.inside) 0 z
        (ap (λ (y : List ℕ). fits y 64 1024) (append_assoc (blanks s) B.part.front (40 ∷ [])) ∙ fits-white (blanks s) _ _ _ (blanks-all s) ∙ B.broken)
      where
        go : (B.part.front ≡ []) ⊎ Inside write good nests size B.part.front 64 1024 → Begins allowed (blanks s ++ B.part.front)
        go (inl e) = absurd (not_first _ e B.broken)
        go (inr I) = inside_plain _ I

    labelled_first : Is (inner (get_or (drop 1 (skip s)) 0 0)) → run (drop 1 (skip s)) first ≡ run (drop 1 (skip s)) (within false (in_label 0) 0)
    labelled_first i = go (drop 1 (skip s)) i
      where
        go : (v : List ℕ) → Is (inner (get_or v 0 0)) → run v first ≡ run v (within false (in_label 0) 0)
        go [] i = absurd (false≢true (no-inner_0 i))
        go (x ∷ v) i = first_label x v i

    plain_right : (f : ℕ) → pair s ≡ 0 → Is (inner (get_or (drop 1 (skip s)) 0 0)) → (g : Got Tree) → RightTree f (drop 1 (skip s)) 64 1024 g → 2 * length (drop 1 (skip s)) < f
        → Promised s (placed (length s) (then g (λ t r. got (plain (blanks s) t) r)))
    unfolding placed then RightTree Promised spell part_plain
    plain_right f z i (got t r) P n =
        record {
          is_allowed = plain_allowed (blanks s) t (blanks-all s) P.is_good P.deep P.few;
          text = text_is h ∙ ap (λ (y : List ℕ). blanks s ++ y) P.text;
        }
    plain_right f z i (wrong r) P n =
        eleven s r (part_plain r P.part) (plain_allowed (blanks s) P.part.x (blanks-all s) P.part.is_good P.deep P.few) (to_first h ∙ labelled_first i ∙ P.dead false 0 (omega arith))
    plain_right f z i (over r) P n = plain_over r z P
    plain_right f z i lost P n = absurd (omega (arith, P, n))

  -- ---- a bare pair: v is the text behind its opening parenthesis
  module _ (v : List ℕ) (S : s ≡ blanks s ++ 40 ∷ v) (F : run s start ≡ run v first) (i : inner (get_or v 0 0) ≡ false) where
    pair_front : (y z : List ℕ) → (blanks s ++ 40 ∷ (blanks v ++ y)) ++ z ≡ blanks s ++ 40 ∷ (blanks v ++ (y ++ z))
    pair_front y z = append_assoc (blanks s) (40 ∷ (blanks v ++ y)) z ∙ ap (λ (q : List ℕ). blanks s ++ 40 ∷ q) (append_assoc (blanks v) y z)

    pair_text : s ≡ blanks s ++ 40 ∷ (blanks v ++ skip v)
    pair_text = S ∙ ap (λ (y : List ℕ). blanks s ++ 40 ∷ y) (sym (blanks-skip v))

    pair_fits : (y : List ℕ) → fits (blanks s ++ 40 ∷ (blanks v ++ y)) 65 1025 ≡ fits y 64 1024
    pair_fits y = fits-white (blanks s) _ _ _ (blanks-all s) ∙ fits_open (blanks v ++ y) 65 1025 (and_in (ltb 0 65) (ltb 0 1025) refl refl) ∙ fits-white (blanks v) y _ _ (blanks-all v)

    inside_dead : (y : List ℕ) → Bare y → heads 40 y ≡ false → run y inside-pair ≡ stopped y
    unfolding run step pick
    inside_dead [] B h = refl
    inside_dead (x ∷ y) B h = stays x y inside-pair (rw (B.not_white x y refl, not_headed 40 (x ∷ y) h x y refl))

    -- the machine behind the bare parenthesis
    first_dead : (v : List ℕ) → inner (get_or v 0 0) ≡ false → heads 40 (skip v) ≡ false → run v first ≡ stopped (skip v)
    unfolding run skip pick step
    first_dead [] i h = refl
    first_dead (x ∷ v) i h = go (white x) refl h
      where
        go : (c : Bool) → white x ≡ c → heads 40 (pick c (skip v) (x ∷ v)) ≡ false → run (x ∷ v) first ≡ stopped (pick c (skip v) (x ∷ v))
        go true e h =
            goes x v first inside-pair (rw (i, e)) ∙ ap (λ (y : List ℕ). run y inside-pair) (sym (blanks-skip v)) ∙ white-run (blanks v) (skip v) inside-pair (blanks-all v) pair-white ∙ inside_dead (skip v) (skip_bare v) h
        go false e h = stays x v first (rw (i, e, not_headed 40 (x ∷ v) h x v refl))

    first_goes : (v : List ℕ) → inner (get_or v 0 0) ≡ false → heads 40 (skip v) ≡ true → run v first ≡ run (drop 1 (skip v)) (within true (in_label 0) 0)
    unfolding skip pick step heads
    first_goes [] i h = absurd (let e = ap length (headed 39 [] h) in omega arith)
    first_goes (x ∷ v) i h = go (white x) refl h
      where
        go : (c : Bool) → white x ≡ c → heads 40 (pick c (skip v) (x ∷ v)) ≡ true → run (x ∷ v) first ≡ run (drop 1 (pick c (skip v) (x ∷ v))) (within true (in_label 0) 0)
        go true e h =
            goes x v first inside-pair (rw (i, e)) ∙ ap (λ (y : List ℕ). run y inside-pair) (sym (blanks-skip v)) ∙ white-run (blanks v) (skip v) inside-pair (blanks-all v) pair-white
            ∙ from (skip v) inside-pair _ (headed 39 (skip v) h) pair_open
        go false e h = let k : eqb x 40 ≡ true = h in goes x v first (within true (in_label 0) 0) (rw (i, e, k))

    pair_none : heads 40 (skip v) ≡ false → Is11 s (length s - length (skip v))
    unfolding spell legal write good token gap blank all inner white ◌&◌ ◌or◌ non nests size
    pair_none h =
        eleven s (skip v)
        (record {
          front = blanks s ++ 40 ∷ (blanks v ++ []);
          x = bare (blanks s) (blanks v) (leaf (120 ∷ []) (32 ∷ []) (120 ∷ []) []) [];
          v = 40 ∷ 120 ∷ 32 ∷ 120 ∷ 41 ∷ 41 ∷ [];
          is_good = and_in _ _ (blanks-all s) (and_in _ _ (blanks-all v) refl);
          cut = pair_text ∙ sym (pair_front [] (skip v));
          text = λ z. pair_front [] (40 ∷ 120 ∷ 32 ∷ 120 ∷ 41 ∷ 41 ∷ z);
        })
        (bare_allowed (blanks s) (blanks v) _ [] (and_in _ _ (blanks-all s) (and_in _ _ (blanks-all v) refl)) refl (omega arith))
        (F ∙ first_dead v i h)

    module _ (h : heads 40 (skip v) ≡ true) where
      part_bare : (r : List ℕ) → Partial write good (40 ∷ drop 1 (skip v)) r → Partial spell legal s r
      unfolding spell legal blank all
      part_bare r P =
          record {
            front = blanks s ++ 40 ∷ (blanks v ++ P.front);
            x = bare (blanks s) (blanks v) P.x [];
            v = P.v ++ 41 ∷ [];
            is_good = and_in _ _ (blanks-all s) (and_in _ _ (blanks-all v) (and_in _ _ P.is_good refl));
            cut = pair_text ∙ ap (λ (y : List ℕ). blanks s ++ 40 ∷ (blanks v ++ y)) (headed 39 (skip v) h ∙ P.cut) ∙ sym (pair_front P.front r);
            text = λ z. pair_front P.front ((P.v ++ 41 ∷ []) ++ z) ∙ ap (λ (y : List ℕ). blanks s ++ 40 ∷ (blanks v ++ y)) (ap (λ (y : List ℕ). P.front ++ y) (append_assoc P.v (41 ∷ []) z) ∙ P.text (41 ∷ z));
          }

      inside_bare : (f : List ℕ) → Inside write good nests size f 64 1024 → Begins allowed (blanks s ++ 40 ∷ (blanks v ++ f))
      unfolding spell legal blank all
      inside_bare f I =
          record {
            sentence = bare (blanks s) (blanks v) I.y [];
            passes = bare_allowed (blanks s) (blanks v) I.y [] (and_in _ _ (blanks-all s) (and_in _ _ (blanks-all v) (and_in _ _ I.is_good refl))) I.deep I.few;
            others = (I.w ++ 41 ∷ []) ++ [];
            text = pair_front f ((I.w ++ 41 ∷ []) ++ []) ∙ ap (λ (y : List ℕ). blanks s ++ 40 ∷ (blanks v ++ y)) (ap (λ (y : List ℕ). f ++ y) (append_assoc I.w (41 ∷ []) []) ∙ I.text (41 ∷ []));
          }

      bare_over : (r : List ℕ) → pair s ≡ 1 → Beyond write good nests size (40 ∷ drop 1 (skip v)) 64 1024 r → Promised s (large_at (length s - length r))
      unfolding part_bare
      bare_over r z B =
          twelve s r (part_bare r B.part) B.rest (B.v ++ 41 ∷ []) B.is (ap (λ (q : List ℕ). q ++ 41 ∷ []) B.v_is) (go B.inside) 1 z
          (ap (λ (y : List ℕ). fits y 65 1025) (pair_front B.part.front (40 ∷ [])) ∙ pair_fits _ ∙ B.broken)
        where
          go : (B.part.front ≡ []) ⊎ Inside write good nests size B.part.front 64 1024 → Begins allowed (blanks s ++ 40 ∷ (blanks v ++ B.part.front))
          go (inl e) = absurd (not_first _ e B.broken)
          go (inr I) = inside_bare _ I

      after_dead : (y : List ℕ) → Bare y → heads 41 y ≡ false → run y after-pair ≡ stopped y
      unfolding run step waiting pick
      after_dead [] B h = refl
      after_dead (x ∷ y) B h = stays x y after-pair (rw (B.not_white x y refl, not_headed 41 (x ∷ y) h x y refl))

      module _ (t : Tree) (r : List ℕ) (P : Whole write good nests size (40 ∷ drop 1 (skip v)) 64 1024 t r) where
        bare_legal : Is (legal (bare (blanks s) (blanks v) t (blanks r)))
        unfolding legal
        bare_legal = and_in _ _ (blanks-all s) (and_in _ _ (blanks-all v) (and_in _ _ P.is_good (blanks-all r)))

        bare_text : s ≡ blanks s ++ 40 ∷ (blanks v ++ write t (blanks r ++ skip r))
        bare_text = pair_text ∙ ap (λ (y : List ℕ). blanks s ++ 40 ∷ (blanks v ++ y)) (headed 39 (skip v) h ∙ P.text ∙ ap (write t) (sym (blanks-skip r)))

        bare_read : heads 41 (skip r) ≡ true → IsSentence s (bare (blanks s) (blanks v) t (blanks r)) (drop 1 (skip r))
        unfolding spell
        bare_read q =
            record {
              is_allowed = bare_allowed _ _ t _ bare_legal P.deep P.few;
              text = bare_text ∙ ap (λ (y : List ℕ). blanks s ++ 40 ∷ (blanks v ++ write t (blanks r ++ y))) (headed 40 (skip r) q);
            }

        bare_open : heads 41 (skip r) ≡ false → Is11 s (length s - length (skip r))
        unfolding spell closes moved
        bare_open q =
            eleven s (skip r)
            (record {
              front = blanks s ++ 40 ∷ (blanks v ++ write t (blanks r));
              x = bare (blanks s) (blanks v) t (blanks r);
              v = 41 ∷ [];
              is_good = bare_legal;
              cut = bare_text ∙ sym (on (skip r));
              text = λ z. on (41 ∷ z);
            })
            (bare_allowed _ _ t _ bare_legal P.deep P.few)
            (F ∙ first_goes v i h
            ∙ ap (λ (y : List ℕ). run (drop 1 y) (within true (in_label 0) 0)) (P.text ∙ ap (write t) (sym (blanks-skip r)))
            ∙ tree_run t P.is_good (blanks r ++ skip r) true 0
            ∙ white-run (blanks r) (skip r) after-pair (blanks-all r) after-white
            ∙ after_dead (skip r) (skip_bare r) q)
          where
            on : (z : List ℕ) → (blanks s ++ 40 ∷ (blanks v ++ write t (blanks r))) ++ z ≡ blanks s ++ 40 ∷ (blanks v ++ write t (blanks r ++ z))
            on z = pair_front (write t (blanks r)) z ∙ ap (λ (y : List ℕ). blanks s ++ 40 ∷ (blanks v ++ y)) (write_on t (blanks r) z)

      bare_right : (f : ℕ) → pair s ≡ 1 → (g : Got Tree) → RightTree f (drop 1 (skip v)) 64 1024 g → 2 * length (drop 1 (skip v)) < f
          → Promised s (placed (length s) (then g (λ t r. closing (bare (blanks s) (blanks v) t (blanks r)) (skip r))))
      unfolding placed then closing pick RightTree Promised part_bare
      bare_right f z (got t r) P n = go (heads 41 (skip r)) refl
        where
          go : (c : Bool) → heads 41 (skip r) ≡ c → Promised s (placed (length s) (pick c (got (bare (blanks s) (blanks v) t (blanks r)) (drop 1 (skip r))) (wrong (skip r))))
          go true q = bare_read t r P q
          go false q = bare_open t r P q
      bare_right f z (wrong r) P n =
          eleven s r (part_bare r P.part) (bare_allowed _ _ P.part.x [] (part_bare r P.part).is_good P.deep P.few) (F ∙ first_goes v i h ∙ P.dead true 0 (omega arith))
      bare_right f z (over r) P n = bare_over r z P
      bare_right f z lost P n = absurd (omega (arith, P, n))

-- ---- the reading that is computed
pub short : (s : List ℕ) → length (drop 1 (skip s)) ≤ length s
short s = let e = ap length (blanks-skip s) in let e₁ = length-append (blanks s) (skip s) in omega (arith, one_less (skip s))
  where
    one_less : (y : List ℕ) → length (drop 1 y) ≤ length y
    one_less [] = omega arith
    one_less (x ∷ y) = omega arith

pub reading_promised : (s : List ℕ) → Promised s (reading_of s)
unfolding reading_of placed Promised reading paired pick
reading_promised s = go (heads 40 (skip s)) refl
  where
    in_pair : heads 40 (skip s) ≡ true → inner (get_or (drop 1 (skip s)) 0 0) ≡ false → (b : Bool) → heads 40 (skip (drop 1 (skip s))) ≡ b
        → Promised s (placed (length s) (pick b (then (read_tree (2 * length s + 2) (drop 1 (skip (drop 1 (skip s)))) 64 1024) (λ t r. closing (bare (blanks s) (blanks (drop 1 (skip s))) t (blanks r)) (skip r))) (wrong (skip (drop 1 (skip s))))))
    in_pair h i true k =
        bare_right s (drop 1 (skip s)) (text_is s h) (to_first s h) i k (2 * length s + 2) (pair_is s h false i) _ (tree_right (2 * length s + 2) _ 64 1024) (omega (arith, short s, short (drop 1 (skip s))))
    in_pair h i false k = pair_none s (drop 1 (skip s)) (text_is s h) (to_first s h) i k

    begun : heads 40 (skip s) ≡ true → (b : Bool) → inner (get_or (drop 1 (skip s)) 0 0) ≡ b
        → Promised s (placed (length s) (pick b (then (read_tree (2 * length s + 2) (drop 1 (skip s)) 64 1024) (λ t r. got (plain (blanks s) t) r)) (paired s (drop 1 (skip s)) (read_tree (2 * length s + 2) (drop 1 (skip (drop 1 (skip s)))) 64 1024))))
    begun h true i = plain_right s h (2 * length s + 2) (pair_is s h true i) i _ (tree_right (2 * length s + 2) _ 64 1024) (omega (arith, short s))
    begun h false i = in_pair h i (heads 40 (skip (drop 1 (skip s)))) refl

    go : (b : Bool) → heads 40 (skip s) ≡ b
        → Promised s (placed (length s) (pick b (pick (inner (get_or (drop 1 (skip s)) 0 0)) (then (read_tree (2 * length s + 2) (drop 1 (skip s)) 64 1024) (λ t r. got (plain (blanks s) t) r)) (paired s (drop 1 (skip s)) (read_tree (2 * length s + 2) (drop 1 (skip (drop 1 (skip s)))) 64 1024))) (wrong (skip s))))
    go true h = begun h (inner (get_or (drop 1 (skip s)) 0 0)) refl
    go false h = no_tree s h

pub reading_right : (s : List ℕ) → IsReading s (reading_of s)
unfolding Promised IsReading
reading_right s = forget (reading_of s) (reading_promised s)
  where
    forget : (o : Reading) → Promised s o → IsReading s o
    forget (found x r) h = h
    forget (wrong_at p) h = h
    forget (large_at p) h = h.0
