-- The bare pair is no level and no row: what a text that breaks a limit tells of every sentence that begins so. Assumes nothing.
use Rattle.std.specs.Prelude.{◌≡◌, refl, Bool, true, false, List, [], ◌∷◌, ◌++◌, ℕ, suc, ◌+◌, ◌-◌, ◌≤◌, ◌<◌, length, get_or, ltb}
use Rattle.std.proofs.Common.{sym, ap, ◌∙◌, arith, leb-true}
use Rattle.std.proofs.lemmas.Bool.{false≢true}
use Rattle.meaning.specs.Tests.{Is, ◌&◌}
use Rattle.meaning.specs.Names.{pick}
use Rattle.meaning.specs.Sentences.{white, inner, blank, Tree, write, good, size, nests, Sentence, plain, bare, tree_of, spell, legal, allowed, Begins}
use Rattle.brackets.specs.Both.{and_l, and_r, and_in}
use Rattle.brackets.specs.Reader.{skip, blanks}
use Rattle.brackets.specs.Fits.{fits, fits-white, fits_open, fits_shut, fits_none, fits_one, fits_front, fits_tree}
use Rattle.brackets.specs.Pieces.{blanks-skip, blanks-all}
use Rattle.brackets.specs.Machine.{opened}
use Rattle.brackets.specs.Same.{blanks_of, tree_label, no_label, white_of_40, white_40_not}

-- 1 where the first parenthesis has no label directly after it
unfoldable pub pair : List ℕ → ℕ
pair s = pick (inner (get_or (skip s) 1 0)) 0 1

-- it is seen from the first two bytes behind the white space
skip_longer : (c z : List ℕ) → 0 < length (skip c) → skip (c ++ z) ≡ skip c ++ z
unfolding skip pick
skip_longer [] z h = absurd (omega arith)
skip_longer (x ∷ c) z h = go (white x) (skip_longer c z) h
  where
    go : (b : Bool) → (0 < length (skip c) → skip (c ++ z) ≡ skip c ++ z) → 0 < length (pick b (skip c) (x ∷ c)) → pick b (skip (c ++ z)) (x ∷ (c ++ z)) ≡ pick b (skip c) (x ∷ c) ++ z
    go true k h = k h
    go false k h = refl

second : (y z : List ℕ) → 2 ≤ length y → get_or (y ++ z) 1 0 ≡ get_or y 1 0
second [] z h = absurd (omega arith)
second (a ∷ []) z h = absurd (omega arith)
second (a ∷ b ∷ y) z h = refl

pair_longer : (c z : List ℕ) → 2 ≤ length (skip c) → pair (c ++ z) ≡ pair c
unfolding pair
pair_longer c z h =
    ap (λ (y : List ℕ). pick (inner (get_or y 1 0)) 0 1) (skip_longer c z (omega arith)) ∙ ap (λ (k : ℕ). pick (inner k) 0 1) (second (skip c) z h)

broken_long : (c : List ℕ) (lv room : ℕ) → fits c (suc lv) (suc room) ≡ false → 2 ≤ length (skip c)
broken_long c lv room h = go (skip c) (ap (λ (y : List ℕ). fits y (suc lv) (suc room)) (blanks-skip c) ∙ h)
  where
    bare_fits : (y : List ℕ) → fits (blanks c ++ y) (suc lv) (suc room) ≡ fits y (suc lv) (suc room)
    bare_fits y = fits-white (blanks c) y _ _ (blanks-all c)

    go : (y : List ℕ) → fits (blanks c ++ y) (suc lv) (suc room) ≡ false → 2 ≤ length y
    go [] k = absurd (false≢true (sym k ∙ bare_fits [] ∙ fits_none _ _))
    go (a ∷ []) k = absurd (false≢true (sym k ∙ bare_fits (a ∷ []) ∙ fits_one a lv room))
    go (a ∷ b ∷ y) k = omega arith

-- ---- a sentence within the limits, counted on its text
plain_pair : (w : List ℕ) (t : Tree) (r : List ℕ) → Is (blank w) → Is (good t) → pair (w ++ write t r) ≡ 0
unfolding pair pick
plain_pair w t r h k =
    let e = blanks_of w (write t r) h (white_of_40 _ (opened t r)) in
    let i : Is (inner (get_or (skip (w ++ write t r)) 1 0)) =
    ap (λ (y : List ℕ). inner (get_or y 1 0)) (e.1 ∙ opened t r) ∙ tree_label t r k in
    ap (λ (b : Bool). pick b 0 1) i

bare_pair : (w v : List ℕ) (t : Tree) (r : List ℕ) → Is (blank w) → Is (blank v) → pair (w ++ 40 ∷ (v ++ write t r)) ≡ 1
unfolding pair pick
bare_pair w v t r h k =
    let e = blanks_of w (40 ∷ (v ++ write t r)) h white_40_not in
    let i : inner (get_or (skip (w ++ 40 ∷ (v ++ write t r))) 1 0) ≡ false =
    ap (λ (y : List ℕ). inner (get_or y 1 0)) e.1 ∙ no_label v (write t r) k (opened t r) in
    ap (λ (b : Bool). pick b 0 1) i

module _ (t : Tree) (g : Is (good t)) (n : Is (nests 64 t)) (m : size t ≤ 1024) where
  tree_within : (z : List ℕ) → fits (write t z) 64 1024 ≡ fits z 64 (1024 - size t)
  tree_within z = fits_tree t g z 64 1024 n m

spelled : (x : Sentence) → Is (allowed x) → Is (fits (spell x []) (64 + pair (spell x [])) (1024 + pair (spell x [])))
unfolding spell allowed legal tree_of
spelled (plain w t) h =
    let l = and_l _ _ h in
    let g = and_r (blank w) _ l in
    let k = and_r (blank w & good t) _ h in
    let m : size t ≤ 1024 = leb-true (size t) 1024 (and_r (nests 64 t) _ k) in
    ap (λ (p : ℕ). fits (w ++ write t []) (64 + p) (1024 + p)) (plain_pair w t [] (and_l _ _ l) g)
    ∙ fits-white w _ _ _ (and_l _ _ l) ∙ tree_within t g (and_l _ _ k) m [] ∙ fits_none _ _
spelled (bare w v t a) h =
    let l = and_l _ _ h in
    let l₂ = and_r (blank w) _ l in
    let l₃ = and_r (blank v) _ l₂ in
    let g = and_l (good t) _ l₃ in
    let k = and_r (blank w & blank v & good t & blank a) _ h in
    let m : size t ≤ 1024 = leb-true (size t) 1024 (and_r (nests 64 t) _ k) in
    ap (λ (p : ℕ). fits (w ++ 40 ∷ (v ++ write t (a ++ 41 ∷ []))) (64 + p) (1024 + p)) (bare_pair w v t (a ++ 41 ∷ []) (and_l _ _ l) (and_l _ _ l₂))
    ∙ fits-white w _ _ _ (and_l _ _ l) ∙ fits_open _ 65 1025 (and_in (ltb 0 65) (ltb 0 1025) refl refl) ∙ fits-white v _ _ _ (and_l _ _ l₂)
    ∙ tree_within t g (and_l _ _ k) m (a ++ 41 ∷ []) ∙ fits-white a _ _ _ (and_r (good t) _ l₃) ∙ fits_shut [] _ _ ∙ fits_none _ _

-- a text with a front that breaks a limit: no sentence within the limits begins with that front
pub no-fit : (s c d : List ℕ) → s ≡ c ++ d → (p : ℕ) → pair s ≡ p → fits c (64 + p) (1024 + p) ≡ false → Begins allowed c → ⊥
no-fit s c d e p q h B =
    let f : fits c (suc (63 + pair s)) (suc (1023 + pair s)) ≡ false = ap₃ (64 + p) (1024 + p) (omega (arith, q)) (omega (arith, q)) ∙ h in
    let n = broken_long c _ _ f in
    let y = B.sentence in
    let P : pair (spell y []) ≡ p = ap pair (sym B.text) ∙ pair_longer c B.others n ∙ sym (pair_longer c d n) ∙ ap pair (sym e) ∙ q in
    let k : Is (fits (spell y []) (64 + p) (1024 + p)) = ap (λ (j : ℕ). fits (spell y []) (64 + j) (1024 + j)) (sym P) ∙ spelled y B.passes in
    false≢true (sym h ∙ fits_front c B.others _ _ (ap (λ (z : List ℕ). fits z (64 + p) (1024 + p)) B.text ∙ k))
  where
    ap₃ : (lv room : ℕ) → suc (63 + pair s) ≡ lv → suc (1023 + pair s) ≡ room → fits c (suc (63 + pair s)) (suc (1023 + pair s)) ≡ fits c lv room
    ap₃ lv room a b = ap (λ (k : ℕ). fits c k (suc (1023 + pair s))) a ∙ ap (fits c lv) b
