-- The limits counted on a text, parenthesis by parenthesis, and that this is the depth and the rows of its trees. Assumes nothing.
use Rattle.std.specs.Prelude.{◌≡◌, refl, Bool, true, false, List, [], ◌∷◌, ◌++◌, ℕ, suc, ◌+◌, ◌-◌, ◌≤◌, ltb, eqb}
use Rattle.std.proofs.Common.{sym, ap, ◌∙◌, arith, ltb-true, lt-ltb}
use Rattle.std.proofs.lemmas.Bool.{false≢true}
use Rattle.meaning.specs.Tests.{Is, ◌&◌}
use Rattle.meaning.specs.Names.{pick}
use Rattle.meaning.specs.Sentences.{all, white, inner, token, blank, gap, Tree, Trees, leaf, node, one, more, write, writes, good, goods, size, sizes, nests, nestss}
use Rattle.brackets.specs.Both.{and_l, and_r, and_in}
use Rattle.brackets.specs.Pieces.{inner_40, inner_41, white_40, white_41}
use Rattle.brackets.specs.Machine.{token-all}

-- with lv levels and room rows left, no opening parenthesis of the text goes beyond
unfoldable pub fits : List ℕ → ℕ → ℕ → Bool
fits [] lv room = true
fits (x ∷ s) lv room =
    pick (eqb x 40) (ltb 0 lv & ltb 0 room & fits s (lv - 1) (room - 1))
    (pick (eqb x 41) (fits s (lv + 1) room) (fits s lv room))

pub fits-inner : (l z : List ℕ) (lv room : ℕ) → Is (all inner l) → fits (l ++ z) lv room ≡ fits z lv room
unfolding all fits pick
fits-inner [] z lv room h = refl
fits-inner (x ∷ l) z lv room h = let i = and_l (inner x) _ h in rw (inner_40 x i, inner_41 x i) (fits-inner l z lv room (and_r (inner x) _ h))

pub fits-white : (l z : List ℕ) (lv room : ℕ) → Is (blank l) → fits (l ++ z) lv room ≡ fits z lv room
unfolding blank all fits pick
fits-white [] z lv room h = refl
fits-white (x ∷ l) z lv room h = let i = and_l (white x) _ h in rw (white_40 x i, white_41 x i) (fits-white l z lv room (and_r (white x) _ h))

pub fits_open : (z : List ℕ) (lv room : ℕ) → Is (ltb 0 lv & ltb 0 room) → fits (40 ∷ z) lv room ≡ fits z (lv - 1) (room - 1)
unfolding fits pick ◌&◌
fits_open z lv room h = rw (and_l (ltb 0 lv) (ltb 0 room) h, and_r (ltb 0 lv) (ltb 0 room) h)

pub fits_not : (z : List ℕ) (lv room : ℕ) → (ltb 0 lv & ltb 0 room) ≡ false → fits (40 ∷ z) lv room ≡ false
unfolding fits pick ◌&◌
fits_not z lv room h = go (ltb 0 lv) (ltb 0 room) h
  where
    go : (a b : Bool) → (a & b) ≡ false → (a & b & fits z (lv - 1) (room - 1)) ≡ false
    go true true h = absurd (false≢true (sym h))
    go true false h = refl
    go false b h = refl

pub fits_shut : (z : List ℕ) (lv room : ℕ) → fits (41 ∷ z) lv room ≡ fits z (lv + 1) room
unfolding fits pick
fits_shut z lv room = refl

pub fits_none : (lv room : ℕ) → Is (fits [] lv room)
unfolding fits
fits_none lv room = refl

-- one byte always fits where a level and a row are left
pub fits_one : (x lv room : ℕ) → Is (fits (x ∷ []) (suc lv) (suc room))
unfolding fits pick
fits_one x lv room = go (eqb x 40) (eqb x 41)
  where
    go : (a b : Bool) → Is (pick a (ltb 0 (suc lv) & ltb 0 (suc room) & true) (pick b true true))
    go true b = and_in _ _ (lt-ltb 0 (suc lv) (omega arith)) (and_in _ _ (lt-ltb 0 (suc room) (omega arith)) refl)
    go false true = refl
    go false false = refl

pub fits_front : (p q : List ℕ) (lv room : ℕ) → Is (fits (p ++ q) lv room) → Is (fits p lv room)
unfolding fits pick
fits_front [] q lv room h = refl
fits_front (x ∷ p) q lv room h = go (eqb x 40) (eqb x 41) (fits_front p q (lv - 1) (room - 1)) (fits_front p q (lv + 1) room) (fits_front p q lv room) h
  where
    go : (a b : Bool) → (Is (fits (p ++ q) (lv - 1) (room - 1)) → Is (fits p (lv - 1) (room - 1))) → (Is (fits (p ++ q) (lv + 1) room) → Is (fits p (lv + 1) room)) → (Is (fits (p ++ q) lv room) → Is (fits p lv room))
        → Is (pick a (ltb 0 lv & ltb 0 room & fits (p ++ q) (lv - 1) (room - 1)) (pick b (fits (p ++ q) (lv + 1) room) (fits (p ++ q) lv room)))
        → Is (pick a (ltb 0 lv & ltb 0 room & fits p (lv - 1) (room - 1)) (pick b (fits p (lv + 1) room) (fits p lv room)))
    go true b i j k h = and_in _ _ (and_l _ _ h) (and_in _ _ (and_l _ _ (and_r (ltb 0 lv) _ h)) (i (and_r (ltb 0 room) _ (and_r (ltb 0 lv) _ h))))
    go false true i j k h = j h
    go false false i j k h = k h

-- ---- a tree takes up no level behind it, and its rows
gap-blank : (a : List ℕ) → Is (gap a) → Is (blank a)
unfolding gap blank
gap-blank a h = and_l _ _ h

head_in : (l a z : List ℕ) (lv room : ℕ) → Is (token l) → Is (gap a) → 1 ≤ lv → 1 ≤ room → fits (40 ∷ (l ++ (a ++ z))) lv room ≡ fits z (lv - 1) (room - 1)
head_in l a z lv room h g i j =
    fits_open _ lv room (and_in _ _ (lt-ltb 0 lv i) (lt-ltb 0 room j)) ∙ fits-inner l (a ++ z) _ _ (token-all l h) ∙ fits-white a z _ _ (gap-blank a g)

mutual
  unfolding write good size nests

  pub fits_tree : (t : Tree) → Is (good t) → (z : List ℕ) (lv room : ℕ) → Is (nests lv t) → size t ≤ room → fits (write t z) lv room ≡ fits z lv (room - size t)
  fits_tree (leaf l b w a) h z lv room d s =
      let h₂ = and_r (token l) _ h in
      let h₃ = and_r (gap b) _ h₂ in
      let d₁ : 1 ≤ lv = ltb-true 0 lv d in
      head_in l b (w ++ (a ++ 41 ∷ z)) lv room (and_l _ _ h) (and_l _ _ h₂) d₁ s
      ∙ fits-inner w _ _ _ (token-all w (and_l _ _ h₃)) ∙ fits-white a _ _ _ (and_r (token w) _ h₃) ∙ fits_shut z _ _ ∙ ap (λ (k : ℕ). fits z k (room - 1)) (omega (arith, d₁))
  fits_tree (node l b ts) h z lv room d s =
      let h₂ = and_r (token l) _ h in
      let i : 1 ≤ lv = ltb-true 0 lv (and_l _ _ d) in
      head_in l b (writes ts (41 ∷ z)) lv room (and_l _ _ h) (and_l _ _ h₂) i (omega arith)
      ∙ fits_trees ts (and_r (gap b) _ h₂) (41 ∷ z) (lv - 1) (room - 1) (and_r (ltb 0 lv) _ d) (omega arith) ∙ fits_shut z _ _
      ∙ ap (λ (k : ℕ). fits z k (room - 1 - sizes ts)) (omega arith) ∙ ap (λ (k : ℕ). fits z lv k) (omega arith)

  pub fits_trees : (ts : Trees) → Is (goods ts) → (z : List ℕ) (lv room : ℕ) → Is (nestss lv ts) → sizes ts ≤ room → fits (writes ts z) lv room ≡ fits z lv (room - sizes ts)
  fits_trees (one t a) h z lv room d s = fits_tree t (and_l _ _ h) (a ++ z) lv room d s ∙ fits-white a z _ _ (and_r (good t) _ h)
  fits_trees (more t a ts) h z lv room d s =
      let h₂ = and_r (good t) _ h in
      fits_tree t (and_l _ _ h) (a ++ writes ts z) lv room (and_l _ _ d) (omega arith) ∙ fits-white a _ _ _ (and_l _ _ h₂)
      ∙ fits_trees ts (and_r (blank a) _ h₂) z lv (room - size t) (and_r (nests lv t) _ d) (omega arith) ∙ ap (λ (k : ℕ). fits z lv k) (omega arith)
