-- The place of 12 is an opening parenthesis that would open a 65th nested tree or the 1,025th row: counted on the
-- parentheses before it, of which a bare pair's is no tree. Assumes nothing.
use Rattle.std.specs.Prelude.{◌≡◌, refl, ◌⊎◌, Bool, true, false, List, [], ◌∷◌, ◌++◌, ℕ, suc, ◌+◌, ◌-◌, ◌<◌, take, drop, ltb, eqb}
use Rattle.std.proofs.Common.{sym, ap, ◌∙◌, subst, inl, inr, arith, ltb-true, ltb-false, eqb-true}
use Rattle.std.proofs.lemmas.Bool.{false≢true}
use Rattle.brackets.specs.Texts.{inside-at, take_snoc, take-drop}
use Rattle.meaning.specs.Tests.{Is, ◌&◌}
use Rattle.meaning.specs.Names.{pick}
use Rattle.meaning.specs.Sentences.{large_at, Is12, IsReading}
use Rattle.brackets.specs.Both.{and_l, and_r}
use Rattle.brackets.specs.Fits.{fits}
use Rattle.brackets.specs.Pairs.{pair, no-fit}
use Rattle.brackets.specs.Whole.{Promised, reading_promised}
use Rattle.brackets.specs.Unique.{reading_is}

-- how often a byte stands in a text
unfoldable pub times_in : ℕ → List ℕ → ℕ
times_in b [] = 0
times_in b (x ∷ s) = pick (eqb x b) (suc (times_in b s)) (times_in b s)

-- where the next parenthesis is the first to break a limit, all levels or all rows are used up
used_up : (p : List ℕ) (lv room : ℕ) → Is (fits p lv room) → fits (p ++ 40 ∷ []) lv room ≡ false → (times_in 40 p ≡ lv + times_in 41 p) ⊎ (times_in 40 p ≡ room)
unfolding fits times_in pick ◌&◌
used_up [] lv room h k = go (ltb 0 lv) (ltb 0 room) refl refl k
  where
    go : (a b : Bool) → ltb 0 lv ≡ a → ltb 0 room ≡ b → (a & b & true) ≡ false → (0 ≡ lv + 0) ⊎ (0 ≡ room)
    go true true e f k = absurd (false≢true (sym k))
    go true false e f k = inr (let z = ltb-false 0 room f in omega arith)
    go false b e f k = inl (let z = ltb-false 0 lv e in omega arith)
used_up (x ∷ p) lv room h k = go (eqb x 40) (eqb x 41) (shut_not x) (used_up p (lv - 1) (room - 1)) (used_up p (lv + 1) room) (used_up p lv room) h k
  where
    shut_not : (y : ℕ) → eqb y 40 ≡ true → eqb y 41 ≡ false
    shut_not y e = ap (λ (z : ℕ). eqb z 41) (eqb-true y 40 e)

    or_less : (0 < lv) → (0 < room) → (times_in 40 p ≡ lv - 1 + times_in 41 p) ⊎ (times_in 40 p ≡ room - 1) → (suc (times_in 40 p) ≡ lv + times_in 41 p) ⊎ (suc (times_in 40 p) ≡ room)
    or_less i j (inl e) = inl (omega arith)
    or_less i j (inr e) = inr (omega arith)

    or_more : (times_in 40 p ≡ lv + 1 + times_in 41 p) ⊎ (times_in 40 p ≡ room) → (times_in 40 p ≡ lv + suc (times_in 41 p)) ⊎ (times_in 40 p ≡ room)
    or_more (inl e) = inl (omega arith)
    or_more (inr e) = inr e

    go : (a b : Bool) → (a ≡ true → b ≡ false)
        → (Is (fits p (lv - 1) (room - 1)) → fits (p ++ 40 ∷ []) (lv - 1) (room - 1) ≡ false → (times_in 40 p ≡ lv - 1 + times_in 41 p) ⊎ (times_in 40 p ≡ room - 1))
        → (Is (fits p (lv + 1) room) → fits (p ++ 40 ∷ []) (lv + 1) room ≡ false → (times_in 40 p ≡ lv + 1 + times_in 41 p) ⊎ (times_in 40 p ≡ room))
        → (Is (fits p lv room) → fits (p ++ 40 ∷ []) lv room ≡ false → (times_in 40 p ≡ lv + times_in 41 p) ⊎ (times_in 40 p ≡ room))
        → Is (pick a (ltb 0 lv & ltb 0 room & fits p (lv - 1) (room - 1)) (pick b (fits p (lv + 1) room) (fits p lv room)))
        → pick a (ltb 0 lv & ltb 0 room & fits (p ++ 40 ∷ []) (lv - 1) (room - 1)) (pick b (fits (p ++ 40 ∷ []) (lv + 1) room) (fits (p ++ 40 ∷ []) lv room)) ≡ false
        → (pick a (suc (times_in 40 p)) (times_in 40 p) ≡ lv + pick b (suc (times_in 41 p)) (times_in 41 p)) ⊎ (pick a (suc (times_in 40 p)) (times_in 40 p) ≡ room)
    go true true n i j l h k = absurd (false≢true (sym (n refl)))
    go true false n i j l h k =
        let a : ltb 0 lv ≡ true = and_l _ _ h in
        let b : ltb 0 room ≡ true = and_l _ _ (and_r (ltb 0 lv) _ h) in
        or_less (ltb-true 0 lv a) (ltb-true 0 room b) (i (and_r (ltb 0 room) _ (and_r (ltb 0 lv) _ h)) (sym (opened a b) ∙ k))
      where
        opened : ltb 0 lv ≡ true → ltb 0 room ≡ true → (ltb 0 lv & ltb 0 room & fits (p ++ 40 ∷ []) (lv - 1) (room - 1)) ≡ fits (p ++ 40 ∷ []) (lv - 1) (room - 1)
        opened a b = rw (a, b)
    go false true n i j l h k = or_more (j h k)
    go false false n i j l h k = l h k

-- 64 trees are open there, or 1,024 rows have been opened
pub at_a_limit : (s : List ℕ) (p : ℕ) → Is12 s p → (times_in 40 (take p s) ≡ 64 + pair s + times_in 41 (take p s)) ⊎ (times_in 40 (take p s) ≡ 1024 + pair s)
unfolding Promised IsReading
at_a_limit s p I = used_up (take p s) (64 + pair s) (1024 + pair s) (before (fits (take p s) (64 + pair s) (1024 + pair s)) refl) (ap (λ (y : List ℕ). fits y (64 + pair s) (1024 + pair s)) (sym next) ∙ broken.1)
  where
    broken : Promised s (large_at p)
    broken = subst (Promised s) (reading_is s (large_at p) I) (reading_promised s)

    before : (b : Bool) → fits (take p s) (64 + pair s) (1024 + pair s) ≡ b → b ≡ true
    before true e = refl
    before false e = absurd (no-fit s (take p s) (drop p s) (take-drop s p) (pair s) refl e I.before)

    next : take (suc p) s ≡ take p s ++ 40 ∷ []
    next = take_snoc s p (inside-at s p 39 I.opens) ∙ ap (λ (x : ℕ). take p s ++ x ∷ []) I.opens
