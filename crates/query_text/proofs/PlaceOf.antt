-- The place of a word among others, which are told apart byte by byte. Assumes nothing.
use Rattle.std.proofs.Common.{◌≡◌, ℕ, suc, ◌+◌, ◌<◌, Bool, true, false, List, [], ◌∷◌, length, map, Bor, Option, Some, None, MatchOption, cond, refl, ◌∙◌, arith}
use Rattle.std.specs.List.{position_or_len}
use Rattle.std.proofs.lemmas.List.{length-map}
use Rattle.std.proofs.lemmas.List.Recursion.{is_position_or_len}
use Rattle.std.proofs.Math.Dec.{eqb, ltb}
use lib.Pointwise.{pointwise}
use borrow.Author.Tests.{ltb-true}
use Rattle.meaning.specs.Axes.{axes}
use Rattle.meaning.specs.Texts.{pick}
use Rattle.meaning.specs.QueryTexts.{same, place_in, has, axis-names}
use Rattle.query_text.proofs.ByteLaws.{both_is}

-- words are compared as slices are
same_is : (u v : List ℕ) → same u v ≡ pointwise eqb u v
unfolding same
same_is [] [] = refl
same_is [] (c ∷ v) = refl
same_is (b ∷ u) [] = refl
same_is (b ∷ u) (c ∷ v) = both_is (eqb b c) (same u v) ∙ simp (same_is u v)

abbrev pub words_of : List (Bor (List ℕ)) → List (List ℕ)
words_of xs = map (λ x. x.now) xs

place_first : (w : List ℕ) (xs : List (Bor (List ℕ))) → place_in (words_of xs) w ≡ position_or_len (λ x. pointwise eqb x.now w) xs
unfolding place_in pick
place_first w xs = is_position_or_len (λ ys. place_in (words_of ys) w) (λ x. pointwise eqb x.now w) refl (λ x ys. on (pointwise eqb x.now w) (same_is x.now w) (place_in (words_of ys) w)) xs
  where
    on : {b : Bool} (z : Bool) → b ≡ z → (n : ℕ) → pick b 0 (suc n) ≡ cond z 0 (1 + n)
    on true e n = rw e
    on false e n = rw e (omega arith)

-- the place of a word, as `position` finds it
pub place_found : (w : List ℕ) (xs : List (Bor (List ℕ))) (r : Option ℕ) → (let p = position_or_len (λ x. pointwise eqb x.now w) xs in r ≡ cond (ltb p (length xs)) (Some p) None)
    → MatchOption r (has (words_of xs) w ≡ false) (λ k. (has (words_of xs) w ≡ true) × (k ≡ place_in (words_of xs) w) × (k < length xs))
unfolding has
place_found w xs r e = rw (e, place_first w xs, length-map xs (λ (x : Bor (List ℕ)). x.now)) (go (position_or_len (λ x. pointwise eqb x.now w) xs) _ refl)
  where
    go : (p : ℕ) (z : Bool) → ltb p (length xs) ≡ z → MatchOption (cond z (Some p) None) (z ≡ false) (λ k. (z ≡ true) × (k ≡ p) × (k < length xs))
    go p true d = (refl, refl, ltb-true p (length xs) d)
    go p false d = refl

pub axis_below : (w : List ℕ) → has axis-names w ≡ true → place_in axis-names w < 7
unfolding has axis-names axes
axis_below w e = ltb-true (place_in axis-names w) 7 e
