-- Tables of words: a word that is there already, and a new one. Assumes nothing.
use Rattle.std.proofs.Common.{◌≡◌, ℕ, suc, ◌+◌, ◌≤◌, Bool, true, false, List, [], ◌∷◌, ◌++◌, length, Bor, refl, sym, ap, ◌∙◌, arith, length-append}
use Rattle.std.proofs.lemmas.List.{length-map, map-append}
use Rattle.arrayvec.specs.ArrayVec.{ArrayVec}
use Rattle.meaning.specs.Tests.{◌&◌}
use borrow.Author.Tests.{eq-eqb, ltb-false}
use Rattle.meaning.specs.Texts.{pick}
use Rattle.meaning.specs.QueryTexts.{same, place_in, has}
use Rattle.query_text.specs.Tables.{texts, noted}
use Rattle.query_text.proofs.PlaceOf.{words_of}

pub noted_old : (l : List (List ℕ)) (w : List ℕ) → has l w ≡ true → noted l w ≡ l
unfolding noted pick
noted_old l w e = rw e

pub noted_new : (l : List (List ℕ)) (w : List ℕ) → has l w ≡ false → noted l w ≡ l ++ (w ∷ [])
unfolding noted pick
noted_new l w e = rw e

same_self : (w : List ℕ) → same w w ≡ true
unfolding same ◌&◌
same_self [] = refl
same_self (b ∷ w) = rw (eq-eqb b b refl) (same_self w)

-- the place of a new word is the length of the list that it is put behind
pub place_at_end : (l : List (List ℕ)) (w : List ℕ) → has l w ≡ false → length l ≡ place_in (l ++ (w ∷ [])) w
unfolding has place_in pick
place_at_end l w e = go l (ltb-false (place_in l w) (length l) e)
  where
    go : (l : List (List ℕ)) → length l ≤ place_in l w → length l ≡ place_in (l ++ (w ∷ [])) w
    go [] h = rw (same_self w)
    go (v ∷ l) h = on (same v w) refl h (go l)
      where
        on : (z : Bool) → same v w ≡ z → suc (length l) ≤ pick z 0 (suc (place_in l w)) → (length l ≤ place_in l w → length l ≡ place_in (l ++ (w ∷ [])) w) → suc (length l) ≡ pick (same v w) 0 (suc (place_in (l ++ (w ∷ [])) w))
        on true d h r = absurd (omega arith)
        on false d h r = rw d (ap suc (r (omega arith)))

pub texts_length : (v : ArrayVec (Bor (List ℕ))) → length (texts v) ≡ length v.items
unfolding texts
texts_length v = length-map v.items (λ (x : Bor (List ℕ)). x.now)

module _ (v : ArrayVec (Bor (List ℕ))) (w : Bor (List ℕ)) (new : has (texts v) w.now ≡ false) where
  pub number_full : length (noted (texts v) w.now) ≡ length v.items + 1
  number_full = ap length (noted_new (texts v) w.now new) ∙ length-append (texts v) (w.now ∷ []) ∙ ap (λ (k : ℕ). k + 1) (texts_length v)

  pub number_new : (u : ArrayVec (Bor (List ℕ))) → u.items ≡ v.items ++ (w ∷ []) → (texts u ≡ noted (texts v) w.now) × (length v.items ≡ place_in (texts u) w.now)
  unfolding texts
  number_new u e =
      let t : texts u ≡ texts v ++ (w.now ∷ []) = ap words_of e ∙ map-append (λ (x : Bor (List ℕ)). x.now) v.items (w ∷ []) in (
        t ∙ sym (noted_new (texts v) w.now new),
        sym (texts_length v) ∙ place_at_end (texts v) w.now new ∙ ap (λ (l : List (List ℕ)). place_in l w.now) (sym t),
      )
