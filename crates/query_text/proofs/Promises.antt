-- What the contract of the reader says, told without computing: which texts it refuses by 10 and at which place, that there
-- is but one, and that the query and the names are those of the head and the conditions that the text is written from.
-- Assumes nothing.
use mathlib.Core.Path.{◌≡◌, ap, ◌∙◌, subst}
use mathlib.Core.Bool.{Bool, true, false}
use mathlib.Core.List.{List, ◌∷◌}
use Prim.Native.Nat.{ℕ}
use native.Mathlib.Omega.{arith}
use lib.Dec.{ltb}
use lib.ListN.{length}
use Rattle.meaning.specs.Texts.{pick, Has, Place, legal, bad, IsPlace}
use Rattle.meaning.specs.Places.{place}
use Rattle.meaning.specs.QueryTexts.{query, Phrase, Said, IsSaid, written, said, outside, twice, unused, query_of, names, closed, answer_of, answer_at, answer, reading_of, reading, buffer_for, buffer}
use Rattle.std.specs.Prelude.{Result, Ok, Err}
use Rattle.meaning.specs.declared.Refusal.{Refusal}
use Rattle.meaning.specs.declared.Refusal.TheVariants.{Counts, Variables, ShortBuffer, QueryText, HeadVariable}
use Rattle.query_text.proofs.PlaceLaws.{place_is, place-one}
use Rattle.query_text.proofs.SoFar.{query-alive}
use Rattle.query_text.proofs.LegalLaws.{written-legal}

place_of : (s : List ℕ) (v : Place) → IsPlace query s v → place query s ≡ v
place_of s v h = place-one query s (place query s) v (place_is query s query-alive) h

-- 10, with its place, exactly where the document has it
pub refused-at : (s : List ℕ) (m p : ℕ) → IsPlace query s (bad p) → answer s m ≡ Err (QueryText p)
unfolding answer answer_at
refused-at s m p h = ap (λ (v : Place). answer_at v (said s) m) (place_of s (bad p) h)

pub legal-answer : (s : List ℕ) (m : ℕ) → Has query s → answer s m ≡ answer_of (said s) m
unfolding answer answer_at IsPlace
legal-answer s m h = ap (λ (v : Place). answer_at v (said s) m) (place_of s legal h)

-- of each way to write a head and one or more conditions, the answer is that of this head and these conditions
pub written-answer : (xs : List (List ℕ)) (p : Phrase) (ps : List Phrase) (s : List ℕ) (m : ℕ) → IsSaid (record { «head» = xs; conditions = p ∷ ps }) → Has (written (record { «head» = xs; conditions = p ∷ ps })) s
    → answer s m ≡ answer_of (record { «head» = xs; conditions = p ∷ ps }) m
written-answer xs p ps s m g h =
    let w = written-legal xs p ps s g h in
    legal-answer s m w.0 ∙ ap (λ (q : Said). answer_of q m) w.1

not_ten : (q : Said) (m p : ℕ) → answer_of q m ≡ Err (QueryText p) → ⊥
unfolding answer_of pick
not_ten q m p = go (outside q) (twice (query_of q)) (unused (query_of q)) (ltb m (length (closed (names q))))
  where
    never : ◌≡◌ {A = ℕ} 0 1 → ⊥
    never e = omega arith

    go : (x y z w : Bool) → pick {A = Result ℕ Refusal} x (Err Counts) (pick y (Err Variables) (pick z (Err HeadVariable) (pick w (Err ShortBuffer) (Ok (length (closed (names q))))))) ≡ Err (QueryText p) → ⊥
    go true y z w e = let n : ◌≡◌ {A = ℕ} 0 1 = cc in never n
    go false true z w e = let n : ◌≡◌ {A = ℕ} 0 1 = cc in never n
    go false false true w e = let n : ◌≡◌ {A = ℕ} 0 1 = cc in never n
    go false false false true e = let n : ◌≡◌ {A = ℕ} 0 1 = cc in never n
    go false false false false e = let n : ◌≡◌ {A = ℕ} 0 1 = cc in never n

pub refused-place : (s : List ℕ) (m p : ℕ) → answer s m ≡ Err (QueryText p) → IsPlace query s (bad p)
unfolding answer answer_at
refused-place s m p h = go (place query s) (place_is query s query-alive) h
  where
    go : (v : Place) → IsPlace query s v → answer_at v (said s) m ≡ Err (QueryText p) → IsPlace query s (bad p)
    go legal i e = absurd (not_ten (said s) m p e)
    go (bad n) i e = let d : n ≡ p = cc in subst (λ (k : ℕ). IsPlace query s (bad k)) d i

-- and so are the query beside it and the buffer afterwards
pub written-reading : (xs : List (List ℕ)) (p : Phrase) (ps : List Phrase) (s b : List ℕ) → IsSaid (record { «head» = xs; conditions = p ∷ ps }) → Has (written (record { «head» = xs; conditions = p ∷ ps })) s
    → (let q : Said = record { «head» = xs; conditions = p ∷ ps } in (reading s (length b) ≡ reading_of (answer_of q (length b)) q) × (buffer s b ≡ buffer_for (answer_of q (length b)) q b))
unfolding reading buffer
written-reading xs p ps s b g h =
    let w = written-legal xs p ps s g h in
    let a = written-answer xs p ps s (length b) g h in
    let q : Said = record { «head» = xs; conditions = p ∷ ps } in (
      ap (λ (x : Result ℕ Refusal). reading_of x (said s)) a ∙ ap (reading_of (answer_of q (length b))) w.1,
      ap (λ (x : Result ℕ Refusal). buffer_for x (said s) b) a ∙ ap (λ (x : Said). buffer_for (answer_of q (length b)) x b) w.1,
    )
