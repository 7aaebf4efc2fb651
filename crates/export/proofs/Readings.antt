-- The counts of a query that was read from a text are within its arrays, and its variables are small. Assumes nothing.
use mathlib.Core.Path.{◌≡◌, refl, sym, ap, ◌∙◌}
use mathlib.Core.Bool.{Bool, true, false, false≢true}
use mathlib.Core.List.{List, [], ◌∷◌, ◌++◌}
use Prim.Native.Nat.{ℕ, zero, suc, ◌≤◌}
use native.Mathlib.Omega.{arith}
use lib.ListN.{length}
use borrow.Author.Tests.{ltb-false}
use Rattle.meaning.specs.Tests.{◌or◌}
use Rattle.meaning.specs.Texts.{pick, Place, legal, bad}
use Rattle.meaning.specs.Places.{place}
use Rattle.meaning.specs.Query.{label_at, no_label}
use Rattle.meaning.specs.QueryTexts.{query, said, Said, Phrase, variables, names, same, has, place_in, axis-names, label_of, labels_in, pad, heads, labels, axis_conditions, made, query_of, blank_query, outside, answer_of, answer_at, answer, query_for, reading_of, reading}
use Rattle.meaning.specs.declared.LabelCondition.{LabelCondition}
use Rattle.meaning.specs.declared.Query.{Query}
use Rattle.std.specs.Prelude.{Result, Ok, Err}
use Rattle.meaning.specs.declared.QueryReading.{QueryReading}
use Rattle.meaning.specs.declared.Refusal.{Refusal}
use Rattle.meaning.specs.declared.Refusal.TheVariants.{Counts}

pub record Few (q : Query) : Type 0 where
  pub head_few : q.head_count ≤ 8
  pub labels-few : q.label_count ≤ 32
  pub axes-few : q.axis_count ≤ 32
  pub small : (i : ℕ) → (label_at q.labels i).variable ≤ 255

-- label conditions whose variables are at most n, also behind them in an array
unfoldable Small : ℕ → List LabelCondition → Type 0
Small n [] = Unit {0}
Small n (c ∷ cs) = (c.variable ≤ n) × Small n cs

small_both : (n : ℕ) (a b : List LabelCondition) → Small n a → Small n b → Small n (a ++ b)
unfolding Small
small_both n [] b g h = h
small_both n (c ∷ a) b g h = (g.0, small_both n a b g.1 h)

small_pad : (n k : ℕ) (cs : List LabelCondition) → Small n cs → (i : ℕ) → (label_at (pad k no_label cs) i).variable ≤ n
unfolding Small pad
small_pad n zero cs h i = omega arith
small_pad n (suc k) [] h zero = omega arith
small_pad n (suc k) [] h (suc i) = small_pad n k [] tt i
small_pad n (suc k) (c ∷ cs) h zero = h.0
small_pad n (suc k) (c ∷ cs) h (suc i) = small_pad n k cs h.1 i

-- a word's place is at most the number of words
place_most : (vs : List (List ℕ)) (w : List ℕ) → place_in vs w ≤ length vs
unfolding place_in pick
place_most [] w = omega arith
place_most (v ∷ vs) w = go (same v w) (place_most vs w)
  where
    go : (b : Bool) → place_in vs w ≤ length vs → pick b 0 (suc (place_in vs w)) ≤ suc (length vs)
    go true h = omega arith
    go false h = omega (arith, h)

small_label : (vs : List (List ℕ)) (n : ℕ) (xs : List (List ℕ)) → Small (length vs) (label_of vs n xs)
unfolding Small label_of
small_label vs n [] = tt
small_label vs n (x ∷ xs) = (place_most vs x, tt)

small_labels : (vs ns : List (List ℕ)) (ps : List Phrase) → Small (length vs) (labels_in vs ns ps)
unfolding Small labels_in pick
small_labels vs ns [] = tt
small_labels vs ns (p ∷ ps) =
    small_both (length vs) (pick (has axis-names p.name) [] (label_of vs (place_in ns p.name) p.variables)) (labels_in vs ns ps)
    (go (has axis-names p.name)) (small_labels vs ns ps)
  where
    go : (b : Bool) → Small (length vs) (pick b [] (label_of vs (place_in ns p.name) p.variables))
    go true = tt
    go false = small_label vs (place_in ns p.name) p.variables

blank-few : Few blank_query
unfolding blank_query made Small
blank-few = record { head_few = omega arith; labels-few = omega arith; axes-few = omega arith; small = small_pad 255 32 [] tt }

or_l : (a b : Bool) → (a or b) ≡ false → a ≡ false
unfolding ◌or◌
or_l true b e = e
or_l false b e = refl

or_r : (a b : Bool) → (a or b) ≡ false → b ≡ false
unfolding ◌or◌
or_r true b e = absurd (false≢true (sym e))
or_r false b e = e

inside-few : (q : Said) → outside q ≡ false → Few (query_of q)
unfolding outside query_of made labels
inside-few q e =
    let v = ltb-false 16 (length (variables q)) (or_l _ _ e) in
    let a = or_r _ _ (or_r _ _ e) in
    let b = or_r _ _ a in
    record {
      head_few = ltb-false 8 (length (heads q)) (or_l _ _ a);
      labels-few = ltb-false 32 (length (labels q)) (or_l _ _ b);
      axes-few = ltb-false 32 (length (axis_conditions q)) (or_r _ _ b);
      small = λ i. let m = small_pad (length (variables q)) 32 _ (small_labels (variables q) (names q) q.conditions) i in omega (arith, v, m);
    }

over : (q : Said) (m : ℕ) → outside q ≡ true → answer_of q m ≡ Err Counts
unfolding answer_of pick
over q m d = rw d

-- a text that is read has its counts inside; one that is refused has the blank query
few_for : (q : Said) (m : ℕ) (a : Result ℕ Refusal) → a ≡ answer_of q m → Few (query_for (reading_of a q))
unfolding query_for reading_of
few_for q m (Err r) e = blank-few
few_for q m (Ok n) e = go (outside q) refl
  where
    is_read : Result ℕ Refusal → Bool
    is_read (Ok n) = true
    is_read (Err r) = false

    go : (b : Bool) → outside q ≡ b → Few (query_of q)
    go false d = inside-few q d
    go true d = absurd (false≢true (sym (ap is_read e ∙ ap is_read (over q m d))))

few-at : (p : Place) (q : Said) (m : ℕ) → Few (query_for (reading_of (answer_at p q m) q))
unfolding answer_at query_for reading_of
few-at legal q m = few_for q m (answer_of q m) refl
few-at (bad p) q m = blank-few

pub few-read : (s : List ℕ) (m : ℕ) → Few (query_for (reading s m))
unfolding reading answer
few-read s m = few-at (place query s) (said s) m
