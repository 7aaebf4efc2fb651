-- What the query check rests on: the tests over a query's arrays are the tests of the query as asked. What is known of an accepted query stands in theory/specs/Whole.antt. Assumes nothing.
use Rattle.std.proofs.Common.{◌≡◌, refl, sym, ap, ◌∙◌, Bool, true, false, List, [], ◌∷◌, ℕ, zero, suc, ◌+◌, ◌≤◌, ◌<◌, ltb, leb, length, get_or, take, Err, ◌&&◌, ◌||◌, not, ◌==◌, zero-add, arith, leb-true, get_or-take, length-take, length-take-le, ext_get_or}
use Rattle.std.specs.Option.{ok_or}
use Rattle.std.specs.List.{list_all, list_any, enumerate_from}
use Rattle.std.proofs.lemmas.List.FromFn.{length-enumerate_from, get_or-enumerate_from}
use Rattle.meaning.specs.Tests.{Is, ◌&◌, ◌or◌, non, every}
use Rattle.meaning.specs.Axes.{axes, axis_of, set_of}
use Rattle.meaning.specs.Query.{Question, label_at, axis_at, no-condition, no_label, firsts, asked, is_counted, is_axis_named, is_head_named, is_named, fits, is_of_one_set, takes}
use Rattle.meaning.specs.Entries.{lowest, query_grounds, query_says, query_answer}
use Rattle.meaning.specs.declared.LabelCondition.{LabelCondition}
use Rattle.meaning.specs.declared.Query.{Query}
use Rattle.meaning.specs.declared.Refusal.TheVariants.{Counts, Variables, Axes}
use Rattle.theory.specs.Tests.{and_l, and_r, every-same, tab-at, tab-length}
use Rattle.query.specs.Check.{are_axes_of, one_set_of}

-- ---- the first places of an array

pub firsts-length : {A : Type 0} (d : A) (xs : List A) (n : ℕ) → length (firsts d xs n) ≡ n
unfolding firsts
firsts-length d xs n = tab-length _ 0 n

pub firsts_at : {A : Type 0} (d : A) (xs : List A) (n i : ℕ) → i < n → get_or (firsts d xs n) i d ≡ get_or xs i d
unfolding firsts
firsts_at d xs n i h = tab-at (λ i. get_or xs i d) 0 n i d h ∙ ap (λ (k : ℕ). get_or xs k d) (let e : 0 + i ≡ i = omega arith in e)

module _ (q : Query) where
  pub asked-variables : (asked q).variables ≡ q.variables
  unfolding asked
  asked-variables = refl

  pub axes-length : length (asked q).axes ≡ q.axis_count
  unfolding asked
  axes-length = firsts-length no-condition q.axes q.axis_count

  pub labels_length : length (asked q).labels ≡ q.label_count
  unfolding asked
  labels_length = firsts-length no_label q.labels q.label_count

  pub labels_at : (i : ℕ) → i < q.label_count → label_at (asked q).labels i ≡ label_at q.labels i
  unfolding asked
  labels_at i h = firsts_at no_label q.labels q.label_count i h

  pub head-length : length (asked q).head ≡ q.head_count
  unfolding asked
  head-length = firsts-length 0 q.head q.head_count

  -- ---- the tests over the arrays are those of the query as asked

  pub counted : is_counted (asked q) ≡ (leb 1 q.variables & leb q.variables 16 & leb q.head_count 8 & leb q.label_count 32 & leb q.axis_count 32)
  unfolding is_counted
  counted = rw (asked-variables, axes-length, labels_length, head-length)

-- an array with room for what counts of it: those are its first places
firsts_take : {A : Type 0} (d : A) (xs : List A) (n : ℕ) → n ≤ length xs → firsts d xs n ≡ take n xs
firsts_take d xs n h =
    let l = firsts-length d xs n in
    ext_get_or d (firsts d xs n) (take n xs) (l ∙ sym (length-take-le n xs h))
    (λ i m. let k : i < n = omega arith in firsts_at d xs n i k ∙ sym (get_or-take n xs i d k))

-- a test of every element, and of every place
and_same : (a b : Bool) → (a && b) ≡ (a & b)
unfolding ◌&◌
and_same true b = refl
and_same false b = refl

every-first : (n : ℕ) (p : ℕ → Bool) → every (suc n) p ≡ (p 0 & every n (λ i. p (suc i)))
unfolding every ◌&◌
every-first zero p = refl
every-first (suc n) p = rw (every-first n p) (swapped (p (suc n)) (p 0) _)
  where
    swapped : (a b c : Bool) → (a & b & c) ≡ (b & a & c)
    swapped true b c = refl
    swapped false true c = refl
    swapped false false c = refl

pub all-every : {A : Type 0} (p : A → Bool) (d : A) (xs : List A) → list_all p xs ≡ every (length xs) (λ i. p (get_or xs i d))
unfolding every
all-every p d [] = refl
all-every p d (x ∷ xs) = and_same _ _ ∙ (ap (λ b. p x & b) (all-every p d xs) ∙ sym (every-first (length xs) (λ i. p (get_or (x ∷ xs) i d))))

-- the places of the head, each with the variable there, as the code looks at them
abbrev pub is_place_named : List ℕ → ℕ → ℕ × ℕ → Bool
is_place_named h v (i, x) = ltb x v && not (list_any (λ y. y == x) (take i h))

not-any : {A : Type 0} (p : A → Bool) (xs : List A) → not (list_any p xs) ≡ list_all (λ x. non (p x)) xs
unfolding non
not-any p [] = refl
not-any p (x ∷ xs) = rw (← not-any p xs) (both (p x) _)
  where
    both : (a b : Bool) → not (a || b) ≡ (non a && not b)
    both true b = refl
    both false b = refl

place-named : (h : List ℕ) (v i : ℕ) → i < length h → is_place_named h v (i, get_or h i 0) ≡ is_head_named v h i
unfolding is_head_named
place-named h v i l =
    and_same _ _
    ∙ ap (λ b. ltb (get_or h i 0) v & b) (not-any (λ y. y == get_or h i 0) (take i h)
    ∙ (all-every (λ y. non (y == get_or h i 0)) 0 (take i h)
    ∙ (ap (λ n. every n (λ j. non (get_or (take i h) j 0 == get_or h i 0))) (length-take-le i h (omega arith))
    ∙ every-same i _ _ (λ j m. ap (λ y. non (y == get_or h i 0)) (get_or-take i h j 0 m)))))

pub places-named : (h : List ℕ) (v : ℕ) → list_all (is_place_named h v) (enumerate_from 0 h) ≡ every (length h) (λ i. is_head_named v h i)
places-named h v =
    all-every (is_place_named h v) (0, 0) (enumerate_from 0 h)
    ∙ (ap (λ n. every n (λ i. is_place_named h v (get_or (enumerate_from 0 h) i (0, 0)))) (length-enumerate_from 0 h)
    ∙ every-same (length h) _ _ (λ i l. ap (is_place_named h v) (get_or-enumerate_from 0 h i (0, 0) l ∙ ap (λ k. (k, get_or h i 0)) (zero-add i)) ∙ place-named h v i l))

-- the conditions and the head that count of a query by value, as the code looks at them
module _ (q : Query) where
  pub asked_axes : q.axis_count ≤ length q.axes → (asked q).axes ≡ take q.axis_count q.axes
  unfolding asked
  asked_axes h = firsts_take no-condition q.axes q.axis_count h

  pub axes-named : length (take q.axis_count q.axes) ≡ q.axis_count → list_all (is_axis_named q.variables) (take q.axis_count q.axes) ≡ every (length (asked q).axes) (λ i. is_axis_named (asked q).variables (axis_at (asked q).axes i))
  unfolding asked
  axes-named h = all-every (is_axis_named q.variables) no-condition _ ∙ rw (firsts_take no-condition q.axes q.axis_count (omega (arith, length-take q.axis_count q.axes)))

  pub labels-named : length (take q.label_count q.labels) ≡ q.label_count → list_all (λ c. ltb c.variable q.variables) (take q.label_count q.labels) ≡ every (length (asked q).labels) (λ i. ltb (label_at (asked q).labels i).variable (asked q).variables)
  unfolding asked
  labels-named h = all-every (λ (c : LabelCondition). ltb c.variable q.variables) no_label _ ∙ rw (firsts_take no_label q.labels q.label_count (omega (arith, length-take q.label_count q.labels)))

  pub head-named : length (take q.head_count q.head) ≡ q.head_count → every (length (take q.head_count q.head)) (λ i. is_head_named q.variables (take q.head_count q.head) i) ≡ every (length (asked q).head) (λ i. is_head_named (asked q).variables (asked q).head i)
  unfolding asked
  head-named h = rw (firsts_take 0 q.head q.head_count (omega (arith, length-take q.head_count q.head)))

-- ---- the answer on each way

pub says_counts : (Q : Question) → is_counted Q ≡ false → Err Counts ≡ query_answer Q
unfolding query_answer query_says lowest query_grounds non
says_counts Q e = rw e

pub says_names : (Q : Question) → is_counted Q ≡ true → is_named Q ≡ false → Err Variables ≡ query_answer Q
unfolding query_answer query_says lowest query_grounds non
says_names Q e d = rw (e, d)

-- and at last the set that holds all axes, where one does
pub says_one_set : (Q : Question) → is_counted Q ≡ true → is_named Q ≡ true → ok_or (one_set_of Q.axes) Axes ≡ query_answer Q
unfolding one_set_of is_of_one_set takes ◌or◌ fits are_axes_of query_answer query_says lowest query_grounds non
says_one_set Q e d = go (fits Q 1) (fits Q 2) (fits Q 3) refl refl refl
  where
    go : (a b c : Bool) → fits Q 1 ≡ a → fits Q 2 ≡ b → fits Q 3 ≡ c → ok_or (one_set_of Q.axes) Axes ≡ query_answer Q
    go true b c x y z = rw (e, d, x)
    go false true c x y z = rw (e, d, x, y)
    go false false true x y z = rw (e, d, x, y, z)
    go false false false x y z = rw (e, d, x, y, z)

-- ---- the set of an axis

pub set_none : (c : ℕ) → 6 < c → 0 ≡ set_of c
unfolding set_of axis_of axes
set_none zero h = absurd (omega arith)
set_none (suc zero) h = absurd (omega arith)
set_none (suc (suc zero)) h = absurd (omega arith)
set_none (suc (suc (suc zero))) h = absurd (omega arith)
set_none (suc (suc (suc (suc zero)))) h = absurd (omega arith)
set_none (suc (suc (suc (suc (suc zero))))) h = absurd (omega arith)
set_none (suc (suc (suc (suc (suc (suc zero)))))) h = absurd (omega arith)
set_none (suc (suc (suc (suc (suc (suc (suc c))))))) h = refl

pub set-one : (c : ℕ) → 0 < c → c < 3 → 1 ≡ set_of c
unfolding set_of axis_of axes
set-one zero h l = absurd (omega arith)
set-one (suc zero) h l = refl
set-one (suc (suc zero)) h l = refl
set-one (suc (suc (suc c))) h l = absurd (omega arith)

pub set_three : (c : ℕ) → 2 < c → c < 6 → 3 ≡ set_of c
unfolding set_of axis_of axes
set_three zero h l = absurd (omega arith)
set_three (suc zero) h l = absurd (omega arith)
set_three (suc (suc zero)) h l = absurd (omega arith)
set_three (suc (suc (suc zero))) h l = refl
set_three (suc (suc (suc (suc zero)))) h l = refl
set_three (suc (suc (suc (suc (suc zero))))) h l = refl
set_three (suc (suc (suc (suc (suc (suc c)))))) h l = absurd (omega arith)

-- ---- the counts are within their limits, and so within their arrays
pub record Few (q : Query) : Type 0 where
  pub some-variables : 1 ≤ q.variables
  pub few-variables : q.variables ≤ 16
  pub few_head : q.head_count ≤ 8
  pub few-labels : q.label_count ≤ 32
  pub few-axes : q.axis_count ≤ 32

pub few : (q : Query) → Is (is_counted (asked q)) → Few q
few q h =
    let a = sym (counted q) ∙ h in
    let b = and_r _ _ a in
    let c = and_r _ _ b in
    let d = and_r _ _ c in
    record {
      some-variables = leb-true 1 q.variables (and_l _ _ a);
      few-variables = leb-true q.variables 16 (and_l _ _ b);
      few_head = leb-true q.head_count 8 (and_l _ _ c);
      few-labels = leb-true q.label_count 32 (and_l _ _ d);
      few-axes = leb-true q.axis_count 32 (and_r _ _ d);
    }
