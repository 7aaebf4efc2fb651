-- What the entries for other languages promise beside their contracts: lists that hold no query within the limits are refused
-- 4, what a reading leaves asks the same question when it is lent again, and a sentence's result is settled. Assumes nothing.
use mathlib.Core.Path.{◌≡◌, refl, sym, ap, ap₂, ◌∙◌}
use mathlib.Core.Bool.{Bool, true, false, cond}
use mathlib.Core.List.{List, [], ◌∷◌}
use Prim.Native.Nat.{ℕ, zero, suc, ◌+◌, ◌*◌, ◌/◌, ◌%◌, ◌≤◌, ◌<◌}
use native.Mathlib.Omega.{arith}
use native.Mathlib.Nat.{not-suc-le-zero, le_of_suc-le-suc}
use lib.Dec.{ltb}
use lib.ListN.{length, get_or}
use lib.Seq.{ext_get_or}
use borrow.Author.Tests.{ltb-true, le-ltb, le-leb, eq-eqb}
use Rattle.meaning.specs.Tests.{◌&◌, tab}
use Rattle.meaning.specs.Names.{pick}
use Rattle.meaning.specs.QueryTexts.{reading, query_for}
use Rattle.meaning.specs.Query.{asked, is_counted, no_label, no-condition, label_at, axis_at}
use Rattle.meaning.specs.Entries.{query_answer}
use Rattle.meaning.specs.Told.{told_sentence}
use Rattle.meaning.specs.declared.Condition.{Condition}
use Rattle.meaning.specs.declared.LabelCondition.{LabelCondition}
use Rattle.meaning.specs.declared.Query.{Query}
use Rattle.std.specs.Prelude.{Result, Err}
use Rattle.meaning.specs.declared.Refusal.{Refusal}
use Rattle.meaning.specs.declared.Refusal.TheVariants.{Counts}
use Rattle.meaning.specs.declared.SentenceReading.{SentenceReading}
use Rattle.theory.specs.Tests.{tab-at, tab-length}
use Rattle.query.proofs.Laws.{says_counts, head-length, labels_length as labels-length-asked, axes-length as axes-length-asked, labels_at}
use Rattle.brackets.specs.Unique.{one_answer, one_post, one_label}
use Rattle.export.specs.Lent.{narrowed, lent_label, lent_axis, is_whole, lent, label_numbers, axis_numbers}
use Rattle.export.specs.Words.{told_words, SentenceTold}
use Rattle.export.proofs.Lists.{labels_length, axes-length}
use Rattle.export.proofs.Readings.{Few, few-read}

-- ---- lists that hold no query within the limits

not_counted : (v : ℕ) (h ls cs : List ℕ) → is_whole (length h) (length ls) (length cs) ≡ false → is_counted (lent v h ls cs) ≡ false
unfolding lent pick is_counted ◌&◌
not_counted v h ls cs e = rw e

pub refused_4 : (v : ℕ) (h ls cs : List ℕ) → is_whole (length h) (length ls) (length cs) ≡ false → query_answer (lent v h ls cs) ≡ Err Counts
refused_4 v h ls cs e = sym (says_counts (lent v h ls cs) (not_counted v h ls cs e))

-- a variable that counts as 255 is too large for a query exactly if the one that was lent is
pub as_large : (v x : ℕ) → v ≤ 16 → ltb (narrowed x) v ≡ ltb x v
unfolding narrowed
as_large v x h = go (ltb 255 x) refl
  where
    go : (b : Bool) → ltb 255 x ≡ b → ltb (cond b 255 x) v ≡ ltb x v
    go true e = let m = ltb-true 255 x e in le-ltb 255 v (omega arith) ∙ sym (le-ltb x v (omega (arith, m)))
    go false e = refl

-- ---- what a reading leaves, lent again

narrowed-same : (x : ℕ) → x ≤ 255 → narrowed x ≡ x
unfolding narrowed
narrowed-same x h = rw (le-ltb 255 x h)

label_numbers_lem : (xs : List LabelCondition) (i : ℕ) → i < length xs →
    (get_or (label_numbers xs) (2 * i) 0 ≡ (label_at xs i).variable) × (get_or (label_numbers xs) (2 * i + 1) 0 ≡ (label_at xs i).label)
unfolding label_numbers
label_numbers_lem [] i l = absurd (not-suc-le-zero l)
label_numbers_lem (x ∷ xs) zero l = (refl, refl)
label_numbers_lem (x ∷ xs) (suc i) l =
    let h = label_numbers_lem xs i (le_of_suc-le-suc l) in
    let a : 2 * suc i ≡ suc (suc (2 * i)) = omega arith in
    let b : 2 * suc i + 1 ≡ suc (suc (2 * i + 1)) = omega arith in (
      ap (λ (k : ℕ). get_or (x.variable ∷ x.label ∷ label_numbers xs) k 0) a ∙ h.0,
      ap (λ (k : ℕ). get_or (x.variable ∷ x.label ∷ label_numbers xs) k 0) b ∙ h.1,
    )

axis_numbers_lem : (xs : List Condition) (i : ℕ) → i < length xs →
    (get_or (axis_numbers xs) (3 * i) 0 ≡ (axis_at xs i).code) × (get_or (axis_numbers xs) (3 * i + 1) 0 ≡ (axis_at xs i).first) × (get_or (axis_numbers xs) (3 * i + 2) 0 ≡ (axis_at xs i).second)
unfolding axis_numbers
axis_numbers_lem [] i l = absurd (not-suc-le-zero l)
axis_numbers_lem (x ∷ xs) zero l = (refl, refl, refl)
axis_numbers_lem (x ∷ xs) (suc i) l =
    let h = axis_numbers_lem xs i (le_of_suc-le-suc l) in
    let all = x.code ∷ x.first ∷ x.second ∷ axis_numbers xs in
    let a : 3 * suc i ≡ suc (suc (suc (3 * i))) = omega arith in
    let b : 3 * suc i + 1 ≡ suc (suc (suc (3 * i + 1))) = omega arith in
    let c : 3 * suc i + 2 ≡ suc (suc (suc (3 * i + 2))) = omega arith in
    (ap (λ (k : ℕ). get_or all k 0) a ∙ h.0, ap (λ (k : ℕ). get_or all k 0) b ∙ h.1, ap (λ (k : ℕ). get_or all k 0) c ∙ h.2)

abbrev labelled : ℕ → ℕ → LabelCondition
labelled v n = record { variable = v; label = n }

abbrev related : ℕ → ℕ → ℕ → Condition
related c x y = record { code = c; first = x; second = y }

labels_back : (xs : List LabelCondition) → ((i : ℕ) → i < length xs → (label_at xs i).variable ≤ 255) →
    tab (lent_label (label_numbers xs)) 0 (length (label_numbers xs) / 2) ≡ xs
unfolding lent_label
labels_back xs small =
    let m : length (label_numbers xs) / 2 ≡ length xs = let e = labels_length xs in omega (arith, e) in
    ap (tab (lent_label (label_numbers xs)) 0) m
    ∙ ext_get_or no_label (tab (lent_label (label_numbers xs)) 0 (length xs)) xs (tab-length (lent_label (label_numbers xs)) 0 (length xs))
    (λ i l. let k : i < length xs = omega (arith, l, tab-length (lent_label (label_numbers xs)) 0 (length xs)) in
    let h = label_numbers_lem xs i k in
    tab-at (lent_label (label_numbers xs)) 0 (length xs) i no_label k
    ∙ (ap (lent_label (label_numbers xs)) (let z : 0 + i ≡ i = omega arith in z)
    ∙ ap₂ labelled (ap narrowed h.0 ∙ narrowed-same _ (small i k)) h.1))

axes_back : (xs : List Condition) → tab (lent_axis (axis_numbers xs)) 0 (length (axis_numbers xs) / 3) ≡ xs
unfolding lent_axis
axes_back xs =
    let m : length (axis_numbers xs) / 3 ≡ length xs = let e = axes-length xs in omega (arith, e) in
    ap (tab (lent_axis (axis_numbers xs)) 0) m
    ∙ ext_get_or no-condition (tab (lent_axis (axis_numbers xs)) 0 (length xs)) xs (tab-length (lent_axis (axis_numbers xs)) 0 (length xs))
    (λ i l. let k : i < length xs = omega (arith, l, tab-length (lent_axis (axis_numbers xs)) 0 (length xs)) in
    let h = axis_numbers_lem xs i k in
    tab-at (lent_axis (axis_numbers xs)) 0 (length xs) i no-condition k
    ∙ (ap (lent_axis (axis_numbers xs)) (let z : 0 + i ≡ i = omega arith in z)
    ∙ (ap₂ (λ (x y : ℕ). related x y (get_or (axis_numbers xs) (3 * i + 2) 0)) h.0 h.1 ∙ ap (related (axis_at xs i).code (axis_at xs i).first) h.2)))

whole_back : (h : List ℕ) (xs : List LabelCondition) (ys : List Condition) → length h ≤ 8 → length xs ≤ 32 → length ys ≤ 32 →
    is_whole (length h) (length (label_numbers xs)) (length (axis_numbers ys)) ≡ true
unfolding is_whole ◌&◌
whole_back h xs ys a b c =
    let e = labels_length xs in
    let f = axes-length ys in
    rw (
      le-leb (length h) 8 a,
      le-leb (length (label_numbers xs)) 64 (omega (arith, e)),
      eq-eqb (length (label_numbers xs) % 2) 0 (omega (arith, e)),
      le-leb (length (axis_numbers ys)) 96 (omega (arith, f)),
      eq-eqb (length (axis_numbers ys) % 3) 0 (omega (arith, f)),
    )

-- the numbers of a head and of conditions within the limits, lent to an entry, ask for just these
pub lent_again : (v : ℕ) (h : List ℕ) (xs : List LabelCondition) (ys : List Condition) → length h ≤ 8 → length xs ≤ 32 → length ys ≤ 32 →
    ((i : ℕ) → i < length xs → (label_at xs i).variable ≤ 255) →
    lent v h (label_numbers xs) (axis_numbers ys) ≡ record { variables = v; head = h; labels = xs; axes = ys }
unfolding lent pick
lent_again v h xs ys a b c small = rw (whole_back h xs ys a b c, labels_back xs small, axes_back ys)

-- a query within its arrays
asked-again : (q : Query) → Few q → lent q.variables (asked q).head (label_numbers (asked q).labels) (axis_numbers (asked q).axes) ≡ asked q
unfolding asked
asked-again q f =
    let h = head-length q in
    let l = labels-length-asked q in
    let x = axes-length-asked q in
    lent_again q.variables (asked q).head (asked q).labels (asked q).axes (omega (arith, h, f.head_few)) (omega (arith, l, f.labels-few)) (omega (arith, x, f.axes-few))
    (λ i k. let m = labels_at q i (omega (arith, k, l)) in let s = f.small i in rw m s)

-- what a query text leaves, lent to an entry, asks what the text asks
pub read_again : (s : List ℕ) (m : ℕ) → (let q = query_for (reading s m) in lent q.variables (asked q).head (label_numbers (asked q).labels) (axis_numbers (asked q).axes) ≡ asked q)
read_again s m = asked-again (query_for (reading s m)) (few-read s m)

-- ---- any two results that the contract for sentences allows are equal

pub one_told : (text list post label : List ℕ) (w w' p p' l l' : List ℕ) → SentenceTold text list post label w p l → SentenceTold text list post label w' p' l' →
    (w ≡ w') × (p ≡ p') × (l ≡ l')
one_told text list post label w w' p p' l l' R S =
    let a = one_answer text list post label R.answer S.answer p p' l l' R.read S.read in (
      R.words ∙ (ap (λ (x : Result SentenceReading Refusal). told_words (told_sentence x)) a ∙ sym S.words),
      one_post text list post label R.answer S.answer p p' l l' R.read S.read,
      one_label text list post label R.answer S.answer p p' l l' R.read S.read,
    )
