-- Arrays filled place by place, and lists put to the front of a buffer place by place. Assumes nothing.
use mathlib.Core.Path.{◌≡◌, refl, sym, ap, ◌∙◌}
use mathlib.Core.Bool.{Bool, true, false}
use mathlib.Core.List.{List, [], ◌∷◌, ◌++◌, append_assoc}
use Prim.Native.Nat.{ℕ, zero, suc, ◌+◌, ◌*◌, ◌<◌}
use native.Mathlib.Omega.{arith}
use lib.Dec.{eqb}
use lib.ListN.{length, get_or, set, drop, length-append}
use lib.Seq.{ext_get_or, get_or-set_same, get_or-set_other, drop-cons, set-append_seam}
use borrow.Author.Tests.{eqb-true, eqb-false}
use Rattle.meaning.specs.Tests.{tab}
use Rattle.meaning.specs.Query.{firsts, no_label, no-condition}
use Rattle.meaning.specs.Entries.{at_front}
use Rattle.meaning.specs.declared.Condition.{Condition}
use Rattle.meaning.specs.declared.LabelCondition.{LabelCondition}
use Rattle.theory.specs.Tests.{tab-at, tab-length}
use Rattle.query.proofs.Laws.{firsts-length, firsts_at}
use Rattle.export.specs.Lent.{label_numbers, axis_numbers}

-- one more place of an array
pub stored : {A : Type 0} (d : A) (xs : List A) (f : ℕ → A) (i : ℕ) (x : A) → i < length xs → x ≡ f i → ((k : ℕ) → k < i → get_or xs k d ≡ f k) →
    (k : ℕ) → k < i + 1 → get_or (set xs i x) k d ≡ f k
stored d xs f i x l e h k m = go (eqb k i) refl
  where
    go : (b : Bool) → eqb k i ≡ b → get_or (set xs i x) k d ≡ f k
    go true g = let r = eqb-true k i g in ap (λ (j : ℕ). get_or (set xs i x) j d) r ∙ (get_or-set_same xs i x d l ∙ (e ∙ ap f (sym r)))
    go false g = get_or-set_other xs i k x d (eqb-false k i g) ∙ h k (let n = eqb-false k i g in below (λ r. n r))
      where
        below : (k ≡ i → ⊥) → k < i
        below n = omega arith

-- the first places of an array that was filled so
pub firsts-tab : {A : Type 0} (d : A) (xs : List A) (f : ℕ → A) (n : ℕ) → ((k : ℕ) → k < n → get_or xs k d ≡ f k) → firsts d xs n ≡ tab f 0 n
firsts-tab d xs f n h =
    ext_get_or d (firsts d xs n) (tab f 0 n) (firsts-length d xs n ∙ sym (tab-length f 0 n))
    (λ i l. let m : i < n = omega (arith, l, firsts-length d xs n) in
    firsts_at d xs n i m ∙ (h i m ∙ (ap f (let z : i ≡ 0 + i = omega arith in z) ∙ sym (tab-at f 0 n i d m))))

pub firsts_list : (xs h : List ℕ) → ((k : ℕ) → k < length h → get_or xs k 0 ≡ get_or h k 0) → firsts 0 xs (length h) ≡ h
firsts_list xs h e =
    ext_get_or 0 (firsts 0 xs (length h)) h (firsts-length 0 xs (length h))
    (λ i l. let m : i < length h = omega (arith, l, firsts-length 0 xs (length h)) in firsts_at 0 xs (length h) i m ∙ e i m)

-- one more of the first places
tab-last : {A : Type 0} (f : ℕ → A) (i k : ℕ) → tab f i (suc k) ≡ tab f i k ++ (f (i + k) ∷ [])
unfolding tab
tab-last f i zero = ap (λ (j : ℕ). f j ∷ []) (let e : i ≡ i + 0 = omega arith in e)
tab-last f i (suc k) = ap (λ (l : List _). f i ∷ l) (tab-last f (suc i) k ∙ ap (λ (j : ℕ). tab f (suc i) k ++ (f j ∷ [])) (let e : suc i + k ≡ i + suc k = omega arith in e))

pub firsts_more : {A : Type 0} (d : A) (xs : List A) (i : ℕ) → firsts d xs (i + 1) ≡ firsts d xs i ++ (get_or xs i d ∷ [])
unfolding firsts
firsts_more d xs i =
    ap (tab (λ j. get_or xs j d) 0) (let e : i + 1 ≡ suc i = omega arith in e)
    ∙ (tab-last (λ j. get_or xs j d) 0 i ∙ ap (λ (j : ℕ). tab (λ j. get_or xs j d) 0 i ++ (get_or xs j d ∷ [])) (let e : 0 + i ≡ i = omega arith in e))

pub firsts_none : {A : Type 0} (d : A) (xs : List A) → firsts d xs 0 ≡ []
unfolding firsts tab
firsts_none d xs = refl

-- one more place at the front of a buffer
pub front_more : (xs : List ℕ) (a : ℕ) (o : List ℕ) (n : ℕ) → n ≡ length xs → n < length o → set (at_front xs o) n a ≡ at_front (xs ++ (a ∷ [])) o
unfolding at_front
front_more xs a o n e l =
    let h : length xs < length o = omega (arith, e, l) in
    let s : suc (length xs) ≡ length (xs ++ (a ∷ [])) = let m = length-append xs (a ∷ []) in omega (arith, m) in
    ap (λ (k : ℕ). set (xs ++ drop (length xs) o) k a) e
    ∙ (ap (λ (r : List ℕ). set (xs ++ r) (length xs) a) (drop-cons o (length xs) 0 h)
    ∙ (set-append_seam xs (get_or o (length xs) 0) (drop (suc (length xs)) o) a
    ∙ (ap (λ (k : ℕ). xs ++ a ∷ drop k o) s ∙ sym (append_assoc xs (a ∷ []) (drop (length (xs ++ (a ∷ []))) o)))))

pub front_none : (o : List ℕ) → o ≡ at_front [] o
unfolding at_front
front_none o = refl

pub head_none : (hs o : List ℕ) → o ≡ at_front (firsts 0 hs 0) o
head_none hs o = front_none o ∙ ap (λ (x : List ℕ). at_front x o) (sym (firsts_none 0 hs))

pub head_more : (hs to o : List ℕ) (i : ℕ) → to ≡ at_front (firsts 0 hs i) o → i < length o → set to i (get_or hs i 0) ≡ at_front (firsts 0 hs (i + 1)) o
head_more hs to o i e l =
    ap (λ (x : List ℕ). set x i (get_or hs i 0)) e
    ∙ (front_more (firsts 0 hs i) (get_or hs i 0) o i (sym (firsts-length 0 hs i)) l ∙ ap (λ (x : List ℕ). at_front x o) (sym (firsts_more 0 hs i)))

-- label conditions as numbers
pub labels_length : (cs : List LabelCondition) → length (label_numbers cs) ≡ 2 * length cs
unfolding label_numbers
labels_length [] = refl
labels_length (c ∷ cs) = let h = labels_length cs in omega (arith, h)

labels-last : (cs : List LabelCondition) (c : LabelCondition) → label_numbers (cs ++ (c ∷ [])) ≡ (label_numbers cs ++ (c.variable ∷ [])) ++ (c.label ∷ [])
unfolding label_numbers
labels-last [] c = refl
labels-last (x ∷ cs) c = ap (λ (r : List ℕ). x.variable ∷ x.label ∷ r) (labels-last cs c)

pub labels_none : (ls : List LabelCondition) (o : List ℕ) → o ≡ at_front (label_numbers (firsts no_label ls 0)) o
unfolding label_numbers
labels_none ls o = front_none o ∙ ap (λ (x : List LabelCondition). at_front (label_numbers x) o) (sym (firsts_none no_label ls))

pub labels-more : (ls : List LabelCondition) (to o : List ℕ) (i : ℕ) → to ≡ at_front (label_numbers (firsts no_label ls i)) o → 2 * i + 1 < length o →
    set (set to (2 * i) (get_or ls i no_label).variable) (2 * i + 1) (get_or ls i no_label).label ≡ at_front (label_numbers (firsts no_label ls (i + 1))) o
labels-more ls to o i e l =
    let c = get_or ls i no_label in
    let n = label_numbers (firsts no_label ls i) in
    let s : length n ≡ 2 * i = labels_length (firsts no_label ls i) ∙ ap (λ (k : ℕ). 2 * k) (firsts-length no_label ls i) in
    let t = length-append n (c.variable ∷ []) in
    ap (λ (x : List ℕ). set (set x (2 * i) c.variable) (2 * i + 1) c.label) e
    ∙ (ap (λ (x : List ℕ). set x (2 * i + 1) c.label) (front_more n c.variable o (2 * i) (sym s) (omega arith))
    ∙ (front_more (n ++ (c.variable ∷ [])) c.label o (2 * i + 1) (omega (arith, s, t)) l
    ∙ ap (λ (x : List ℕ). at_front x o) (sym (ap label_numbers (firsts_more no_label ls i) ∙ labels-last (firsts no_label ls i) c))))

-- axis conditions as numbers
pub axes-length : (cs : List Condition) → length (axis_numbers cs) ≡ 3 * length cs
unfolding axis_numbers
axes-length [] = refl
axes-length (c ∷ cs) = let h = axes-length cs in omega (arith, h)

axes-last : (cs : List Condition) (c : Condition) → axis_numbers (cs ++ (c ∷ [])) ≡ ((axis_numbers cs ++ (c.code ∷ [])) ++ (c.first ∷ [])) ++ (c.second ∷ [])
unfolding axis_numbers
axes-last [] c = refl
axes-last (x ∷ cs) c = ap (λ (r : List ℕ). x.code ∷ x.first ∷ x.second ∷ r) (axes-last cs c)

pub axes_none : (cs : List Condition) (o : List ℕ) → o ≡ at_front (axis_numbers (firsts no-condition cs 0)) o
unfolding axis_numbers
axes_none cs o = front_none o ∙ ap (λ (x : List Condition). at_front (axis_numbers x) o) (sym (firsts_none no-condition cs))

pub axes-more : (cs : List Condition) (to o : List ℕ) (i : ℕ) → to ≡ at_front (axis_numbers (firsts no-condition cs i)) o → 3 * i + 2 < length o →
    set (set (set to (3 * i) (get_or cs i no-condition).code) (3 * i + 1) (get_or cs i no-condition).first) (3 * i + 2) (get_or cs i no-condition).second
    ≡ at_front (axis_numbers (firsts no-condition cs (i + 1))) o
axes-more cs to o i e l =
    let c = get_or cs i no-condition in
    let n = axis_numbers (firsts no-condition cs i) in
    let s : length n ≡ 3 * i = axes-length (firsts no-condition cs i) ∙ ap (λ (k : ℕ). 3 * k) (firsts-length no-condition cs i) in
    let t = length-append n (c.code ∷ []) in
    let u = length-append (n ++ (c.code ∷ [])) (c.first ∷ []) in
    ap (λ (x : List ℕ). set (set (set x (3 * i) c.code) (3 * i + 1) c.first) (3 * i + 2) c.second) e
    ∙ (ap (λ (x : List ℕ). set (set x (3 * i + 1) c.first) (3 * i + 2) c.second) (front_more n c.code o (3 * i) (sym s) (omega arith))
    ∙ (ap (λ (x : List ℕ). set x (3 * i + 2) c.second) (front_more (n ++ (c.code ∷ [])) c.first o (3 * i + 1) (omega (arith, s, t)) (omega arith))
    ∙ (front_more ((n ++ (c.code ∷ [])) ++ (c.first ∷ [])) c.second o (3 * i + 2) (omega (arith, s, t, u)) l
    ∙ ap (λ (x : List ℕ). at_front x o) (sym (ap axis_numbers (firsts_more no-condition cs i) ∙ axes-last (firsts no-condition cs i) c)))))
