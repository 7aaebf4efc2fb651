-- A search through the numbers below n is one through the list. Assumes nothing.
use Rattle.std.proofs.Common.{◌≡◌, ℕ, zero, suc, ◌<◌, ◌≤◌, Bool, true, false, ◌||◌, ◌==◌, List, [], ◌∷◌, length, get_or, take, not, refl, sym, ap, ◌∙◌, arith, zero-add, get_or-take, length-take-le, take_all}
use Rattle.std.specs.List.{list_any, enumerate_from}
use Rattle.std.proofs.lemmas.List.FromFn.{length-enumerate_from, get_or-enumerate_from}
use Rattle.std.proofs.Math.Dec.{eqb}
use Rattle.meaning.specs.Tests.{◌or◌, non, some}
use Rattle.meaning.specs.QueryTexts.{twice, in_label_condition, in_axis_condition, unused, no_label, no-condition}
use Rattle.meaning.specs.declared.LabelCondition.{LabelCondition}
use Rattle.meaning.specs.declared.Condition.{Condition}
use Rattle.meaning.specs.declared.Query.{Query}
use Rattle.query_text.proofs.ByteLaws.{either_is}

either_end : (a : Bool) → (a || false) ≡ (a or false)
unfolding ◌or◌
either_end true = refl
either_end false = refl

either_swap : (a b c : Bool) → (a || (b or c)) ≡ (b or (a || c))
unfolding ◌or◌
either_swap true true c = refl
either_swap true false c = refl
either_swap false b c = refl

any_more : {A : Type 0} (p : A → Bool) (d : A) (xs : List A) (n : ℕ) → n < length xs → list_any p (take (suc n) xs) ≡ (p (get_or xs n d) or list_any p (take n xs))
any_more p d [] n l = absurd (omega arith)
any_more p d (x ∷ xs) zero l = either_end (p x)
any_more p d (x ∷ xs) (suc n) l = ap (λ (z : Bool). p x || z) (any_more p d xs n (omega arith)) ∙ either_swap (p x) (p (get_or xs n d)) (list_any p (take n xs))

pub some_any : {A : Type 0} (p : A → Bool) (d : A) (xs : List A) (n : ℕ) → n ≤ length xs → list_any p (take n xs) ≡ some n (λ i. p (get_or xs i d))
unfolding some
some_any p d xs zero l = refl
some_any p d xs (suc n) l = any_more p d xs n (omega arith) ∙ ap (λ (z : Bool). p (get_or xs n d) or z) (some_any p d xs n (omega arith))

any_same : {A : Type 0} (p q : A → Bool) → ((x : A) → p x ≡ q x) → (xs : List A) → list_any p xs ≡ list_any q xs
any_same p q h [] = refl
any_same p q h (x ∷ xs) = ap (λ (z : Bool). z || list_any p xs) (h x) ∙ ap (λ (z : Bool). q x || z) (any_same p q h xs)

-- what the searches of the conditions and of the head say
pub label_asked : (q : Query) (v : ℕ) → q.label_count ≤ length q.labels → list_any (λ (c : LabelCondition). eqb c.variable v) (take q.label_count q.labels) ≡ in_label_condition q v
unfolding in_label_condition
label_asked q v l = some_any (λ (c : LabelCondition). eqb c.variable v) no_label q.labels q.label_count l

pub axis_asked : (q : Query) (v : ℕ) → q.axis_count ≤ length q.axes → list_any (λ (c : Condition). eqb c.first v || eqb c.second v) (take q.axis_count q.axes) ≡ in_axis_condition q v
unfolding in_axis_condition
axis_asked q v l =
    any_same (λ (c : Condition). eqb c.first v || eqb c.second v) (λ (c : Condition). eqb c.first v or eqb c.second v) (λ c. sym (either_is (eqb c.first v) (eqb c.second v))) (take q.axis_count q.axes)
    ∙ some_any (λ (c : Condition). eqb c.first v or eqb c.second v) no-condition q.axes q.axis_count l

not_non : (z : Bool) → not z ≡ non z
unfolding non
not_non true = refl
not_non false = refl

pub head_asked : (q : Query) → q.head_count ≤ length q.«head» → list_any (λ (v : ℕ). not (in_label_condition q v or in_axis_condition q v)) (take q.head_count q.«head») ≡ unused q
unfolding unused
head_asked q l =
    any_same (λ (v : ℕ). not (in_label_condition q v or in_axis_condition q v)) (λ (v : ℕ). non (in_label_condition q v or in_axis_condition q v)) (λ v. not_non (in_label_condition q v or in_axis_condition q v)) (take q.head_count q.«head»)
    ∙ some_any (λ (v : ℕ). non (in_label_condition q v or in_axis_condition q v)) 0 q.«head» q.head_count l

-- the places of the head, each with the variable there, as the code looks at them
abbrev pub is_repeated : List ℕ → ℕ × ℕ → Bool
is_repeated h (i, x) = list_any (λ y. y == x) (take i h)

some_same : (n : ℕ) (p q : ℕ → Bool) → ((i : ℕ) → i < n → p i ≡ q i) → some n p ≡ some n q
unfolding some
some_same zero p q h = refl
some_same (suc n) p q h = rw (h n (omega arith), some_same n p q (λ i l. h i (omega arith))) refl

pub head_repeated : (q : Query) → q.head_count ≤ length q.«head» → list_any (is_repeated (take q.head_count q.«head»)) (enumerate_from 0 (take q.head_count q.«head»)) ≡ twice q
unfolding twice
head_repeated q l =
    let h = take q.head_count q.«head» in
    let n : length h ≡ q.head_count = length-take-le q.head_count q.«head» l in
    let e = enumerate_from 0 h in
    let m : length e ≡ q.head_count = length-enumerate_from 0 h ∙ n in
    ap (list_any (is_repeated h)) (sym (take_all q.head_count e (omega (arith, m))))
    ∙ some_any (is_repeated h) (0, 0) e q.head_count (omega (arith, m))
    ∙ some_same q.head_count _ _ (λ i k. ap (is_repeated h) (get_or-enumerate_from 0 h i (0, 0) (omega (arith, n)) ∙ ap (λ (j : ℕ). (j, get_or h i 0)) (zero-add i))
    ∙ some_any (λ y. y == get_or h i 0) 0 h i (omega (arith, n))
    ∙ some_same i _ _ (λ j d. let a = get_or-take q.head_count q.«head» j 0 (omega arith) in let b = get_or-take q.head_count q.«head» i 0 k in rw (a, b) refl))

pub neither : (a b : Bool) → a ≡ false → b ≡ false → (a or b) ≡ false
unfolding ◌or◌
neither a b p q = rw (p, q)

pub one_of : (a b : Bool) → a ≡ true → (a or b) ≡ true
unfolding ◌or◌
one_of a b p = rw p

pub other_of : (a b : Bool) → b ≡ true → (a or b) ≡ true
unfolding ◌or◌
other_of true b p = refl
other_of false b p = p
