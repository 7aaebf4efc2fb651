-- What the tests of crates/meaning say: each test as a statement, both ways. Assumes nothing.
use Rattle.std.specs.Prelude.{◌≡◌, refl, Bool, true, false, cond, ◌⊎◌, ℕ, zero, suc, ◌+◌, ◌*◌, ◌≤◌, ◌<◌, ltb, eqb, length, get_or}
use Rattle.std.proofs.Common.{sym, ap, ◌∙◌, inl, inr, ⊎_elim, not-suc-le-zero, add-zero, le_of_suc-le-suc, arith, ltb-true, ltb-false, eqb-true, ne_eqb}
use Rattle.std.proofs.lemmas.Bool.{false≢true}
use Rattle.meaning.specs.Tests.{Is, ◌&◌, ◌or◌, non, every, some, one, count, sum, Found, smaller, least, tab}
use Rattle.meaning.specs.Tests.Found.{none, at}

pub and_l : (a b : Bool) → Is (a & b) → Is a
unfolding ◌&◌
and_l true b h = refl
and_l false b h = h

pub and_r : (a b : Bool) → Is (a & b) → Is b
unfolding ◌&◌
and_r true b h = h
and_r false b h = absurd (false≢true h)

pub and_in : (a b : Bool) → Is a → Is b → Is (a & b)
unfolding ◌&◌
and_in a b p q = rw (p, q)

pub or_cases : (a b : Bool) → Is (a or b) → Is a ⊎ Is b
unfolding ◌or◌
or_cases true b h = inl refl
or_cases false b h = inr h

pub or_l : (a b : Bool) → Is a → Is (a or b)
unfolding ◌or◌
or_l a b h = rw h

pub or_r : (a b : Bool) → Is b → Is (a or b)
unfolding ◌or◌
or_r true b h = refl
or_r false b h = h

pub not_is : (a : Bool) → Is (non a) → Is a → ⊥
unfolding non
not_is true h k = false≢true h
not_is false h k = false≢true k

pub is_not : (a : Bool) → (Is a → ⊥) → Is (non a)
unfolding non
is_not true h = absurd (h refl)
is_not false h = refl

pub decide : (a : Bool) → Is a ⊎ Is (non a)
unfolding non
decide true = inl refl
decide false = inr refl

-- a last or an earlier one
pub below_suc : {k n : ℕ} → k < suc n → (k < n) ⊎ (k ≡ n)
below_suc {k} {n} h = go (ltb k n) refl
  where
    go : (b : Bool) → ltb k n ≡ b → (k < n) ⊎ (k ≡ n)
    go true e = inl (ltb-true k n e)
    go false e = let l = ltb-false k n e in inr (omega arith)

pub every-at : (n : ℕ) (p : ℕ → Bool) → Is (every n p) → (k : ℕ) → k < n → Is (p k)
unfolding every
every-at zero p h k l = absurd (not-suc-le-zero l)
every-at (suc n) p h k l =
    ⊎_elim (λ m. every-at n p (and_r (p n) _ h) k m) (λ e. rw e (and_l (p n) _ h)) (below_suc l)

pub every_in : (n : ℕ) (p : ℕ → Bool) → ((k : ℕ) → k < n → Is (p k)) → Is (every n p)
unfolding every
every_in zero p h = refl
every_in (suc n) p h = and_in _ _ (h n (omega arith)) (every_in n p (λ k l. h k (omega arith)))

pub some_is : (n : ℕ) (p : ℕ → Bool) → Is (some n p) → (k : ℕ) × (k < n) × Is (p k)
unfolding some
some_is zero p h = absurd (false≢true h)
some_is (suc n) p h =
    ⊎_elim
    (λ e. (n, omega arith, e))
    (λ e. let t = some_is n p e in (t.0, omega arith, t.2))
    (or_cases (p n) _ h)

pub some_in : (n : ℕ) (p : ℕ → Bool) (k : ℕ) → k < n → Is (p k) → Is (some n p)
unfolding some
some_in zero p k l h = absurd (not-suc-le-zero l)
some_in (suc n) p k l h =
    ⊎_elim
    (λ m. or_r (p n) (some n p) (some_in n p k m h))
    (λ e. or_l (p n) (some n p) (rw e at h))
    (below_suc l)

pub one_le : (a b : Bool) → (Is a → Is b) → one a ≤ one b
one_le true true h = omega arith
one_le true false h = absurd (false≢true (h refl))
one_le false true h = omega arith
one_le false false h = omega arith

pub one_eq : (a b : Bool) → (Is a → Is b) → one b ≤ one a → Is b → Is a
one_eq true b h l k = refl
one_eq false true h l k = absurd (not-suc-le-zero l)
one_eq false false h l k = k

pub count_le : (n : ℕ) (p q : ℕ → Bool) → ((k : ℕ) → k < n → Is (p k) → Is (q k)) → count n p ≤ count n q
unfolding count
count_le zero p q h = omega arith
count_le (suc n) p q h =
    let a = one_le (p n) (q n) (h n (omega arith)) in
    let b = count_le n p q (λ k l. h k (omega arith)) in
    omega arith

-- a part that is no smaller is the whole
pub count_eq : (n : ℕ) (p q : ℕ → Bool) → ((k : ℕ) → k < n → Is (p k) → Is (q k)) → count n q ≤ count n p →
    (k : ℕ) → k < n → Is (q k) → Is (p k)
unfolding count
count_eq zero p q h e k l = absurd (not-suc-le-zero l)
count_eq (suc n) p q h e k l =
    let a = one_le (p n) (q n) (h n (omega arith)) in
    let h' : (k : ℕ) → k < n → Is (p k) → Is (q k) = λ k l. h k (omega arith) in
    let b = count_le n p q h' in
    ⊎_elim
    (λ m. count_eq n p q h' (omega arith) k m)
    (λ m. rw m (one_eq (p n) (q n) (h n (omega arith)) (omega arith)))
    (below_suc l)

-- what `least` finds
abbrev pub Least : (ℕ → ℕ) → ℕ → (ℕ → Bool) → Found → Type 0
Least key n p none = (k : ℕ) → k < n → Is (p k) → ⊥
Least key n p (at r) = (r < n) × Is (p r) × ((k : ℕ) → k < n → Is (p k) → key r ≤ key k)

pub least_is : (key : ℕ → ℕ) (n : ℕ) (p : ℕ → Bool) → Least key n p (least key n p)
unfolding least
least_is key zero p = λ k l h. not-suc-le-zero l
least_is key (suc n) p = go (least key n p) (least_is key n p) (p n) refl
  where
    go : (f : Found) → Least key n p f → (b : Bool) → p n ≡ b → Least key (suc n) p (cond b (smaller key n f) f)
    go none h true e = (omega arith, e, λ k l t. ⊎_elim (λ m. absurd (h k m t)) (λ m. rw m (omega arith)) (below_suc l))
    go none h false e = λ k l t. ⊎_elim (λ m. h k m t) (λ m. false≢true (sym e ∙ (rw m at t))) (below_suc l)
    go (at r) h false e =
        (omega arith, h.1, λ k l t. ⊎_elim (λ m. h.2 k m t) (λ m. absurd (false≢true (sym e ∙ (rw m at t)))) (below_suc l))
    go (at r) h true e = two (ltb (key n) (key r)) refl
      where
        two : (b : Bool) → ltb (key n) (key r) ≡ b → Least key (suc n) p (cond b (at n) (at r))
        two true w =
            let w' = ltb-true (key n) (key r) w in
            (omega arith, e, λ k l t. ⊎_elim (λ m. let u = h.2 k m t in omega arith) (λ m. rw m (omega arith)) (below_suc l))
        two false w =
            let w' = ltb-false (key n) (key r) w in
            (omega arith, h.1, λ k l t. ⊎_elim (λ m. h.2 k m t) (λ m. rw m w') (below_suc l))

-- where the first holds the second does
pub imp : (a b : Bool) → Is (non a or b) → Is a → Is b
imp a b h k = ⊎_elim (λ e. absurd (not_is a e k)) (λ e. e) (or_cases _ _ h)

pub imp_in : (a b : Bool) → (Is a → Is b) → Is (non a or b)
imp_in a b f = ⊎_elim (λ e. or_r _ _ (f e)) (λ e. or_l _ _ e) (decide a)

-- a test that is not passed, as an equation; two tests that pass together are equal
pub not_so : (b : Bool) → (Is b → ⊥) → b ≡ false
not_so true h = absurd (h refl)
not_so false h = refl

pub same_test : (a b : Bool) → (Is a → Is b) → (Is b → Is a) → a ≡ b
same_test true b f g = sym (f refl)
same_test false true f g = g refl
same_test false false f g = refl

pub and_no : (b c : Bool) → (Is b → Is c → ⊥) → (b & c) ≡ false
and_no b c h = not_so (b & c) (λ e. h (and_l b c e) (and_r b c e))

-- tests that agree below n
pub every-same : (n : ℕ) (p q : ℕ → Bool) → ((k : ℕ) → k < n → p k ≡ q k) → every n p ≡ every n q
unfolding every
every-same zero p q h = refl
every-same (suc n) p q h = rw (h n (omega arith), every-same n p q (λ k l. h k (omega arith)))

pub some_same : (n : ℕ) (p q : ℕ → Bool) → ((k : ℕ) → k < n → p k ≡ q k) → some n p ≡ some n q
unfolding some
some_same zero p q h = refl
some_same (suc n) p q h = rw (h n (omega arith), some_same n p q (λ k l. h k (omega arith)))

pub count_same : (n : ℕ) (p q : ℕ → Bool) → ((k : ℕ) → k < n → p k ≡ q k) → count n p ≡ count n q
unfolding count
count_same zero p q h = refl
count_same (suc n) p q h = rw (h n (omega arith), count_same n p q (λ k l. h k (omega arith)))

-- counts of none, of all, of a strict part
pub count_none : (n : ℕ) (p : ℕ → Bool) → ((k : ℕ) → k < n → p k ≡ false) → count n p ≡ 0
unfolding count
count_none zero p h = refl
count_none (suc n) p h = rw (h n (omega arith)) (omega (arith, count_none n p (λ k l. h k (omega arith))))

pub count-every : (n : ℕ) (p : ℕ → Bool) → ((k : ℕ) → k < n → Is (p k)) → count n p ≡ n
unfolding count
count-every zero p h = refl
count-every (suc n) p h = rw (h n (omega arith)) (omega (arith, count-every n p (λ k l. h k (omega arith))))

pub count_most : (n : ℕ) (p : ℕ → Bool) → count n p ≤ n
count_most n p = omega (arith, count_le n p (λ k. true) (λ k l h. refl), count-every n (λ k. true) (λ k l. refl))

pub count_lt : (n : ℕ) (p q : ℕ → Bool) → ((k : ℕ) → k < n → Is (p k) → Is (q k)) → (r : ℕ) → r < n → Is (q r) → (Is (p r) → ⊥) → count n p < count n q
count_lt n p q sub r l h k = go (ltb (count n p) (count n q)) refl
  where
    go : (b : Bool) → ltb (count n p) (count n q) ≡ b → count n p < count n q
    go true e = ltb-true _ _ e
    go false e = absurd (k (count_eq n p q sub (ltb-false (count n p) (count n q) e) r l h))

-- a test that is one of two others, never both; and its count
pub one_of : (a b c : Bool) → (Is b → Is a) → (Is c → Is a) → (Is b → Is c → ⊥) → (Is a → Is b ⊎ Is c) → one a ≡ one b + one c
one_of a true true ab ac n h = absurd (n refl refl)
one_of a true false ab ac n h = rw (ab refl) (omega arith)
one_of a false true ab ac n h = rw (ac refl) (omega arith)
one_of true false false ab ac n h = absurd (⊎_elim false≢true false≢true (h refl))
one_of false false false ab ac n h = omega arith

pub count_split : (n : ℕ) (p q r : ℕ → Bool) → ((k : ℕ) → k < n → one (p k) ≡ one (q k) + one (r k)) → count n p ≡ count n q + count n r
unfolding count
count_split zero p q r h = omega arith
count_split (suc n) p q r h = omega (arith, h n (omega arith), count_split n p q r (λ k l. h k (omega arith)))

pub one_or : (a b : Bool) → one (a or b) ≤ one a + one b
unfolding ◌or◌
one_or true true = omega arith
one_or true false = omega arith
one_or false true = omega arith
one_or false false = omega arith

pub count_or : (n : ℕ) (a b : ℕ → Bool) → count n (λ z. a z or b z) ≤ count n a + count n b
unfolding count
count_or zero a b = omega arith
count_or (suc n) a b = omega (arith, one_or (a n) (b n), count_or n a b)

-- a number is equal to at most one below n
same_none : (n p : ℕ) → n ≤ p → count n (λ z. eqb z p) ≡ 0
same_none n p h = count_none n (λ z. eqb z p) (λ k l. ne_eqb k p (λ e. omega arith))

pub same-one : (n p : ℕ) → count n (λ z. eqb z p) ≤ 1
unfolding count
same-one zero p = omega arith
same-one (suc n) p = go (same-one n p) (eqb n p) refl
  where
    go : count n (λ z. eqb z p) ≤ 1 → (b : Bool) → eqb n p ≡ b → one (eqb n p) + count n (λ z. eqb z p) ≤ 1
    go h true e = rw e (omega (arith, same_none n p (omega (arith, eqb-true n p e))))
    go h false e = rw e (omega arith)

-- sums, place by place
pub sum_le : (v : ℕ) (f g : ℕ → ℕ) → ((x : ℕ) → x < v → f x ≤ g x) → sum v f ≤ sum v g
unfolding sum
sum_le zero f g h = omega arith
sum_le (suc v) f g h = omega (arith, h v (omega arith), sum_le v f g (λ x l. h x (omega arith)))

pub sum_eq : (v : ℕ) (f g : ℕ → ℕ) → ((x : ℕ) → x < v → f x ≤ g x) → sum v g ≤ sum v f → (x : ℕ) → x < v → g x ≤ f x
unfolding sum
sum_eq zero f g h e x l = absurd (not-suc-le-zero l)
sum_eq (suc v) f g h e x l =
    let h' : (x : ℕ) → x < v → f x ≤ g x = λ x l. h x (omega arith) in
    let a = h v (omega arith) in
    let b = sum_le v f g h' in
    ⊎_elim (λ m. sum_eq v f g h' (omega arith) x m) (λ m. rw m (omega arith)) (below_suc l)

pub sum_same : (v : ℕ) (f g : ℕ → ℕ) → ((x : ℕ) → x < v → f x ≡ g x) → sum v f ≡ sum v g
unfolding sum
sum_same zero f g h = refl
sum_same (suc v) f g h = rw (h v (omega arith), sum_same v f g (λ x l. h x (omega arith)))

pub sum_up : (f : ℕ → ℕ) (j k : ℕ) → j ≤ k → sum j f ≤ sum k f
unfolding sum
sum_up f j zero h = rw (let e : j ≡ 0 = omega arith in e) (omega arith)
sum_up f j (suc k) h = ⊎_elim (λ m. let l : j ≤ k = omega arith in omega (arith, sum_up f j k l)) (λ m. rw m (omega arith)) (below_suc {k = j} {n = suc k} (omega arith))

pub sum_most : (v : ℕ) (f : ℕ → ℕ) (b : ℕ) → ((x : ℕ) → x < v → f x ≤ b) → sum v f ≤ v * b
unfolding sum
sum_most zero f b h = omega arith
sum_most (suc v) f b h =
    let e : suc v * b ≡ v * b + b = omega arith in
    omega (arith, h v (omega arith), sum_most v f b (λ x l. h x (omega arith)))

-- a list of values
pub tab-at : {A : Type 0} (f : ℕ → A) (i k j : ℕ) (d : A) → j < k → get_or (tab f i k) j d ≡ f (i + j)
unfolding tab
tab-at f i zero j d l = absurd (not-suc-le-zero l)
tab-at f i (suc k) zero d l = ap f (sym (add-zero i))
tab-at f i (suc k) (suc j) d l = tab-at f (suc i) k j d (le_of_suc-le-suc l) ∙ ap f (omega arith)

pub tab-length : {A : Type 0} (f : ℕ → A) (i k : ℕ) → length (tab f i k) ≡ k
unfolding tab
tab-length f i zero = refl
tab-length f i (suc k) = ap suc (tab-length f (suc i) k)

-- of a test that some number passes, the one with the smallest key
abbrev pub IsLeast : ℕ → (ℕ → ℕ) → (ℕ → Bool) → ℕ → Type 0
IsLeast n key s r = (r < n) × Is (s r) × ((k : ℕ) → k < n → Is (s k) → key r ≤ key k)

abbrev pub row_of : Found → ℕ
row_of none = 0
row_of (at r) = r

pub found-least : (n : ℕ) (key : ℕ → ℕ) (s : ℕ → Bool) → Is (some n s) → IsLeast n key s (row_of (least key n s))
found-least n key s h = go (least key n s) (least_is key n s)
  where
    go : (f : Found) → Least key n s f → IsLeast n key s (row_of f)
    go none e = let w = some_is n s h in absurd (e w.0 w.1 w.2)
    go (at r) e = e
