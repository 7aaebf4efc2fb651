-- What a tree table and its axes say, as statements; levels; and a post number by row number, rows below and level. Assumes nothing.
use Rattle.std.specs.Prelude.{◌≡◌, Bool, ◌⊎◌, List}
use Rattle.std.proofs.Math.Path.{refl, sym}
use Rattle.std.proofs.Common.{ap, ◌∙◌}
use Rattle.std.proofs.Math.Bool.{true, false}
use Rattle.std.proofs.Math.Logic.{inl, inr, ⊎_elim}
use Prim.Native.Nat.{ℕ, zero, suc, ◌+◌, ◌-◌, ◌≤◌, ◌<◌}
use native.Mathlib.Omega.{arith}
use Rattle.std.proofs.Math.Dec.{ltb, eqb}
use Rattle.std.proofs.Math.ListN.{length}
use borrow.Author.Tests.{ltb-true, ltb-false, eqb-true, eqb-false, lt-ltb, le-ltb, eq-eqb, ne_eqb}
use Rattle.meaning.specs.Tests.{Is, ◌&◌, ◌or◌, non, every, one, count}
use Rattle.meaning.specs.Table.{post, is_numbered, is_nested, is_tree, below, child, later, next, follows, level}
use Rattle.theory.specs.Tests.{and_l, and_r, and_in, or_l, or_r, not_is, is_not, below_suc, every-at, every_in, some_is, some_in, count_le, count_eq, count_none, count-every, count_split, one_of, count_or, same-one}

-- a tree table, as a statement
pub record Tree (t : List ℕ) : Type 0 where
  pub below : (r : ℕ) → r < length t → post t r < length t
  pub once : (q r : ℕ) → q < r → r < length t → post t q ≡ post t r → ⊥
  pub root : suc (post t 0) ≡ length t
  pub nested : (a b c : ℕ) → a < b → b < c → c < length t → post t c < post t a → post t a < post t b → ⊥

pub tree_is : (t : List ℕ) → Is (is_tree t) → Tree t
unfolding is_tree is_numbered is_nested
tree_is t h =
    let n = length t in
    let perm = and_l _ _ h in
    let each : (r : ℕ) → r < n → Is (ltb (post t r) n & every r (λ q. non (eqb (post t q) (post t r)))) = every-at n _ (and_l _ _ perm) in
    record {
      below = λ r l. ltb-true (post t r) n (and_l _ _ (each r l));
      once = λ q r l m e. not_is _ (every-at r _ (and_r (ltb (post t r) n) _ (each r m)) q l) (eq-eqb (post t q) (post t r) e);
      root = eqb-true (suc (post t 0)) n (and_r _ _ perm);
      nested = λ a b c l m k u v.
          not_is _ (every-at b _ (every-at c _ (every-at n _ (and_r _ _ h) c k) b m) a l) (and_in _ _ (lt-ltb _ _ u) (lt-ltb _ _ v));
    }

pub tree_in : (t : List ℕ) → Tree t → Is (is_tree t)
unfolding is_tree is_numbered is_nested
tree_in t h =
    and_in _ _
    (and_in _ _
    (every_in (length t) _ (λ r l. and_in _ _ (lt-ltb _ _ (h.below r l)) (every_in r _ (λ q m. is_not _ (λ e. h.once q r m l (eqb-true _ _ e))))))
    (eq-eqb _ _ h.root))
    (every_in (length t) _ (λ c k. every_in c _ (λ b m. every_in b _ (λ a l. is_not _ (λ e. h.nested a b c l m k (ltb-true _ _ (and_l _ _ e)) (ltb-true _ _ (and_r _ _ e)))))))

pub below_is : (t : List ℕ) (p q : ℕ) → Is (below t p q) → (p < q) × (post t q < post t p)
unfolding below
below_is t p q h = (ltb-true p q (and_l _ _ h), ltb-true (post t q) (post t p) (and_r _ _ h))

pub below_in : (t : List ℕ) (p q : ℕ) → p < q → post t q < post t p → Is (below t p q)
unfolding below
below_in t p q h k = and_in _ _ (lt-ltb _ _ h) (lt-ltb _ _ k)

pub follows_is : (t : List ℕ) (p q : ℕ) → Is (follows t p q) → (p < q) × (post t p < post t q)
unfolding follows
follows_is t p q h = (ltb-true p q (and_l _ _ h), ltb-true (post t p) (post t q) (and_r _ _ h))

pub follows_in : (t : List ℕ) (p q : ℕ) → p < q → post t p < post t q → Is (follows t p q)
unfolding follows
follows_in t p q h k = and_in _ _ (lt-ltb _ _ h) (lt-ltb _ _ k)

pub child_is : (t : List ℕ) (p q : ℕ) → Is (child t p q) →
    Is (below t p q) × ((z : ℕ) → z < length t → Is (below t p z) → Is (below t z q) → ⊥)
unfolding child
child_is t p q h = (and_l _ _ h, λ z l a b. not_is _ (and_r _ _ h) (some_in _ _ z l (and_in _ _ a b)))

pub child_in : (t : List ℕ) (p q : ℕ) → Is (below t p q) →
    ((z : ℕ) → z < length t → Is (below t p z) → Is (below t z q) → ⊥) → Is (child t p q)
unfolding child
child_in t p q h k = and_in _ _ h (is_not _ (λ e. let w = some_is _ _ e in k w.0 w.1 (and_l _ _ w.2) (and_r _ _ w.2)))

pub later_is : (t : List ℕ) (p q : ℕ) → Is (later t p q) →
    (p < q) × ((z : ℕ) × (z < length t) × Is (child t z p) × Is (child t z q))
unfolding later
later_is t p q h =
    let w = some_is _ _ (and_r _ _ h) in
    (ltb-true p q (and_l _ _ h), (w.0, w.1, and_l _ _ w.2, and_r _ _ w.2))

pub later_in : (t : List ℕ) (p q z : ℕ) → p < q → z < length t → Is (child t z p) → Is (child t z q) → Is (later t p q)
unfolding later
later_in t p q z h l a b = and_in _ _ (lt-ltb _ _ h) (some_in _ _ z l (and_in _ _ a b))

pub next_is : (t : List ℕ) (p q : ℕ) → Is (next t p q) →
    Is (later t p q) × ((z : ℕ) → z < length t → Is (later t p z) → Is (later t z q) → ⊥)
unfolding next
next_is t p q h = (and_l _ _ h, λ z l a b. not_is _ (and_r _ _ h) (some_in _ _ z l (and_in _ _ a b)))

module _ (t : List ℕ) (T : Tree t) where
  -- a row between an ancestor and its descendant is a descendant of that ancestor
  pub between : (z a b : ℕ) → z < a → a < b → b < length t → post t b < post t z → post t a < post t z
  between z a b l m k h = go (ltb (post t a) (post t z)) refl
    where
      go : (e : Bool) → ltb (post t a) (post t z) ≡ e → post t a < post t z
      go true e = ltb-true _ _ e
      go false e =
          let w = ltb-false (post t a) (post t z) e in
          absurd (T.nested z a b l m k h (omega (arith, T.once z a l (omega arith))))

  pub below-between : (z a b : ℕ) → z < a → a < b → b < length t → Is (below t z b) → Is (below t z a)
  below-between z a b l m k h = below_in t z a l (between z a b l m k (below_is t z b h).1)

  pub level-below : (p q : ℕ) → p < length t → q < length t → Is (below t p q) → level t p < level t q
  unfolding level
  level-below p q lp lq h = go (ltb (level t p) (level t q)) refl
    where
      n : ℕ
      n = length t

      hb : (p < q) × (post t q < post t p)
      hb = below_is t p q h

      sub : (k : ℕ) → k < n → Is (below t k p) → Is (below t k q)
      sub k l e = let w = below_is t k p e in below_in t k q (omega (arith, hb)) (omega (arith, hb))

      go : (e : Bool) → ltb (level t p) (level t q) ≡ e → level t p < level t q
      go true e = ltb-true _ _ e
      go false e =
          let w : level t q ≤ level t p = ltb-false _ _ e in
          let s = below_is t p p (count_eq n (λ z. below t z p) (λ z. below t z q) sub w p lp h) in
          omega arith

  pub level-child : (p q : ℕ) → p < length t → q < length t → Is (child t p q) → level t q ≡ level t p + 1
  unfolding level
  level-child p q lp lq h =
      let up = level-below p q lp lq (child_is t p q h).0 in
      omega (arith, count_le n (λ z. below t z q) (λ z. below t z p or eqb z p) sub, count_or n (λ z. below t z p) (λ z. eqb z p), same-one n p)
    where
      n : ℕ
      n = length t

      sub : (k : ℕ) → k < n → Is (below t k q) → Is (below t k p or eqb k p)
      sub k l e = go (ltb k p) refl
        where
          w : (k < q) × (post t q < post t k)
          w = below_is t k q e

          v : (p < q) × (post t q < post t p)
          v = below_is t p q (child_is t p q h).0

          more : ltb k p ≡ false → (b : Bool) → eqb k p ≡ b → Is (below t k p or eqb k p)
          more f true g = or_r _ _ g
          more f false g =
              let m : p < k = omega (arith, ltb-false k p f, eqb-false k p g) in
              absurd ((child_is t p q h).1 k l (below-between p k q m w.0 lq (child_is t p q h).0) e)

          go : (b : Bool) → ltb k p ≡ b → Is (below t k p or eqb k p)
          go true f = or_l _ _ (below-between k p q (ltb-true k p f) v.0 lq e)
          go false f = more f (eqb k p) refl

pub child_by_level : (t : List ℕ) → Tree t → (p q : ℕ) → p < length t → q < length t → Is (below t p q) → level t q ≡ level t p + 1 → Is (child t p q)
child_by_level t T p q lp lq h e = child_in t p q h (λ z l a b. omega (arith, level-below t T p z lp l a, level-below t T z q l lq b))

-- values below n, no two equal, at the numbers below n: as many lie below m as there are numbers below m
module _ (n : ℕ) (f : ℕ → ℕ) (small : (k : ℕ) → k < n → f k < n) (apart : (j k : ℕ) → j < k → k < n → f j ≡ f k → ⊥) where
  hits : (m j : ℕ) → j ≤ n → count j (λ k. eqb (f k) m) ≤ 1
  unfolding count
  hits m zero h = omega arith
  hits m (suc j) h = go (hits m j (omega arith)) (eqb (f j) m) refl
    where
      go : count j (λ k. eqb (f k) m) ≤ 1 → (b : Bool) → eqb (f j) m ≡ b → one (eqb (f j) m) + count j (λ k. eqb (f k) m) ≤ 1
      go ih true e =
          rw e (omega (arith, count_none j (λ k. eqb (f k) m) (λ k l. ne_eqb (f k) m (λ q. apart k j l h (q ∙ sym (eqb-true (f j) m e))))))
      go ih false e = rw e (omega arith)

  under : ℕ → ℕ
  under m = count n (λ k. ltb (f k) m)

  under_step : (m : ℕ) → under (suc m) ≤ under m + 1
  unfolding under
  under_step m =
      omega (
        arith,
        hits m n (omega arith),
        count_split n (λ k. ltb (f k) (suc m)) (λ k. ltb (f k) m) (λ k. eqb (f k) m)
            (λ k l. one_of (ltb (f k) (suc m)) (ltb (f k) m) (eqb (f k) m)
            (λ e. lt-ltb (f k) (suc m) (omega (arith, ltb-true (f k) m e)))
            (λ e. lt-ltb (f k) (suc m) (omega (arith, eqb-true (f k) m e)))
            (λ e g. omega (arith, ltb-true (f k) m e, eqb-true (f k) m g))
            (λ e. ⊎_elim (λ q. inl (lt-ltb (f k) m q)) (λ q. inr (eq-eqb (f k) m q)) (below_suc (ltb-true (f k) (suc m) e)))),
      )

  under_most : (m : ℕ) → under m ≤ m
  unfolding under
  under_most zero = omega (arith, count_none n (λ k. ltb (f k) 0) (λ k l. le-ltb (f k) 0 (omega arith)))
  under_most (suc m) = omega (arith, under_step m, under_most m)

  under_far : (m d : ℕ) → under (m + d) ≤ under m + d
  under_far m zero = rw (let e : m + 0 ≡ m = omega arith in e) (omega arith)
  under_far m (suc d) = rw (let e : m + suc d ≡ suc (m + d) = omega arith in e) (omega (arith, under_step (m + d), under_far m d))

  under_all : under n ≡ n
  unfolding under
  under_all = count-every n (λ k. ltb (f k) n) (λ k l. lt-ltb (f k) n (small k l))

  pub under_is : (m : ℕ) → m ≤ n → count n (λ k. ltb (f k) m) ≡ m
  unfolding under
  under_is m h =
      let e : m + (n - m) ≡ n = omega arith in
      let w : under n ≤ under m + (n - m) = rw e at (under_far m (n - m)) in
      omega (arith, under_all, under_most m)

module _ (t : List ℕ) (T : Tree t) where
  -- a row's post number, its level, its row number and the rows below it
  pub post_is : (r : ℕ) → r < length t → post t r + level t r ≡ r + count (length t) (λ q. below t r q)
  unfolding level below
  post_is r lr =
      omega (
        arith,
        under_is n (λ q. q) (λ k l. l) (λ j k l m e. omega arith) r (omega arith),
        under_is n (post t) T.below T.once (post t r) (omega (arith, T.below r lr)),
        count_split n (λ q. ltb q r) (λ q. below t q r) (λ q. ltb q r & ltb (post t q) (post t r)) left,
        count_split n (λ q. ltb (post t q) (post t r)) (λ q. ltb q r & ltb (post t q) (post t r)) (λ q. below t r q) right,
      )
    where
      n : ℕ
      n = length t

      left : (q : ℕ) → q < n → one (ltb q r) ≡ one (below t q r) + one (ltb q r & ltb (post t q) (post t r))
      left q l = one_of _ _ _ (λ e. and_l _ _ e) (λ e. and_l _ _ e)
          (λ e f. omega (arith, ltb-true (post t r) (post t q) (and_r _ _ e), ltb-true (post t q) (post t r) (and_r _ _ f)))
          (λ e. go e (ltb (post t q) (post t r)) refl)
        where
          go : Is (ltb q r) → (b : Bool) → ltb (post t q) (post t r) ≡ b → Is (below t q r) ⊎ Is (ltb q r & ltb (post t q) (post t r))
          go e true f = inr (and_in _ _ e f)
          go e false f = inl (and_in _ _ e (lt-ltb (post t r) (post t q) (omega (arith, ltb-false (post t q) (post t r) f, T.once q r (ltb-true q r e) lr))))

      right : (q : ℕ) → q < n → one (ltb (post t q) (post t r)) ≡ one (ltb q r & ltb (post t q) (post t r)) + one (below t r q)
      right q l = one_of _ _ _ (λ e. and_r _ _ e) (λ e. and_r _ _ e)
          (λ e f. omega (arith, ltb-true q r (and_l _ _ e), ltb-true r q (and_l _ _ f)))
          (λ e. go e (ltb q r) refl (ltb r q) refl)
        where
          go : Is (ltb (post t q) (post t r)) → (b : Bool) → ltb q r ≡ b → (c : Bool) → ltb r q ≡ c → Is (ltb q r & ltb (post t q) (post t r)) ⊎ Is (below t r q)
          go e true f c g = inl (and_in _ _ f e)
          go e false f true g = inr (and_in _ _ g e)
          go e false f false g =
              let s : q ≡ r = omega (arith, ltb-false q r f, ltb-false r q g) in
              absurd (omega (arith, ltb-true (post t q) (post t r) e, ap (post t) s))

module _ (t : List ℕ) (T : Tree t) where
  -- the nearest ancestor is the parent
  pub nearest_child : (p q : ℕ) → q < length t → Is (below t p q) → ((z : ℕ) → p < z → z < q → Is (below t z q) → ⊥) → Is (child t p q)
  nearest_child p q l h near =
      child_in t p q h (λ z m a b. near z (below_is t p z a).0 (below_is t z q b).0 b)

  -- a row has one parent
  pub one_parent : (p r q : ℕ) → p < length t → r < length t → q < length t → Is (child t p q) → Is (child t r q) → p ≡ r
  one_parent p r q lp lr lq h k = go (ltb p r) refl (ltb r p) refl
    where
      go : (b : Bool) → ltb p r ≡ b → (c : Bool) → ltb r p ≡ c → p ≡ r
      go true e c f =
          let w = (child_is t r q k).0 in
          absurd ((child_is t p q h).1 r lr (below-between t T p r q (ltb-true p r e) (below_is t r q w).0 lq (child_is t p q h).0) w)
      go false e true f =
          let w = (child_is t p q h).0 in
          absurd ((child_is t r q k).1 p lp (below-between t T r p q (ltb-true r p f) (below_is t p q w).0 lq (child_is t r q k).0) w)
      go false e false f = omega (arith, ltb-false p r e, ltb-false r p f)
