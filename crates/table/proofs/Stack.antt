-- The stack of ends: what it holds of the rows passed, and what the next row changes. A row is open while rows below it may come,
-- and closed once its end is passed. Assumes nothing.
use Rattle.std.proofs.Common.{◌≡◌, refl, sym, ap, ◌∙◌, ◌⊎◌, inl, inr, ⊎_elim, List, ℕ, suc, ◌+◌, ◌-◌, ◌≤◌, ◌<◌, length, get_or, set, get_or-set_other, arith}
use Rattle.std.proofs.lemmas.Bool.{cases_lt}
use Rattle.std.proofs.lemmas.Grind.{get_or-set_at}
use Rattle.meaning.specs.Table.{post}
use Rattle.theory.specs.Tests.{below_suc}
use Rattle.theory.specs.Trees.{Tree}
use Rattle.table.specs.Rows.{Stays}

-- the rows from a place on end before row i
abbrev pub Ended : List ℕ → ℕ → ℕ → ℕ → Type 0
Ended ends count i stay = (k : ℕ) → stay ≤ k → k < count → get_or ends k 0 < i

-- of the rows below i: the first `count` places of `ends` hold the ends of the open rows, by level; the others are closed, and have
-- the i - count smallest post numbers
pub record Open (t : List ℕ) (i : ℕ) (ends : List ℕ) (count : ℕ) : Type 0 where
  pub root : 0 < count
  pub most : count ≤ i
  pub first : suc (get_or ends 0 0) ≡ length t
  pub rows : (k : ℕ) → k < count → (r : ℕ) × (r < i) × (post t r + k ≡ get_or ends k 0)
  pub falling : (j k : ℕ) → j < k → k < count → get_or ends k 0 ≤ get_or ends j 0
  pub later : (k : ℕ) → k < count → i ≤ suc (get_or ends k 0)
  pub each : (r : ℕ) → r < i → (post t r + count < i) ⊎ ((k : ℕ) × (k < count) × (post t r + k ≡ get_or ends k 0))
  pub taken : (y : ℕ) → y + count < i → (r : ℕ) × (r < i) × (post t r ≡ y)
  pub passed : (a b : ℕ) → a < b → b < i → post t a < post t b → post t a + count < i
  pub small : (r : ℕ) → r < i → post t r < length t
  pub once : (a b : ℕ) → a < b → b < i → post t a ≡ post t b → ⊥
  pub nested : (a b c : ℕ) → a < b → b < c → c < i → post t c < post t a → post t a < post t b → ⊥

module _ (t ends : List ℕ) (i count stay : ℕ) (O : Open t i ends count) (S : Stays ends count i stay) where
  -- what row i closes
  closes : (k : ℕ) → stay ≤ k → k < count → suc (get_or ends k 0) ≡ i
  closes k u l = omega (arith, S.ended k u l, O.later k l)

  pub each_now : (r : ℕ) → r < i → (post t r + stay < i) ⊎ ((k : ℕ) × (k < stay) × (post t r + k ≡ get_or ends k 0))
  each_now r l =
      ⊎_elim
      (λ h. inl (omega (arith, h, S.most)))
      (λ w. ⊎_elim (λ u. inr (w.0, u, w.2)) (λ u. inl (omega (arith, closes w.0 u w.1, w.2, u))) (cases_lt w.0 stay))
      (O.each r l)

  pub taken_now : (y : ℕ) → y + stay < i → (r : ℕ) × (r < i) × (post t r ≡ y)
  taken_now y h = ⊎_elim (λ m. O.taken y m) (λ m. closing (i - 1 - y) (omega (arith, S.root)) (omega (arith, S.root)) (omega (arith, S.root))) (cases_lt (y + count) i)
    where
      closing : (k : ℕ) → stay ≤ k → k < count → suc (y + k) ≡ i → (r : ℕ) × (r < i) × (post t r ≡ y)
      closing k u l e = let w = O.rows k l in (w.0, w.1, omega (arith, w.2, closes k u l, e))

  -- the least end of those that stay
  pub above : (k : ℕ) → k < stay → get_or ends (stay - 1) 0 ≤ get_or ends k 0
  above k l =
      ⊎_elim
      (λ m. O.falling k (stay - 1) m (omega (arith, S.most, l)))
      (λ (m : stay - 1 ≤ k). let e : k ≡ stay - 1 = omega arith in rw e (omega arith))
      (cases_lt k (stay - 1))

  module _ (end : ℕ) (is : end ≡ post t i + stay) (low : i ≤ end) (top : end ≤ get_or ends (stay - 1) 0) (room : stay < length ends) where
    new : (k : ℕ) → k ≡ stay → get_or (set ends stay end) k 0 ≡ end
    new k e = get_or-set_at ends stay k end 0 e room

    old : (k : ℕ) → k < stay → get_or (set ends stay end) k 0 ≡ get_or ends k 0
    old k l = get_or-set_other ends stay k end 0 (λ e. omega arith)

    -- an open row has a larger post number, a closed one a smaller
    over : (r k : ℕ) → k < stay → post t r + k ≡ get_or ends k 0 → post t i < post t r
    over r k l e = omega (arith, above k l, top, is, e, l)

    pub open_more : Open t (i + 1) (set ends stay end) (stay + 1)
    open_more = record {
      root = omega arith;
      most = omega (arith, O.most, S.most);
      first = omega (arith, old 0 S.root, O.first);
      rows = λ k l.
          ⊎_elim
          (λ m. let w = O.rows k (omega (arith, S.most, m)) in (w.0, omega (arith, w.1), omega (arith, old k m, w.2)))
          (λ m. (i, omega arith, omega (arith, new k m, is, m)))
          (below_suc {k = k} {n = stay} (omega arith));
      falling = λ j k m l.
          ⊎_elim
          (λ u. omega (arith, old k u, old j (omega arith), O.falling j k m (omega (arith, S.most, u))))
          (λ u. omega (arith, new k u, old j (omega arith), above j (omega arith), top))
          (below_suc {k = k} {n = stay} (omega arith));
      later = λ k l.
          ⊎_elim (λ u. omega (arith, old k u, above k u, top, low)) (λ u. omega (arith, new k u, low)) (below_suc {k = k} {n = stay} (omega arith));
      each = λ r l.
          ⊎_elim
          (λ m. ⊎_elim (λ h. inl (omega (arith, h))) (λ w. inr (w.0, omega (arith, w.1), w.2 ∙ sym (old w.0 w.1))) (each_now r m))
          (λ m. inr (stay, omega arith, omega (arith, new stay refl, is, ap (post t) m)))
          (below_suc {k = r} {n = i} (omega arith));
      taken = λ y h. let w = taken_now y (omega arith) in (w.0, omega (arith, w.1), w.2);
      passed = λ a b l m h.
          ⊎_elim
          (λ u. omega (arith, O.passed a b l u h, S.most))
          (λ u. let f : post t a < post t i = rw u at h in ⊎_elim (λ g. omega (arith, g)) (λ w. absurd (omega (arith, f, over a w.0 w.1 w.2))) (each_now a (omega arith)))
          (below_suc {k = b} {n = i} (omega arith));
      small = λ r l. ⊎_elim (λ m. O.small r m) (λ m. omega (arith, ap (post t) m, above 0 S.root, top, is, O.first)) (below_suc {k = r} {n = i} (omega arith));
      once = λ a b l m h.
          ⊎_elim
          (λ u. O.once a b l u h)
          (λ u. let f : post t a ≡ post t i = h ∙ ap (post t) u in ⊎_elim (λ g. omega (arith, g, f, low, is)) (λ w. omega (arith, f, over a w.0 w.1 w.2)) (each_now a (omega arith)))
          (below_suc {k = b} {n = i} (omega arith));
      nested = λ a b c l m k u w.
          ⊎_elim
          (λ v. O.nested a b c l m v u w)
          (λ v. omega (arith, ap (post t) v, O.passed a b l (omega arith) w, S.most, low, is))
          (below_suc {k = c} {n = i} (omega arith));
    }

-- a table whose rows have all been passed is a tree
pub open_all : (t ends : List ℕ) (i count : ℕ) → Open t i ends count → length t ≤ i → suc (post t 0) ≡ length t → Tree t
open_all t ends i count O h e = record {
  below = λ r l. O.small r (omega arith);
  once = λ q r l m. O.once q r l (omega arith);
  root = e;
  nested = λ a b c l m k. O.nested a b c l m (omega arith);
}
