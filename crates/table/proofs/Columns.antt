-- Why the columns of levels, parents and keys are right. Assumes nothing.
use Rattle.std.proofs.Common.{◌≡◌, refl, sym, ap, ◌∙◌, subst, ◌⊎◌, inl, inr, ⊎_elim, List, ℕ, zero, suc, ◌+◌, ◌*◌, ◌≤◌, ◌<◌, length, get_or, set, length-set, get_or-set_other, ext_get_or, arith}
use Rattle.std.proofs.lemmas.Bool.{cases_lt}
use Rattle.std.proofs.lemmas.Grind.{get_or-set_at}
use Rattle.meaning.specs.Tests.{Is}
use Rattle.meaning.specs.Table.{post, below, child, level}
use Rattle.meaning.specs.Axes.{key}
use Rattle.theory.specs.Tests.{not_so, below_suc, count_none, count_most}
use Rattle.theory.specs.Trees.{Tree, below_is, below_in, below-between, child_is, nearest_child}
use Rattle.table.specs.Rows.{Filled, LevelOf}

-- ---- columns that are filled

module _ (from : ℕ) (Fits : ℕ → ℕ → Type 0) where
  pub filled_none : (l : List ℕ) → Filled from from Fits l l
  filled_none l = record { size = refl; filled = λ r u w. absurd (omega arith); others = λ r u. refl }

  pub filled_more : (i v : ℕ) (before after : List ℕ) → Filled from i Fits before after → from ≤ i → i < length before → Fits i v → Filled from (i + 1) Fits before (set after i v)
  filled_more i v before after F f l h = record {
    size = length-set after i v ∙ F.size;
    filled = λ r u w.
        ⊎_elim
        (λ m. subst (Fits r) (sym (other r (λ e. omega arith))) (F.filled r u m))
        (λ e. subst (Fits r) (sym (get_or-set_at after i r v 0 e (omega (arith, F.size)))) (subst (λ (x : ℕ). Fits x v) (sym e) h))
        (below_suc {k = r} {n = i} (omega arith));
    others = λ r u.
        ⊎_elim (λ m. other r (λ e. omega arith) ∙ F.others r (inl m)) (λ m. other r (λ e. omega arith) ∙ F.others r (inr (omega arith))) u;
  }
    where
      other : (r : ℕ) → (r ≡ i → ⊥) → get_or (set after i v) r 0 ≡ get_or after r 0
      other r ne = get_or-set_other after i r v 0 ne

  pub filled-end : (i n : ℕ) (before after : List ℕ) → i ≤ n → n ≤ i → Filled from i Fits before after → Filled from n Fits before after
  filled-end i n before after h k F = let e : i ≡ n = omega arith in subst (λ (j : ℕ). Filled from j Fits before after) e F

  -- where at most one number fits a row, the filled column is determined
  pub filled-same : (n : ℕ) (before x y : List ℕ) → ((r u w : ℕ) → r < n → Fits r u → Fits r w → u ≡ w) → Filled from n Fits before x → Filled from n Fits before y → x ≡ y
  filled-same n before x y one X Y =
      ext_get_or 0 x y (X.size ∙ sym Y.size)
      (λ r l. ⊎_elim
      (λ m. X.others r (inl m) ∙ sym (Y.others r (inl m)))
      (λ m. ⊎_elim (λ k. one r _ _ k (X.filled r m k) (Y.filled r m k)) (λ k. X.others r (inr k) ∙ sym (Y.others r (inr k))) (cases_lt r n))
      (cases_lt r from))

-- the first place was written before, the others then
pub filled_first : (Fits : ℕ → ℕ → Type 0) (n v : ℕ) (before after : List ℕ) → 0 < n → Fits 0 (get_or after 0 0) → Filled 1 n Fits (set before 0 v) after → Filled 0 n Fits before after
filled_first Fits n v before after l h F = record {
  size = F.size ∙ length-set before 0 v;
  filled = λ r u w. ⊎_elim (λ m. F.filled r m w) (λ m. let e : r ≡ 0 = omega arith in subst (λ (k : ℕ). Fits k (get_or after k 0)) (sym e) h) (cases_lt 0 r);
  others = λ r u. ⊎_elim (λ m. absurd (omega arith)) (λ m. F.others r (inr m) ∙ get_or-set_other before 0 r v 0 (λ e. omega arith)) u;
}

-- ---- the parent of row i, sought among the rows before it

-- the rows behind p and before i have smaller post numbers than row i
abbrev pub Passed : List ℕ → ℕ → ℕ → Type 0
Passed t i p = (z : ℕ) → p < z → z < i → post t z < post t i

module _ (t : List ℕ) (T : Tree t) (i p : ℕ) (low : p < i) (high : i < length t) (N : Passed t i p) where
  -- no post number is larger than that of row 0
  pub not_root : post t p < post t i → 0 < p
  not_root h = ⊎_elim (λ m. m) (λ m. let e : p ≡ 0 = omega arith in absurd (omega (arith, T.root, T.below i high, ap (post t) e))) (cases_lt 0 p)

  -- nor do the rows between p and its parent come into question: their post numbers are smaller than that of p
  pub passed_on : (v : ℕ) → Is (child t v p) → post t p < post t i → Passed t i v
  passed_on v C h z l m = ⊎_elim (λ a. ⊎_elim (λ b. inner a b) (λ b. omega arith) (cases_lt (post t p) (post t z))) (λ a. outer (cases_lt p z) a) (cases_lt z p)
    where
      inner : z < p → post t p < post t z → post t z < post t i
      inner a b = absurd ((child_is t v p C).1 z (omega arith) (below-between t T v z p l a (omega arith) (child_is t v p C).0) (below_in t z p a b))

      outer : (p < z) ⊎ (z ≤ p) → p ≤ z → post t z < post t i
      outer (inl b) a = N z b m
      outer (inr b) a = let e : z ≡ p = omega arith in rw e h

  pub parent_found : post t i ≤ post t p → Is (child t p i)
  parent_found h =
      let ne : post t p ≡ post t i → ⊥ = T.once p i low high in
      nearest_child t T p i high (below_in t p i low (omega (arith, h, ne))) (λ z l m b. omega (arith, N z l m, (below_is t z i b).1))

-- ---- levels

-- row 0 has no ancestors
pub level_root : (t : List ℕ) → level t 0 ≡ 0
unfolding level
level_root t = count_none (length t) (λ z. below t z 0) (λ k l. not_so _ (λ h. omega (arith, (below_is t k 0 h).0)))

-- the levels of the rows before row n, with row 0
pub level-at : (t : List ℕ) (n : ℕ) (before after : List ℕ) → Filled 1 n (LevelOf t) before after → get_or after 0 0 ≡ level t 0 → (p : ℕ) → p < n → get_or after p 0 ≡ level t p
level-at t n before after F z p l =
    ⊎_elim (λ m. F.filled p m l) (λ m. let e : p ≡ 0 = omega arith in ap (λ (k : ℕ). get_or after k 0) e ∙ (z ∙ ap (level t) (sym e))) (cases_lt 0 p)

-- ---- keys

module _ (t : List ℕ) (r : ℕ) where
  pub key_pre : (s : ℕ) → s < 2 → r ≡ key s t r
  unfolding key
  key_pre zero l = refl
  key_pre (suc zero) l = refl
  key_pre (suc (suc s)) l = absurd (omega arith)

  pub key-level : (s x : ℕ) → 2 < s → x ≡ level t r → x * 1024 + r ≡ key s t r
  unfolding key
  key-level zero x l e = absurd (omega arith)
  key-level (suc zero) x l e = absurd (omega arith)
  key-level (suc (suc zero)) x l e = absurd (omega arith)
  key-level (suc (suc (suc s))) x l e = rw e

pub level_most : (t : List ℕ) (r : ℕ) → level t r ≤ length t
unfolding level
level_most t r = count_most (length t) (λ z. below t z r)
