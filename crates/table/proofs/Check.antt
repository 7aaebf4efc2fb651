-- Why the table check is right: the size, the post numbers, the tree by the ends of its rows, and the answer. Assumes nothing.
use Rattle.std.proofs.Common.{◌≡◌, refl, sym, ap, ◌∙◌, Bool, true, false, ⊎_elim, List, Ok, Err, ℕ, suc, ◌+◌, ◌-◌, ◌≤◌, ◌<◌, ltb, eqb, length, get_or, set, get_or-set_same, get_or-set_other, add-one, arith, ltb-true, eqb-true, lt-ltb, eq-eqb}
use Rattle.std.proofs.lemmas.Bool.{cases_lt, false≢true, eqb-false}
use Rattle.meaning.specs.Tests.{Is, ◌&◌, ◌or◌, non, every, some}
use Rattle.meaning.specs.Table.{post, is_sized, is_numbered, is_nested, is_tree}
use Rattle.meaning.specs.Entries.{lowest, table_grounds, table_says, table_answer}
use Rattle.meaning.specs.declared.Refusal.TheVariants.{Columns, PostNumbers, ThreeRows}
use Rattle.theory.specs.Tests.{and_l, and_r, and_in, not_is, is_not, not_so, below_suc, every-at, every_in, same_test, some_is, some_in, count_same}
use Rattle.theory.specs.Trees.{Tree, tree_is, tree_in, under_is}
use Rattle.table.specs.Rows.{is_once, Stays}
use Rattle.table.proofs.Stack.{Open, each_now, taken_now, above}

-- ---- equal columns of 1 to 1,024 rows

pub sized_is : (t labels : List ℕ) → Is (is_sized t labels) → (0 < length t) × (length t ≤ 1024)
unfolding is_sized
sized_is t labels h =
    let l = ltb-true (length t) 1025 (and_r _ _ (and_r _ _ h)) in
    (ltb-true 0 (length t) (and_l _ _ (and_r _ _ h)), omega arith)

-- ---- no post number twice

-- of each number whether one of the first i rows has it
pub Seen : List ℕ → ℕ → List Bool → Type 0
Seen t i seen = (x : ℕ) → x < 1024 → get_or seen x false ≡ some i (λ q. eqb (post t q) x)

pub Once : List ℕ → ℕ → Type 0
Once t i = Is (every i (λ r. ltb (post t r) (length t) & every r (λ q. non (eqb (post t q) (post t r)))))

module _ (t : List ℕ) where
  pub once_none : Once t 0
  unfolding Once every
  once_none = refl

  pub once_more : (i : ℕ) → Once t i → post t i < length t → some i (λ q. eqb (post t q) (post t i)) ≡ false → Once t (i + 1)
  unfolding Once every
  once_more i h l e =
      rw add-one
      (and_in _ _ (and_in _ _ (lt-ltb _ _ l) (every_in i _ (λ q m. is_not _ (λ f. false≢true (sym e ∙ some_in i (λ q. eqb (post t q) (post t i)) q m f))))) h)

  pub once-all : (i : ℕ) → length t ≤ i → i ≤ length t → Once t i → true ≡ is_once t
  unfolding Once is_once
  once-all i h k o =
      let e : length t ≡ i = omega arith in
      sym (ap (λ (j : ℕ). every j (λ r. ltb (post t r) (length t) & every r (λ q. non (eqb (post t q) (post t r))))) e ∙ o)

  pub once_large : (i : ℕ) → i < length t → length t ≤ post t i → false ≡ is_once t
  unfolding is_once
  once_large i l h = sym (not_so _ (λ e. omega (arith, ltb-true (post t i) (length t) (and_l _ _ (every-at (length t) _ e i l)))))

  pub once-again : (i : ℕ) → i < length t → some i (λ q. eqb (post t q) (post t i)) ≡ true → false ≡ is_once t
  unfolding is_once
  once-again i l h =
      let w = some_is i _ h in
      sym (not_so _ (λ e. not_is _ (every-at i _ (and_r _ _ (every-at (length t) _ e i l)) w.0 w.1) w.2))

  pub seen_none : (seen : List Bool) → ((x : ℕ) → x < 1024 → get_or seen x false ≡ false) → Seen t 0 seen
  unfolding Seen some
  seen_none seen h = h

  pub seen_at : (i : ℕ) (seen : List Bool) → Seen t i seen → (x : ℕ) → x < 1024 → get_or seen x false ≡ some i (λ q. eqb (post t q) x)
  unfolding Seen
  seen_at i seen h = h

  pub seen_more : (i : ℕ) (seen : List Bool) → Seen t i seen → post t i < length seen → Seen t (i + 1) (set seen (post t i) true)
  unfolding Seen some ◌or◌
  seen_more i seen h l x m = rw add-one (go (eqb (post t i) x) refl)
    where
      go : (b : Bool) → eqb (post t i) x ≡ b → get_or (set seen (post t i) true) x false ≡ (b or some i (λ q. eqb (post t q) x))
      go true e = rw (← eqb-true (post t i) x e) (get_or-set_same seen (post t i) true false l)
      go false e = get_or-set_other seen (post t i) x true false (λ f. eqb-false (post t i) x e (sym f)) ∙ h x m

  -- what a row adds, x being its post number
  pub seen_step : (i x : ℕ) (seen : List Bool) → Once t i → Seen t i seen → x ≡ post t i → x < length t → length t ≤ 1024 → length seen ≡ 1024 →
      get_or seen x false ≡ false → Once t (i + 1) × Seen t (i + 1) (set seen x true)
  seen_step i x seen o h e l few size f =
      let g : get_or seen (post t i) false ≡ false = ap (λ (y : ℕ). get_or seen y false) (sym e) ∙ f in
      (once_more i o (omega arith) (sym (seen_at i seen h (post t i) (omega arith)) ∙ g), rw e (seen_more i seen h (omega arith)))

  pub seen_again : (i x : ℕ) (seen : List Bool) → Seen t i seen → x ≡ post t i → x < length t → length t ≤ 1024 → i < length t →
      get_or seen x false ≡ true → false ≡ is_once t
  seen_again i x seen h e l few m f =
      let g : get_or seen (post t i) false ≡ true = ap (λ (y : ℕ). get_or seen y false) (sym e) ∙ f in
      once-again i m (sym (seen_at i seen h (post t i) (omega arith)) ∙ g)

-- ---- a tree: the ends of the rows

-- each number below n is the post number of a row
onto : (t : List ℕ) → Tree t → (y : ℕ) → y < length t → (r : ℕ) × (r < length t) × (post t r ≡ y)
onto t T y l = go (some (length t) (λ k. eqb (post t k) y)) refl
  where
    go : (b : Bool) → some (length t) (λ k. eqb (post t k) y) ≡ b → (r : ℕ) × (r < length t) × (post t r ≡ y)
    go true e = let w = some_is _ _ e in (w.0, w.1, eqb-true _ _ w.2)
    go false e =
        let same = count_same (length t) (λ k. ltb (post t k) (suc y)) (λ k. ltb (post t k) y) (λ k m. same_test _ _ (less k m) (λ f. lt-ltb (post t k) (suc y) (omega (arith, ltb-true (post t k) y f)))) in
        absurd (omega (arith, same, under_is (length t) (post t) T.below T.once (suc y) (omega arith), under_is (length t) (post t) T.below T.once y (omega arith)))
      where
        less : (k : ℕ) → k < length t → Is (ltb (post t k) (suc y)) → Is (ltb (post t k) y)
        less k m f =
            ⊎_elim
            (λ u. lt-ltb _ _ u)
            (λ u. absurd (false≢true (sym e ∙ some_in (length t) (λ k. eqb (post t k) y) k m (eq-eqb _ _ u))))
            (below_suc {k = post t k} {n = y} (ltb-true _ _ f))

pub tree_so : (t : List ℕ) → Tree t → true ≡ is_tree t
tree_so t T = sym (tree_in t T)

tree_not : (t : List ℕ) → (Tree t → ⊥) → false ≡ is_tree t
tree_not t h = sym (not_so _ (λ e. h (tree_is t e)))

-- row 0 does not end at the last row
pub root_not : (t : List ℕ) (x : ℕ) → x ≡ post t 0 → (x + 1 ≡ length t → ⊥) → false ≡ is_tree t
root_not t x e h = tree_not t (λ T. h (omega (arith, T.root, e)))

module _ (t ends : List ℕ) (i count stay : ℕ) (O : Open t i ends count) (S : Stays ends count i stay) (l : i < length t) where
  -- a row that ends before itself has the post number of a closed row
  pub end_before : post t i + stay < i → false ≡ is_tree t
  end_before h = let w = taken_now t ends i count stay O S (post t i) h in tree_not t (λ T. T.once w.0 i w.1 l w.2)

  -- of a row that ends behind its parent, the parent has the same post number, or they and the row that is closed next break the rule
  pub end-behind : get_or ends (stay - 1) 0 < post t i + stay → false ≡ is_tree t
  end-behind h = tree_not t (λ T. ⊎_elim (λ u. broken T u (onto t T (i - stay) (omega arith))) (λ u. T.once p.0 i p.1 l (omega (arith, u, p.2, h, S.root))) (cases_lt (post t p.0) (post t i)))
    where
      p : (r : ℕ) × (r < i) × (post t r + (stay - 1) ≡ get_or ends (stay - 1) 0)
      p = O.rows (stay - 1) (omega (arith, S.root, S.most))

      early : (r : ℕ) → r < i → post t r ≡ i - stay → ⊥
      early r m e =
          ⊎_elim
          (λ u. omega (arith, u, e, S.most, O.most))
          (λ w. omega (arith, e, w.1, w.2, above t ends i count stay O S w.0 w.1, S.last, S.most, O.most))
          (each_now t ends i count stay O S r m)

      broken : Tree t → post t p.0 < post t i → (r : ℕ) × (r < length t) × (post t r ≡ i - stay) → ⊥
      broken T u w =
          ⊎_elim
          (λ m. early w.0 m w.2)
          (λ m. ⊎_elim
          (λ n. T.nested p.0 i w.0 p.1 n w.1 (omega (arith, w.2, p.2, S.last, S.root, S.most, O.most)) u)
          (λ n. omega (arith, ap (post t) (let e : w.0 ≡ i = omega arith in e), w.2, u, p.2, S.last, S.root, S.most, O.most))
          (cases_lt i w.0))
          (cases_lt w.0 i)

-- a tree keeps both rules, and what is no tree breaks the second where it keeps the first
pub tree_both : (t : List ℕ) → true ≡ is_tree t → (true ≡ is_numbered t) × (true ≡ is_nested t)
unfolding is_tree
tree_both t h = (sym (and_l _ _ (sym h)), sym (and_r _ _ (sym h)))

pub not_nested : (t : List ℕ) → false ≡ is_tree t → true ≡ is_numbered t → false ≡ is_nested t
unfolding is_tree ◌&◌
not_nested t h k = h ∙ rw (← k)

-- ---- the answer of the check

module _ (t labels : List ℕ) where
  pub refused_1 : false ≡ is_sized t labels → Err Columns ≡ table_answer t labels
  unfolding table_answer table_says lowest table_grounds non
  refused_1 h = rw (← h)

  pub refused_2 : true ≡ is_sized t labels → false ≡ is_numbered t → Err PostNumbers ≡ table_answer t labels
  unfolding table_answer table_says lowest table_grounds non
  refused_2 h k = rw (← h, ← k)

  pub refused_3 : true ≡ is_sized t labels → true ≡ is_numbered t → false ≡ is_nested t → Err ThreeRows ≡ table_answer t labels
  unfolding table_answer table_says lowest table_grounds non
  refused_3 h k m = rw (← h, ← k, ← m)

  pub accepted : true ≡ is_sized t labels → true ≡ is_numbered t → true ≡ is_nested t → Ok tt ≡ table_answer t labels
  unfolding table_answer table_says lowest table_grounds non
  accepted h k m = rw (← h, ← k, ← m)
