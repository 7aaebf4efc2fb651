-- What callers know of an accepted table and of its columns of levels, parents and keys: each axis by these columns, and the
-- rows below a row as the rows after it. Assumes nothing.
use Rattle.std.proofs.Common.{◌≡◌, refl, sym, ◌∙◌, subst, Bool, true, false, inl, inr, ⊎_elim, List, Ok, Err, ℕ, ◌+◌, ◌≤◌, ◌<◌, ltb, eqb, length, get_or, arith, ltb-true, eqb-true, lt-ltb, eq-eqb}
use Rattle.std.proofs.lemmas.Bool.{cases_lt, false≢true}
use Rattle.meaning.specs.Tests.{Is, ◌&◌, non, one, count}
use Rattle.meaning.specs.Table.{post, is_sized, is_numbered, is_nested, is_tree, below, child, later, next, level}
use Rattle.meaning.specs.Entries.{table_answer}
use Rattle.meaning.specs.declared.Refusal.{Refusal}
use Rattle.theory.specs.Tests.{and_l, and_r, and_in, not_is, is_not, same_test, some_is, count_le, count_split, one_of}
use Rattle.theory.specs.Trees.{Tree, below_is, below_in, child_is, child_in, later_is, later_in, next_is, below-between, level-child, under_is, post_is, one_parent}
use Rattle.table.specs.Rows.{Accepted, Filled, LevelOf, ParentOf, KeyOf, HasLevels, HasParents, Columns, is_parent, is_later, is_next}
use Rattle.table.proofs.Check.{sized_is, refused_1, refused_2, refused_3}
use Rattle.table.proofs.Columns.{filled-same}

module _ (t labels : List ℕ) where
  -- what a caller knows of a table that the check took
  pub accepted_is : table_answer t labels ≡ Ok tt → Accepted t
  unfolding is_tree
  accepted_is e = go (is_sized t labels) refl (is_numbered t) refl (is_nested t) refl
    where
      no : {r : Refusal} → table_answer t labels ≡ Err r → Accepted t
      no f = cc

      go : (a : Bool) → is_sized t labels ≡ a → (b : Bool) → is_numbered t ≡ b → (c : Bool) → is_nested t ≡ c → Accepted t
      go false ea b eb c ec = no (sym (refused_1 t labels (sym ea)))
      go true ea false eb c ec = no (sym (refused_2 t labels (sym ea) (sym eb)))
      go true ea true eb false ec = no (sym (refused_3 t labels (sym ea) (sym eb) (sym ec)))
      go true ea true eb true ec = record { tree = and_in _ _ eb ec; few = (sized_is t labels ea).1 }

-- ---- columns

-- columns that were filled hold what the axis tests ask
pub levels_filled : (t before after : List ℕ) → length t ≤ length before → Filled 0 (length t) (LevelOf t) before after → HasLevels t after
levels_filled t before after h F = record { room = omega (arith, F.size); each = λ r l. F.filled r (omega arith) l }

pub parents_filled : (t before after : List ℕ) → length t ≤ length before → Filled 1 (length t) (ParentOf t) before after → HasParents t after
parents_filled t before after h F = record { room = omega (arith, F.size); each = λ r k l. F.filled r k l }

-- the columns that `fill_columns` leaves
pub columns_filled : (t parents levels parents' levels' : List ℕ) → Accepted t → length t ≤ length parents → length t ≤ length levels →
    Filled 1 (length t) (ParentOf t) parents parents' × Filled 0 (length t) (LevelOf t) levels levels' → Columns t parents' levels'
columns_filled t parents levels parents' levels' a h k F = record { accepted = a; has_parents = parents_filled t parents parents' h F.0; has_levels = levels_filled t levels levels' k F.1 }

child-after : (t : List ℕ) (p q : ℕ) → Is (child t p q) → p < q
child-after t p q h = (below_is t p q (child_is t p q h).0).0

-- and no two differ
module _ (t before x y : List ℕ) where
  pub levels_same : Filled 0 (length t) (LevelOf t) before x → Filled 0 (length t) (LevelOf t) before y → x ≡ y
  levels_same = filled-same 0 (LevelOf t) (length t) before x y (λ r u w l a b. a ∙ sym b)

  pub keys_same : (s : ℕ) → Filled 0 (length t) (KeyOf s t) before x → Filled 0 (length t) (KeyOf s t) before y → x ≡ y
  keys_same s = filled-same 0 (KeyOf s t) (length t) before x y (λ r u w l a b. a ∙ sym b)

  pub parents_same : Tree t → Filled 1 (length t) (ParentOf t) before x → Filled 1 (length t) (ParentOf t) before y → x ≡ y
  parents_same T =
      filled-same 1 (ParentOf t) (length t) before x y
      (λ r u w l a b. one_parent t T u w r (omega (arith, child-after t u r a)) (omega (arith, child-after t w r b)) l a b)

-- ---- rows below and siblings

-- the numbers between two
between-count : (n a b : ℕ) → a < b → b ≤ n → count n (λ k. ltb a k & ltb k b) + (a + 1) ≡ b
between-count n a b l h =
    omega (
      arith,
      under_is n (λ k. k) (λ k m. m) (λ j k u w e. omega arith) b h,
      under_is n (λ k. k) (λ k m. m) (λ j k u w e. omega arith) (a + 1) (omega arith),
      count_split n (λ k. ltb k b) (λ k. ltb k (a + 1)) (λ k. ltb a k & ltb k b) each,
    )
  where
    each : (k : ℕ) → k < n → one (ltb k b) ≡ one (ltb k (a + 1)) + one (ltb a k & ltb k b)
    each k m = one_of _ _ _ (λ e. lt-ltb k b (omega (arith, ltb-true k (a + 1) e))) (λ e. and_r _ _ e)
        (λ e f. omega (arith, ltb-true k (a + 1) e, ltb-true a k (and_l _ _ f)))
        (λ e. ⊎_elim (λ u. inr (and_in _ _ (lt-ltb a k u) e)) (λ u. inl (lt-ltb k (a + 1) (omega arith))) (cases_lt a k))

-- the rows below p are those after it, up to row post + level
module _ (t : List ℕ) (T : Tree t) (p : ℕ) (lp : p < length t) where
  pub inside : (z : ℕ) → z < length t → Is (below t p z) → z ≤ post t p + level t p
  inside z lz h =
      omega (
        arith,
        post_is t T p lp,
        between-count (length t) p (z + 1) (omega (arith, below_is t p z h)) (omega arith),
        count_le (length t) (λ k. ltb p k & ltb k (z + 1)) (λ k. below t p k) sub,
      )
    where
      sub : (k : ℕ) → k < length t → Is (ltb p k & ltb k (z + 1)) → Is (below t p k)
      sub k l e =
          let a = ltb-true p k (and_l _ _ e) in
          let b = ltb-true k (z + 1) (and_r _ _ e) in
          ⊎_elim (λ m. below-between t T p k z a m lz h) (λ m. subst (λ (x : ℕ). Is (below t p x)) (let f : z ≡ k = omega arith in f) h) (cases_lt k z)

  pub outside : (z : ℕ) → p < z → z < length t → (Is (below t p z) → ⊥) → post t p + level t p < z
  outside z m lz h =
      omega (
        arith,
        post_is t T p lp,
        between-count (length t) p z m (omega arith),
        count_le (length t) (λ k. below t p k) (λ k. ltb p k & ltb k z) sub,
      )
    where
      sub : (k : ℕ) → k < length t → Is (below t p k) → Is (ltb p k & ltb k z)
      sub k l e =
          and_in _ _ (lt-ltb p k (below_is t p k e).0)
          (⊎_elim (λ u. lt-ltb k z u)
          (λ u. absurd (h (⊎_elim (λ w. below-between t T p z k m w l e) (λ w. subst (λ (x : ℕ). Is (below t p x)) (let f : k ≡ z = omega arith in f) e) (cases_lt z k))))
          (cases_lt k z))

  -- and the other way round
  pub below_rows : (z : ℕ) → p < z → z < length t → z ≤ post t p + level t p → Is (below t p z)
  below_rows z m lz h = go (below t p z) refl
    where
      go : (b : Bool) → below t p z ≡ b → Is (below t p z)
      go true e = e
      go false e = absurd (omega (arith, outside z m lz (λ f. false≢true (sym e ∙ f))))

  -- that row is a row of the table
  pub last-below : post t p + level t p < length t
  last-below =
      omega (
        arith,
        post_is t T p lp,
        between-count (length t) p (length t) lp (omega arith),
        count_le (length t) (λ k. below t p k) (λ k. ltb p k & ltb k (length t)) (λ k l e. and_in _ _ (lt-ltb p k (below_is t p k e).0) (lt-ltb k (length t) l)),
      )

-- a row has at most as many ancestors as rows before it
pub level-row : (t : List ℕ) (r : ℕ) → r < length t → level t r ≤ r
unfolding level
level-row t r l =
    omega (
      arith,
      under_is (length t) (λ k. k) (λ k m. m) (λ j k u w e. omega arith) r (omega arith),
      count_le (length t) (λ z. below t z r) (λ z. ltb z r) (λ k m e. lt-ltb k r (below_is t k r e).0),
    )

module _ (t : List ℕ) (T : Tree t) where
  -- a later sibling is not below
  pub sibling_apart : (p q : ℕ) → p < length t → q < length t → Is (later t p q) → Is (below t p q) → ⊥
  sibling_apart p q lp lq h b =
      let w = (later_is t p q h).1 in
      (child_is t w.0 q w.3).1 p lp (child_is t w.0 p w.2).0 b

  -- the row behind the rows below p, where a later sibling comes, is a sibling
  pub sibling_behind : (p e q : ℕ) → p < length t → q < length t → e ≡ post t p + level t p + 1 → e < q → Is (later t p q) → Is (later t p e) × Is (later t e q)
  sibling_behind p e q lp lq f l h =
      let w = (later_is t p q h).1 in
      let z = w.0 in
      let le : e < length t = omega arith in
      let pe : p < e = omega (arith, post_is t T p lp) in
      let zp = below_is t z p (child_is t z p w.2).0 in
      let out : Is (below t p e) → ⊥ = λ b. omega (arith, inside t T p lp e le b) in
      let ze = below-between t T z e q (omega arith) l lq (child_is t z q w.3).0 in
      let c : Is (child t z e) = child_in t z e ze (λ y ly a b. no y ly z w.2 le pe out a b) in
      (later_in t p e z pe w.1 w.2 c, later_in t e q z l w.1 c w.3)
    where
      no : (y : ℕ) → y < length t → (z : ℕ) → Is (child t z p) → e < length t → p < e → (Is (below t p e) → ⊥) → Is (below t z y) → Is (below t y e) → ⊥
      no y ly z c le pe out a b =
          let ye = below_is t y e b in
          ⊎_elim
          (λ u. (child_is t z p c).1 y ly a (below-between t T y p e u pe le b))
          (λ u. ⊎_elim
          (λ v. let py = below_is t p y (below_rows t T p lp y v ly (omega arith)) in out (below_in t p e pe (omega arith)))
          (λ v. out (subst (λ (x : ℕ). Is (below t x e)) (let g : y ≡ p = omega arith in g) b))
          (cases_lt p y))
          (cases_lt y p)

  -- the next sibling is the row behind the rows below
  pub next_in : (p q : ℕ) → p < length t → q < length t → Is (later t p q) → q ≡ post t p + level t p + 1 → Is (next t p q)
  unfolding next
  next_in p q lp lq h e =
      and_in _ _ h
      (is_not _ (λ f.
      let w = some_is _ _ f in
      let y = w.0 in
      let u = and_l _ _ w.2 in
      let v = and_r _ _ w.2 in
      sibling_apart p y lp w.1 u (below_rows t T p lp y (later_is t p y u).0 w.1 (omega (arith, (later_is t y q v).0)))))

  pub next_row : (p q : ℕ) → p < length t → q < length t → Is (next t p q) → q ≡ post t p + level t p + 1
  next_row p q lp lq h =
      let n = next_is t p q h in
      let l = outside t T p lp q (later_is t p q n.0).0 lq (sibling_apart p q lp lq n.0) in
      ⊎_elim
      (λ m. let s = sibling_behind p (post t p + level t p + 1) q lp lq refl m n.0 in absurd (n.1 (post t p + level t p + 1) (omega arith) s.0 s.1))
      (λ m. omega arith)
      (cases_lt (post t p + level t p + 1) q)

  -- of the rows after p the nearer is below it where the farther is
  pub below_nearer : (p q r : ℕ) → p < q → q ≤ r → r < length t → Is (below t p r) → Is (below t p q)
  below_nearer p q r l m lr h =
      ⊎_elim (λ u. below-between t T p q r l u lr h) (λ u. subst (λ (x : ℕ). Is (below t p x)) (let e : r ≡ q = omega arith in e) h) (cases_lt q r)

-- ---- the axes that are read from columns

not_zero : (q : ℕ) → Is (non (eqb q 0)) → 0 < q
not_zero q h = ⊎_elim (λ l. l) (λ l. absurd (not_is _ h (eq-eqb q 0 (omega arith)))) (cases_lt 0 q)

zero_not : (q : ℕ) → 0 < q → Is (non (eqb q 0))
zero_not q l = is_not _ (λ e. omega (arith, eqb-true q 0 e))

module _ (t : List ℕ) (T : Tree t) (parents : List ℕ) (P : HasParents t parents) where
  -- the parent that the column holds is the one that there is
  pub parent_same : (p q : ℕ) → q < length t → Is (child t p q) → get_or parents q 0 ≡ p
  parent_same p q lq h =
      let l = child-after t p q h in
      let c = P.each q (omega arith) lq in
      one_parent t T (get_or parents q 0) p q (omega (arith, child-after t (get_or parents q 0) q c)) (omega arith) lq c h

  -- it stands before its child, one level higher
  pub parent_before : (q : ℕ) → 0 < q → q < length t → get_or parents q 0 < q
  parent_before q k lq = child-after t (get_or parents q 0) q (P.each q k lq)

  pub parent_level : (q : ℕ) → 0 < q → q < length t → level t q ≡ level t (get_or parents q 0) + 1
  parent_level q k lq = level-child t T (get_or parents q 0) q (omega (arith, parent_before q k lq)) lq (P.each q k lq)

  -- siblings are rows with one parent
  pub siblings_in : (p q : ℕ) → 0 < p → p < q → q < length t → get_or parents p 0 ≡ get_or parents q 0 → Is (later t p q)
  siblings_in p q k l lq e =
      let c = P.each p k (omega arith) in
      later_in t p q (get_or parents p 0) l (omega (arith, child-after t (get_or parents p 0) p c)) c
      (subst (λ (z : ℕ). Is (child t z q)) (sym e) (P.each q (omega arith) lq))

  pub siblings_is : (p q : ℕ) → q < length t → Is (later t p q) → (0 < p) × (p < q) × (get_or parents p 0 ≡ get_or parents q 0)
  siblings_is p q lq h =
      let w = later_is t p q h in
      let z = w.1.0 in (
        omega (arith, child-after t z p w.1.2),
        w.0,
        parent_same z p (omega (arith, w.0)) w.1.2 ∙ sym (parent_same z q lq w.1.3),
      )

  pub parent_child : (p q : ℕ) → q < length t → is_parent parents p q ≡ child t p q
  unfolding is_parent
  parent_child p q lq = same_test _ _
      (λ h. subst (λ (z : ℕ). Is (child t z q)) (eqb-true (get_or parents q 0) p (and_r _ _ h)) (P.each q (not_zero q (and_l _ _ h)) lq))
      (λ h. and_in _ _ (zero_not q (omega (arith, child-after t p q h))) (eq-eqb (get_or parents q 0) p (parent_same p q lq h)))

  pub parent_later : (p q : ℕ) → q < length t → is_later parents p q ≡ later t p q
  unfolding is_later
  parent_later p q lq = same_test _ _
      (λ h.
      let k = and_r _ _ h in
      siblings_in p q (not_zero p (and_l _ _ h)) (ltb-true p q (and_l _ _ k)) lq (eqb-true (get_or parents p 0) (get_or parents q 0) (and_r _ _ k)))
      (λ h.
      let w = siblings_is p q lq h in
      and_in _ _ (zero_not p w.0) (and_in _ _ (lt-ltb p q w.1) (eq-eqb (get_or parents p 0) (get_or parents q 0) w.2)))

  pub parent_next : (levels : List ℕ) → HasLevels t levels → (p q : ℕ) → p < length t → q < length t → is_next t parents levels p q ≡ next t p q
  unfolding is_next
  parent_next levels L p q lp lq =
      rw (parent_later p q lq)
      (same_test _ _
      (λ h. let e = eqb-true q (post t p + get_or levels p 0 + 1) (and_l _ _ h) in next_in t T p q lp lq (and_r _ _ h) (omega (arith, L.each p lp)))
      (λ h. and_in _ _ (eq-eqb q (post t p + get_or levels p 0 + 1) (omega (arith, L.each p lp, next_row t T p q lp lq h))) (next_is t p q h).0))
