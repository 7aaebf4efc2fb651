-- A table and a query that are not refused: all laws apply to what is asked. Assumes nothing.
use Rattle.std.specs.Prelude.{◌≡◌, refl, Bool, true, false, cond, List, [], ◌∷◌, ◌++◌, ℕ, ◌≤◌, ◌<◌, length}
use Rattle.std.proofs.Common.{subst, arith, ltb-true, leb-true, eqb-true, eq-eqb}
use Rattle.meaning.specs.Tests.{Is, ◌or◌, non}
use Rattle.meaning.specs.Table.{is_sized, is_numbered, is_nested, is_tree}
use Rattle.meaning.specs.Axes.{is_axis, set_of, axis_holds, key}
use Rattle.meaning.specs.Query.{Question, problem, head_at, label_at, axis_at, is_counted, is_named, is_axis_named, is_head_named, fits, is_of_one_set, takes}
use Rattle.meaning.specs.Entries.{Ground, ◌when◌, fine, refuse, lowest, table_grounds, query_grounds}
use Rattle.meaning.specs.declared.Refusal.{Refusal}
use Rattle.theory.specs.Tests.{and_l, and_r, and_in, not_is, every-at}
use Rattle.theory.specs.Trees.{Tree, tree_is}
use Rattle.theory.specs.Orders.{XBar, key_apart, axis_xbar}
use Rattle.theory.specs.Smallest.{Fit}

-- the grounds of a verdict, one list after another
pub lowest-append : (a b : List Ground) → lowest a ≡ fine → lowest (a ++ b) ≡ lowest b
unfolding lowest
lowest-append [] b h = refl
lowest-append ((r when true) ∷ a) b h = absurd (let z : ◌≡◌ {A = ℕ} 0 1 = cc in omega arith)
lowest-append ((r when false) ∷ a) b h = lowest-append a b h

pub lowest-refused : (a b : List Ground) (r : Refusal) → lowest a ≡ refuse r → lowest (a ++ b) ≡ refuse r
unfolding lowest
lowest-refused [] b r h = absurd (let z : ◌≡◌ {A = ℕ} 0 1 = cc in omega arith)
lowest-refused ((q when true) ∷ a) b r h = h
lowest-refused ((q when false) ∷ a) b r h = lowest-refused a b r h

pub lowest_both : (a b : List Ground) → lowest (a ++ b) ≡ fine → (lowest a ≡ fine) × (lowest b ≡ fine)
unfolding lowest
lowest_both [] b h = (refl, h)
lowest_both ((r when true) ∷ a) b h = absurd (let z : ◌≡◌ {A = ℕ} 0 1 = cc in omega arith)
lowest_both ((r when false) ∷ a) b h = lowest_both a b h

-- not refused: the first ground does not apply, and the others are judged
pub lowest-past : (r : Refusal) (c : Bool) (gs : List Ground) → Is c → lowest ((r when non c) ∷ gs) ≡ lowest gs
unfolding lowest non
lowest-past r c gs h = rw h refl

pub lowest_here : (r : Refusal) (c : Bool) (gs : List Ground) → c ≡ false → lowest ((r when non c) ∷ gs) ≡ refuse r
unfolding lowest non
lowest_here r c gs h = rw h refl

pub lowest_fine : (r : Refusal) (c : Bool) (gs : List Ground) → lowest ((r when non c) ∷ gs) ≡ fine → Is c × (lowest gs ≡ fine)
unfolding lowest non
lowest_fine r true gs h = (refl, h)
lowest_fine r false gs h = absurd (let z : ◌≡◌ {A = ℕ} 0 1 = cc in omega arith)

-- what an accepted table is
pub record AcceptedTable (t labels : List ℕ) : Type 0 where
  pub same : length t ≡ length labels
  pub some : 0 < length t
  pub few : length t ≤ 1024
  pub tree : Tree t

pub accepted_table : (t labels : List ℕ) → lowest (table_grounds t labels) ≡ fine → AcceptedTable t labels
unfolding table_grounds is_sized is_tree
accepted_table t labels h =
    let a = lowest_fine _ (is_sized t labels) _ h in
    let b = lowest_fine _ (is_numbered t) _ a.1 in
    let c = lowest_fine _ (is_nested t) _ b.1 in
    let few : length t < 1025 = ltb-true (length t) 1025 (and_r _ _ (and_r _ _ a.0)) in
    record {
      same = eqb-true (length t) (length labels) (and_l _ _ a.0);
      some = ltb-true 0 (length t) (and_l _ _ (and_r _ _ a.0));
      few = omega arith;
      tree = tree_is t (and_in (is_numbered t) (is_nested t) b.0 c.0);
    }

-- what an accepted query is
pub record AcceptedQuery (q : Question) : Type 0 where
  pub variables-some : 1 ≤ q.variables
  pub variables-few : q.variables ≤ 16
  pub head_few : length q.head ≤ 8
  pub labels-few : length q.labels ≤ 32
  pub axes-few : length q.axes ≤ 32
  pub codes : (i : ℕ) → i < length q.axes → Is (is_axis (axis_at q.axes i).code)
  pub scoped : (i : ℕ) → i < length q.axes → ((axis_at q.axes i).first < q.variables) × ((axis_at q.axes i).second < q.variables)
  pub labelled : (i : ℕ) → i < length q.labels → (label_at q.labels i).variable < q.variables
  pub headed : (i : ℕ) → i < length q.head → head_at q.head i < q.variables
  pub apart : (i j : ℕ) → j < i → i < length q.head → head_at q.head j ≡ head_at q.head i → ⊥
  pub one_set : (i : ℕ) → i < length q.axes → set_of (axis_at q.axes i).code ≡ takes q

takes-fits : (q : Question) → Is (is_of_one_set q) → Is (fits q (takes q))
unfolding is_of_one_set takes ◌or◌
takes-fits q h = go (fits q 1) refl (fits q 2) refl h
  where
    go : (a : Bool) → fits q 1 ≡ a → (b : Bool) → fits q 2 ≡ b → Is (a or b or fits q 3) → Is (fits q (cond a 1 (cond b 2 3)))
    go true e b f k = e
    go false e true f k = f
    go false e false f k = k

pub accepted_query : (q : Question) → lowest (query_grounds q) ≡ fine → AcceptedQuery q
unfolding query_grounds is_counted is_named is_axis_named is_head_named fits
accepted_query q h =
    let a = lowest_fine _ (is_counted q) _ h in
    let b = lowest_fine _ (is_named q) _ a.1 in
    let c = lowest_fine _ (is_of_one_set q) _ b.1 in
    let axis : (i : ℕ) → i < length q.axes → Is (is_axis_named q.variables (axis_at q.axes i)) = every-at _ _ (and_l _ _ b.0) in
    let head : (i : ℕ) → i < length q.head → Is (is_head_named q.variables q.head i) = every-at _ _ (and_r _ _ (and_r _ _ b.0)) in
    record {
      variables-some = leb-true 1 q.variables (and_l _ _ a.0);
      variables-few = leb-true q.variables 16 (and_l _ _ (and_r _ _ a.0));
      head_few = leb-true (length q.head) 8 (and_l _ _ (and_r _ _ (and_r _ _ a.0)));
      labels-few = leb-true (length q.labels) 32 (and_l _ _ (and_r _ _ (and_r _ _ (and_r _ _ a.0))));
      axes-few = leb-true (length q.axes) 32 (and_r _ _ (and_r _ _ (and_r _ _ (and_r _ _ a.0))));
      codes = λ i l. and_l _ _ (axis i l);
      scoped = λ i l. (ltb-true (axis_at q.axes i).first q.variables (and_l _ _ (and_r _ _ (axis i l))), ltb-true (axis_at q.axes i).second q.variables (and_r _ _ (and_r _ _ (axis i l))));
      labelled = λ i l. ltb-true (label_at q.labels i).variable q.variables (every-at _ _ (and_l _ _ (and_r _ _ b.0)) i l);
      headed = λ i l. ltb-true (head_at q.head i) q.variables (and_l _ _ (head i l));
      apart = λ i j l m e. not_is _ (every-at _ _ (and_r _ _ (head i m)) j l) (eq-eqb (head_at q.head j) (head_at q.head i) e);
      one_set = λ i l. eqb-true (set_of (axis_at q.axes i).code) (takes q) (every-at _ _ (takes-fits q c.0) i l);
    }

-- an accepted query asked of an accepted table: every law of this crate applies
pub accepted_fit : (t labels : List ℕ) (q : Question) → AcceptedTable t labels → AcceptedQuery q → Fit (problem t labels q)
unfolding problem
accepted_fit t labels q T Q = record {
  apart = key_apart t T.tree T.few (takes q);
  scoped = Q.scoped;
  xbar = λ i l. subst (λ s. XBar (length t) (key s t) (axis_holds t (axis_at q.axes i).code)) (Q.one_set i l) (axis_xbar t T.tree T.few (axis_at q.axes i).code (Q.codes i l));
  headed = Q.headed;
}
