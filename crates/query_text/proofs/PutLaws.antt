-- A variable put where it belongs, and a count past its limit. Assumes nothing.
use Rattle.std.proofs.Common.{◌≡◌, ℕ, ◌+◌, ◌<◌, ◌≤◌, Bool, true, false, List, set, refl, ap, Result, Ok, Err, MatchResult}
use Rattle.std.specs.Result.{IsErrAnd}
use borrow.Author.Tests.{lt-ltb, le-ltb}
use Rattle.meaning.specs.Tests.{◌or◌}
use Rattle.meaning.specs.Texts.{pick}
use Rattle.meaning.specs.declared.Condition.{Condition}
use Rattle.meaning.specs.declared.LabelCondition.{LabelCondition}
use Rattle.meaning.specs.declared.Query.{Query}
use Rattle.meaning.specs.declared.Refusal.{Refusal}
use Rattle.query_text.specs.Filling.{filling, headed, labelled, related, with_head, with_label, with_axis, variable_for, over_parts}
use Rattle.query_text.specs.declared.filling.Item.{Item}
use Rattle.query_text.specs.declared.filling.Item.TheVariants.{Head, Label, Axis, Second, Done}

-- what holds where a refusal is handed on
pub on_err : {A : Type 0} (r : Result A Refusal) (P : A → Type 0) (F Q : Refusal → Type 0) → IsErrAnd r F → ((e : Refusal) → F e → Q e) → MatchResult r P Q
on_err (Ok a) P F Q h k = absurd h
on_err (Err e) P F Q h k = k e h

pub err_is : {A : Type 0} (r : Result A Refusal) (x : Refusal) → IsErrAnd r (λ e. e ≡ x) → r ≡ Err x
err_is (Ok a) x h = absurd h
err_is (Err e) x h = ap (λ (y : Refusal). Err y) h

pub last_of : (a : Bool) → (a or true) ≡ true
unfolding ◌or◌
last_of true = refl
last_of false = refl

module _ (q : Query) (i : Item) (v : ℕ) where
  pub put_head : (n : ℕ) (h : List ℕ) → i ≡ Head → q.head_count < 8 → h ≡ set q.«head» q.head_count v → n ≡ q.head_count + 1 → filling (headed q n h) i ≡ variable_for q i v
  unfolding variable_for with_head pick
  put_head n h e l p d = rw (e, lt-ltb q.head_count 8 l, p, d)

  pub put_label : (m n : ℕ) (h : List LabelCondition) → i ≡ Label m → q.label_count < 32 → h ≡ set q.labels q.label_count (record { variable = v; label = m }) → n ≡ q.label_count + 1 → filling (labelled q n h) Done ≡ variable_for q i v
  unfolding variable_for with_label pick
  put_label m n h e l p d = rw (e, lt-ltb q.label_count 32 l, p, d)

  pub put_axis : (c u n : ℕ) (h : List Condition) → i ≡ Second c u → q.axis_count < 32 → h ≡ set q.axes q.axis_count (record { code = c; first = u; second = v }) → n ≡ q.axis_count + 1 → filling (related q n h) Done ≡ variable_for q i v
  unfolding variable_for with_axis pick
  put_axis c u n h e l p d = rw (e, lt-ltb q.axis_count 32 l, p, d)

  pub put_first : (c : ℕ) → i ≡ Axis c → filling q (Second c v) ≡ variable_for q i v
  unfolding variable_for
  put_first c e = rw e

  pub put_none : i ≡ Done → filling q i ≡ variable_for q i v
  unfolding variable_for
  put_none e = rw e

  pub over_head : i ≡ Head → 8 ≤ q.head_count → over_parts (variable_for q i v).query ≡ true
  unfolding variable_for with_head over_parts pick ◌or◌
  over_head e l = rw (e, le-ltb q.head_count 8 l)

  pub over_label : (m : ℕ) → i ≡ Label m → 32 ≤ q.label_count → over_parts (variable_for q i v).query ≡ true
  unfolding variable_for with_label over_parts pick ◌or◌
  over_label m e l = rw (e, le-ltb q.label_count 32 l) (simp last_of)

  pub over_axis : (c u : ℕ) → i ≡ Second c u → 32 ≤ q.axis_count → over_parts (variable_for q i v).query ≡ true
  unfolding variable_for with_axis over_parts pick
  over_axis c u e l = rw (e, le-ltb q.axis_count 32 l) (simp last_of)
