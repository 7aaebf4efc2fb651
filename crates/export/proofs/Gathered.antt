-- The question of lent lists is what the gathered query asks. Assumes nothing.
use mathlib.Core.Path.{◌≡◌}
use mathlib.Core.Bool.{true, false}
use mathlib.Core.List.{List}
use Prim.Native.Nat.{ℕ, ◌*◌, ◌/◌, ◌≤◌}
use native.Mathlib.Omega.{arith}
use lib.ListN.{length}
use borrow.Author.Tests.{leb-true}
use Rattle.meaning.specs.Tests.{tab}
use Rattle.meaning.specs.Names.{pick}
use Rattle.meaning.specs.Query.{firsts, asked, no_label, no-condition}
use Rattle.std.proofs.Common.{refl}
use Rattle.meaning.specs.QueryTexts.{made, blank_query}
use Rattle.meaning.specs.declared.Condition.{Condition}
use Rattle.meaning.specs.declared.LabelCondition.{LabelCondition}
use Rattle.meaning.specs.declared.Query.{Query}
use Rattle.theory.specs.Tests.{and_l, and_r}
use Rattle.export.specs.Lent.{lent_label, lent_axis, is_whole, no_question, lent}

pub record Sizes (h l c : ℕ) : Type 0 where
  pub head_few : h ≤ 8
  pub labels-few : l ≤ 64
  pub axes-few : c ≤ 96

pub sizes : (h l c : ℕ) → is_whole h l c ≡ true → Sizes h l c
unfolding is_whole
sizes h l c e =
    let r = and_r _ _ (and_r _ _ e) in
    record {
      head_few = leb-true h 8 (and_l _ _ e);
      labels-few = leb-true l 64 (and_l _ _ (and_r _ _ e));
      axes-few = leb-true c 96 (and_l _ _ (and_r _ _ r));
    }

pub pairs_few : (l : ℕ) → l ≤ 64 → (l / 2 ≤ 32) × (2 * (l / 2) ≤ l)
pairs_few l h = (omega arith, omega arith)

pub triples_few : (c : ℕ) → c ≤ 96 → (c / 3 ≤ 32) × (3 * (c / 3) ≤ c)
triples_few c h = (omega arith, omega arith)

pub asked-whole : (v : ℕ) (h ls cs : List ℕ) (a : List ℕ) (b : List LabelCondition) (c : List Condition) →
    is_whole (length h) (length ls) (length cs) ≡ true →
    firsts 0 a (length h) ≡ h →
    firsts no_label b (length ls / 2) ≡ tab (lent_label ls) 0 (length ls / 2) →
    firsts no-condition c (length cs / 3) ≡ tab (lent_axis cs) 0 (length cs / 3) →
    asked (record { variables = v; head_count = length h; «head» = a; label_count = length ls / 2; labels = b; axis_count = length cs / 3; axes = c }) ≡ lent v h ls cs
unfolding asked lent pick
asked-whole v h ls cs a b c w e f g = rw (w, e, f, g)

pub asked_none : (v : ℕ) (h ls cs : List ℕ) (q : Query) → is_whole (length h) (length ls) (length cs) ≡ false → q ≡ blank_query → asked q ≡ lent v h ls cs
unfolding lent pick asked blank_query made firsts tab
asked_none v h ls cs q w e = rw (w, e) refl
