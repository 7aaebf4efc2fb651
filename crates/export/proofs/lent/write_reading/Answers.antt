-- `export::lent::write_reading` meets its contract. By the cases of the reading. Assumes nothing.
use Rattle.std.specs.Prelude.{Ok}
use Rattle.std.proofs.Common.{◌≡◌, ◌≤◌, arith, subst, sym, refl}
use Rattle.meaning.specs.Query.{asked, firsts}
use Rattle.meaning.specs.QueryTexts.{query_for, made, blank_query}
use Rattle.meaning.specs.Tests.{tab}
use Rattle.meaning.specs.Entries.{at_front}
use Rattle.meaning.specs.declared.Query.{Query}
use Rattle.export.specs.Lent.{label_numbers, axis_numbers}
use Rattle.export.proofs.lent.write_reading.Goals.{In-Ok}
use Rattle.export.proofs.lent.write_reading.Goals as goal

-- the query of a reading
is_query : (c : In-Ok) → query_for c.args.r ≡ c.in-Ok.reading.query
unfolding query_for
is_query c = rw c.in-Ok.is

pub write_head-requires : goal.write_head-requires
write_head-requires c = let r : c.in-Ok.reading.query.head_count ≤ 8 = subst (λ (q : Query). q.head_count ≤ 8) (is_query (goal.at.write_head-requires c).In-Ok) c.requires.0 in (r, omega (arith, r))

pub write_labels-requires : goal.write_labels-requires
write_labels-requires c = let r : c.in-Ok.reading.query.label_count ≤ 32 = subst (λ (q : Query). q.label_count ≤ 32) (is_query (goal.at.write_labels-requires c).In-Ok) c.requires.1 in (r, omega (arith, r))

pub write_axes-requires : goal.write_axes-requires
write_axes-requires c = let r : c.in-Ok.reading.query.axis_count ≤ 32 = subst (λ (q : Query). q.axis_count ≤ 32) (is_query (goal.at.write_axes-requires c).In-Ok) c.requires.2 in (r, omega (arith, r))

pub returns-in-Ok : goal.returns-in-Ok
returns-in-Ok c = rw (is_query (goal.at.returns-in-Ok c).In-Ok) (c.write_head.ensures, c.write_labels.ensures, c.write_axes.ensures)

pub returns-in_default : goal.returns-in_default
unfolding query_for blank_query made asked firsts tab at_front label_numbers axis_numbers
returns-in_default c = rw c.in_default.is (refl, refl, refl)
