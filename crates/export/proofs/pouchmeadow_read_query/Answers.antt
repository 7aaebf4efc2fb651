-- `export::pouchmeadow_read_query` meets its contract. By what each part ensures; a query that was read fits its arrays. Assumes nothing.
use Rattle.std.specs.Prelude.{Result}
use Rattle.std.proofs.Common.{ap, ◌∙◌}
use Rattle.meaning.specs.Query.{asked}
use Rattle.meaning.specs.QueryTexts.{query_for}
use Rattle.meaning.specs.Entries.{at_front}
use Rattle.meaning.specs.declared.QueryReading.{QueryReading}
use Rattle.meaning.specs.declared.Refusal.{Refusal}
use Rattle.export.specs.Lent.{label_numbers, axis_numbers}
use Rattle.export.specs.Words.{told_words, told_reading}
use Rattle.export.proofs.Readings.{Few, few-read}
use Rattle.export.proofs.pouchmeadow_read_query.Goals as goal

pub write_reading-requires : goal.write_reading-requires
write_reading-requires c = let f : Few (query_for c.read_query-r.result) = rw c.read_query-r.ensures.0 (few-read _ _) in (f.head_few, f.labels-few, f.axes-few)

pub returns : goal.returns
returns c = let a = c.args in
    let e = c.read_query-r.ensures.0 in
    let w = c.write_reading.ensures in (
      c.of_reading.ensures ∙ ap (λ (y : Result QueryReading Refusal). told_words (told_reading y)) e,
      c.read_query-r.ensures.1,
      w.0 ∙ ap (λ (y : Result QueryReading Refusal). at_front (asked (query_for y)).head a.head.now) e,
      w.1 ∙ ap (λ (y : Result QueryReading Refusal). at_front (label_numbers (asked (query_for y)).labels) a.labels.now) e,
      w.2 ∙ ap (λ (y : Result QueryReading Refusal). at_front (axis_numbers (asked (query_for y)).axes) a.axes.now) e,
    )
