-- `export::pouchmeadow_check_table` meets its contract. By what each part ensures. Assumes nothing.
use mathlib.Core.Path.{ap, ◌∙◌}
use Rattle.meaning.specs.Told.{told_table}
use Rattle.std.specs.Prelude.{Result}
use Rattle.meaning.specs.declared.Refusal.{Refusal}
use Rattle.export.specs.Words.{told_words}
use Rattle.export.proofs.pouchmeadow_check_table.Goals as goal

pub returns : goal.returns
returns c = c.of_table.ensures ∙ ap (λ (x : Result (Unit {0}) Refusal). told_words (told_table x)) c.check_table.ensures
