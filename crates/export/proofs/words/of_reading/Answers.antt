-- `export::words::of_reading` meets its contract. By the cases of the answer. Assumes nothing.
use Rattle.meaning.specs.Told.{given}
use Rattle.meaning.specs.QueryTexts.{pad}
use Rattle.export.specs.Words.{told_words, told_reading}
use Rattle.export.proofs.words.of_reading.Goals as goal

pub returns-in-Ok : goal.returns-in-Ok
unfolding told_words pad told_reading given
returns-in-Ok c = rw c.in-Ok.is

pub returns-in-Err : goal.returns-in-Err
unfolding told_reading
returns-in-Err c = rw c.in-Err.is c.of_refusal.ensures
