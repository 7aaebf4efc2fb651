-- `export::words::of_sentence` meets its contract. By the cases of the answer. Assumes nothing.
use Rattle.meaning.specs.Told.{given, told_sentence}
use Rattle.meaning.specs.QueryTexts.{pad}
use Rattle.export.specs.Words.{told_words}
use Rattle.export.proofs.words.of_sentence.Goals as goal

pub returns-in-Ok : goal.returns-in-Ok
unfolding told_words pad told_sentence given
returns-in-Ok c = rw c.in-Ok.is

pub returns-in-Err : goal.returns-in-Err
unfolding told_sentence
returns-in-Err c = rw c.in-Err.is c.of_refusal.ensures
