-- `export::words::of_refusal` meets its contract. Assumes nothing.
use Rattle.meaning.specs.Told.{refused}
use Rattle.meaning.specs.QueryTexts.{pad}
use Rattle.export.specs.Words.{told_words}
use Rattle.export.proofs.words.of_refusal.Goals as goal

pub returns : goal.returns
unfolding told_words pad refused
returns c = rw (c.number.ensures, c.place.ensures)
