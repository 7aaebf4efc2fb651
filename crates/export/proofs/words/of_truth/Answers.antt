-- `export::words::of_truth` meets its contract. By the cases of the answer. Assumes nothing.
use Rattle.std.specs.Prelude.{Bool, true, false, Ok}
use Rattle.std.proofs.Common.{◌≡◌, [], ◌∷◌, refl}
use mir.Val.{bool_byte}
use Rattle.meaning.specs.Told.{given, told_yes_no, told_search}
use Rattle.meaning.specs.QueryTexts.{pad}
use Rattle.export.specs.Words.{told_words}
use Rattle.export.proofs.words.of_truth.Goals as goal

yes_no : (b : Bool) → 0 ∷ 0 ∷ bool_byte b ∷ 0 ∷ 0 ∷ 0 ∷ 0 ∷ 0 ∷ [] ≡ told_words (told_yes_no (Ok b))
unfolding told_words pad told_yes_no given
yes_no true = refl
yes_no false = refl

search_tells : (b : Bool) → 0 ∷ 0 ∷ bool_byte b ∷ 0 ∷ 0 ∷ 0 ∷ 0 ∷ 0 ∷ [] ≡ told_words (told_search (Ok b))
unfolding told_words pad told_search given
search_tells true = refl
search_tells false = refl

pub returns-in-Ok-clause-yes_no : goal.returns-in-Ok-clause-yes_no
returns-in-Ok-clause-yes_no c = rw c.in-Ok.is (yes_no c.in-Ok.holds)

pub returns-in-Ok-clause-search : goal.returns-in-Ok-clause-search
returns-in-Ok-clause-search c = rw c.in-Ok.is (search_tells c.in-Ok.holds)

pub returns-in-Err-clause-yes_no : goal.returns-in-Err-clause-yes_no
unfolding told_yes_no
returns-in-Err-clause-yes_no c = rw c.in-Err.is c.of_refusal.ensures

pub returns-in-Err-clause-search : goal.returns-in-Err-clause-search
unfolding told_search
returns-in-Err-clause-search c = rw c.in-Err.is c.of_refusal.ensures
