-- Answers as eight numbers, the way they are told to programs in other languages. Assumes nothing: these are definitions.
use Rattle.std.specs.Prelude.{◌≡◌, Result, Ok, Err, List, [], ◌∷◌, ℕ}
use Rattle.meaning.specs.Told.{Told, given, refused, told_sentence}
use Rattle.meaning.specs.QueryTexts.{pad}
use Rattle.meaning.specs.Sentences.{SentenceRead}
use Rattle.meaning.specs.declared.Refusal.{Refusal}
use Rattle.meaning.specs.declared.SentenceReading.{SentenceReading}
use Rattle.meaning.specs.declared.QueryReading.{QueryReading}

-- the number, the place, the values, then zeros
unfoldable pub told_words : Told → List ℕ
told_words t = pad 8 0 (t.number ∷ t.place ∷ t.values)

-- a reading of a query text: the bytes of the names, and the counts that the query by value holds
unfoldable pub told_reading : Result QueryReading Refusal → Told
told_reading (Ok r) = given (r.bytes ∷ r.query.variables ∷ r.query.head_count ∷ r.query.label_count ∷ r.query.axis_count ∷ [])
told_reading (Err r) = refused r

-- a reading of a sentence whose answer is told so
pub record SentenceTold (text list post label : List ℕ) (told post' label' : List ℕ) : Type 0 where
  pub answer : Result SentenceReading Refusal
  pub read : SentenceRead text list post label answer post' label'
  pub words : told ≡ told_words (told_sentence answer)
