-- What an answer tells: document 01's number (0 for no refusal), place and values of each case. Assumes nothing: these are definitions.
use Rattle.std.specs.Prelude.{Bool, true, false, Result, Ok, Err, List, [], ◌∷◌, ℕ}
use Rattle.meaning.specs.declared.Refusal.{Refusal}
use Rattle.meaning.specs.declared.Refusal.TheVariants.{Columns, PostNumbers, ThreeRows, Counts, Variables, Axes, EmptyHead, Tuple, ShortBuffer, QueryText, Brackets, TooLarge, HeadVariable}
use Rattle.meaning.specs.declared.Ending.{Ending}
use Rattle.meaning.specs.declared.Listing.{Listing}
use Rattle.meaning.specs.declared.QueryReading.{QueryReading}
use Rattle.meaning.specs.declared.SentenceReading.{SentenceReading}
use Rattle.meaning.specs.declared.Ending.TheVariants.{Finished, Full, Spent}

-- the number of a refusal, and its place, otherwise 0
unfoldable pub number : Refusal → ℕ
number Columns = 1
number PostNumbers = 2
number ThreeRows = 3
number Counts = 4
number Variables = 5
number Axes = 6
number EmptyHead = 7
number Tuple = 8
number ShortBuffer = 9
number (QueryText p) = 10
number (Brackets p) = 11
number (TooLarge p) = 12
number HeadVariable = 13

unfoldable pub place : Refusal → ℕ
place Columns = 0
place PostNumbers = 0
place ThreeRows = 0
place Counts = 0
place Variables = 0
place Axes = 0
place EmptyHead = 0
place Tuple = 0
place ShortBuffer = 0
place (QueryText p) = p
place (Brackets p) = p
place (TooLarge p) = p
place HeadVariable = 0

-- an ending as a number, in the document's order of the words finished, full, spent
unfoldable pub ending_number : Ending → ℕ
ending_number Finished = 0
ending_number Full = 1
ending_number Spent = 2

pub record Told : Type 0 where
  pub number : ℕ
  pub place : ℕ
  pub values : List ℕ

unfoldable pub refused : Refusal → Told
refused r = record { number = number r; place = place r; values = [] }

unfoldable pub given : List ℕ → Told
given values = record { number = 0; place = 0; values = values }

unfoldable pub told_table : Result (Unit {0}) Refusal → Told
told_table (Ok u) = given []
told_table (Err r) = refused r

-- the set's number
unfoldable pub told_query : Result ℕ Refusal → Told
told_query (Ok s) = given (s ∷ [])
told_query (Err r) = refused r

-- the strikings
unfoldable pub told_prune : Result ℕ Refusal → Told
told_prune (Ok strikings) = given (strikings ∷ [])
told_prune (Err r) = refused r

-- 1 for yes, 0 for no
unfoldable pub told_yes_no : Result Bool Refusal → Told
told_yes_no (Ok true) = given (1 ∷ [])
told_yes_no (Ok false) = given (0 ∷ [])
told_yes_no (Err r) = refused r

-- 1 for found, 0 for nothing
unfoldable pub told_search : Result Bool Refusal → Told
told_search (Ok true) = given (1 ∷ [])
told_search (Ok false) = given (0 ∷ [])
told_search (Err r) = refused r

-- the ending, the number of tuples, the strikings used
unfoldable pub told_list : Result Listing Refusal → Told
told_list (Ok l) = given (ending_number l.ending ∷ l.tuples ∷ l.strikings ∷ [])
told_list (Err r) = refused r

-- the bytes of the names; the query is handed over by value
unfoldable pub told_query_text : Result QueryReading Refusal → Told
told_query_text (Ok x) = given (x.bytes ∷ [])
told_query_text (Err r) = refused r

-- the rows, and where the sentence ends
unfoldable pub told_sentence : Result SentenceReading Refusal → Told
told_sentence (Ok x) = given (x.rows ∷ x.end ∷ [])
told_sentence (Err r) = refused r
