-- A whole run of the program, document 01's chapter 'Program and a whole run': from the bytes it reads to the bytes it
-- prints. Assumes nothing: these are definitions.
use Rattle.std.specs.Prelude.{◌≡◌, Result, Ok, Err, List, [], ◌∷◌, ◌++◌, map, ℕ, zero, suc, ◌+◌, ◌/◌, ◌%◌, ltb, eqb, take, drop, replicate}
use Rattle.meaning.specs.Tests.{Is, non}
use Rattle.meaning.specs.Axes.{bytes}
use Rattle.meaning.specs.Names.{pick}
use Rattle.meaning.specs.Query.{Question, asked, problem}
use Rattle.meaning.specs.Answers.{answers}
use Rattle.meaning.specs.Told.{number, place}
use Rattle.meaning.specs.Entries.{list_answer}
use Rattle.meaning.specs.Sentences.{blank, Reading, IsReading, sentence_answer, posts_of, labels_of}
use Rattle.meaning.specs.QueryTexts.{Said, said, names, closed, query_of, answer}
use Rattle.meaning.specs.declared.Refusal.{Refusal}
use Rattle.meaning.specs.declared.Ending.{Ending}
use Rattle.meaning.specs.declared.Ending.TheVariants.{Finished, Full, Spent}
use Rattle.meaning.specs.declared.Listing.{Listing}
use Rattle.meaning.specs.declared.SentenceReading.{SentenceReading}

-- 1. Lines.

-- a number in decimal digits; it has at most f of them
unfoldable pub digits : ℕ → ℕ → List ℕ
digits zero n = []
digits (suc f) n = pick (ltb n 10) [] (digits f (n / 10)) ++ ((48 + n % 10) ∷ [])

unfoldable pub decimal : ℕ → List ℕ
decimal n = digits (suc n) n

-- a line: the sentence number, and then words, single spaces before them
unfoldable pub spaced : List (List ℕ) → List ℕ
spaced [] = 10 ∷ []
spaced (w ∷ ws) = 32 ∷ (w ++ spaced ws)

unfoldable pub line : ℕ → List (List ℕ) → List ℕ
line k ws = decimal k ++ spaced ws

-- for each tuple a line: the row numbers
unfoldable pub tuple_lines : ℕ → List (List ℕ) → List ℕ
tuple_lines k [] = []
tuple_lines k (t ∷ ts) = line k (map decimal t) ++ tuple_lines k ts

-- after each sentence: the word, tuples given, strikings used
unfoldable pub word : Ending → List ℕ
word Finished = bytes "finished"
word Full = bytes "full"
word Spent = bytes "spent"

unfoldable pub ending_line : ℕ → Ending → ℕ → ℕ → List ℕ
ending_line k e tuples used = line k (word e ∷ decimal tuples ∷ decimal used ∷ [])

-- on a refusal: its number and place
unfoldable pub refusal_line : ℕ → Refusal → List ℕ
refusal_line k r = line k (bytes "refused" ∷ decimal (number r) ∷ decimal (place r) ∷ [])

-- 2. One sentence: what is printed, and then that the run ends, or where in the text it goes on.
pub data Step : Type 0 where
  stops : (lines : List ℕ) → Step
  goes_on : (lines : List ℕ) (end : ℕ) → Step

-- sentence k is listed: L are all its answers
unfoldable pub listed : ℕ → ℕ → List (List ℕ) → Result Listing Refusal → Step
listed k end L (Ok l) = goes_on (tuple_lines k (take l.tuples L) ++ ending_line k l.ending l.tuples l.strikings) end
listed k end L (Err r) = stops (refusal_line k r)

-- allowance 1,000,000, set words for 16 variables and 1,024 rows, answer buffer 4,096 numbers
unfoldable pub listing : List ℕ → List ℕ → Question → Result Listing Refusal
listing t labels q = list_answer t labels q 1000000 (replicate 256 0) (replicate 4096 0)

unfoldable pub read : ℕ → Question → List ℕ → Reading → Result SentenceReading Refusal → Step
read k q list g (Ok x) =
    let t = posts_of g in
    let labels = labels_of list g in
    listed k x.end (answers (problem t labels q)) (listing t labels q)
read k q list g (Err r) = stops (refusal_line k r)

-- sentence k is g, read from the front of the text s, with the list of names, into columns of 1,024 rows
unfoldable pub step : ℕ → Question → List ℕ → List ℕ → Reading → Step
step k q list s g = read k q list g (sentence_answer s list g 1024 1024)

-- 3. The sentences from number k on, with the text s left: gs are what is read, one after the other, until only white space
-- is left or the run ends; out is what is printed.
unfoldable pub Onward : Step → List ℕ → Type 0 → (List ℕ → List ℕ → Type 0) → List ℕ → Type 0
Onward (stops lines) s Last More out = Last × (out ≡ lines)
Onward (goes_on lines end) s Last More out = (others : List ℕ) × (out ≡ lines ++ others) × More (drop end s) others

unfoldable pub Prints : Question → List ℕ → List Reading → ℕ → List ℕ → List ℕ → Type 0
Prints q list [] k s out = Is (blank s) × (out ≡ [])
Prints q list (g ∷ gs) k s out =
    Is (non (blank s)) × IsReading s g × Onward (step k q list s g) s (gs ≡ []) (Prints q list gs (suc k)) out

-- 4. The run. The query text is the input up to its first full stop, or all of it where there is none; the sentences are behind it.
unfoldable pub query_text_of : List ℕ → List ℕ
query_text_of [] = []
query_text_of (b ∷ s) = b ∷ pick (eqb b 46) [] (query_text_of s)

unfoldable pub behind : List ℕ → List ℕ
behind [] = []
behind (b ∷ s) = pick (eqb b 46) s (behind s)

unfoldable pub Begun : Result ℕ Refusal → Said → List ℕ → List ℕ → Type 0
Begun (Ok n) q s out = (gs : List Reading) × Prints (asked (query_of q)) (closed (names q)) gs 1 s out
Begun (Err r) q s out = out ≡ refusal_line 0 r

-- a run on these bytes prints out; the byte buffer has room for 32 names of 16 bytes
unfoldable pub IsRun : List ℕ → List ℕ → Type 0
IsRun input out = Begun (answer (query_text_of input) 544) (said (query_text_of input)) (behind input) out

-- the program reads at most 65,536 bytes
unfoldable pub IsWholeRun : List ℕ → List ℕ → Type 0
IsWholeRun input out = IsRun (take 65536 input) out
