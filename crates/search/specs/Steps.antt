-- What the function that does one sentence answers and leaves in the buffer for its lines. Assumes nothing: these are definitions.
use Rattle.std.specs.Prelude.{◌≡◌, List, [], ℕ, length}
use Rattle.meaning.specs.Names.{pick}
use Rattle.meaning.specs.Query.{Question}
use Rattle.meaning.specs.Entries.{at_front}
use Rattle.meaning.specs.Sentences.{blank, Reading, IsReading}
use Rattle.meaning.specs.Run.{Step, stops, goes_on, step}
use Rattle.search.specs.declared.step.SentenceStep.{SentenceStep}
use Rattle.search.specs.declared.step.SentenceStep.TheVariants.{Next, Last}

unfoldable pub lines_of : Step → List ℕ
lines_of (stops lines) = lines
lines_of (goes_on lines end) = lines

-- the bytes of the lines, and where the sentence ends
unfoldable pub step_says : Step → SentenceStep
step_says (stops lines) = Last (length lines)
step_says (goes_on lines end) = Next (length lines) end

-- where only white space is left the run ends, and nothing more is printed
unfoldable pub step_for : ℕ → Question → List ℕ → List ℕ → Reading → Step
step_for k q list s g = pick (blank s) (stops []) (step k q list s g)

-- an answer and a buffer as a step leaves them
pub record Leaves (o : Step) (a : SentenceStep) (out out' : List ℕ) : Type 0 where
  pub answered : a ≡ step_says o
  pub printed : out' ≡ at_front (lines_of o) out

-- sentence k, with the text s left
pub record Does (k : ℕ) (q : Question) (list s : List ℕ) (a : SentenceStep) (out out' : List ℕ) : Type 0 where
  pub reading : Reading
  pub is_reading : IsReading s reading
  pub leaves : Leaves (step_for k q list s reading) a out out'
