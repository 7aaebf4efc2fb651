-- What each entry of the library answers and leaves in each lent buffer, on every input. Assumes nothing: these are definitions.
-- The entries that read texts stand with their texts.
use Rattle.std.specs.Prelude.{Bool, true, false, cond, Result, Ok, Err, List, [], ◌∷◌, ◌++◌, ℕ, ◌*◌, ltb, eqb, length, drop, take, replicate}
use Rattle.meaning.specs.Tests.{◌&◌, ◌or◌, non, every}
use Rattle.meaning.specs.Table.{is_sized, is_numbered, is_nested}
use Rattle.meaning.specs.Query.{Question, problem, is_counted, is_named, is_of_one_set, takes}
use Rattle.meaning.specs.Pruning.{pruned, strikings}
use Rattle.meaning.specs.Words.{width, words_of}
use Rattle.meaning.specs.Answers.{row_at, is_yes, answers, answers_after}
use Rattle.meaning.specs.Listing.{pruning, room, Outcome, outcome}
use Rattle.meaning.specs.declared.Refusal.{Refusal}
use Rattle.meaning.specs.declared.Listing.{Listing}
use Rattle.meaning.specs.declared.Refusal.TheVariants.{Columns, PostNumbers, ThreeRows, Counts, Variables, Axes, EmptyHead, Tuple, ShortBuffer}

-- a refusal and the test of whether it applies; grounds stand in the order of their numbers
infix 25 ◌when◌
pub data Ground : Type 0 where
  ◌when◌ : Refusal → Bool → Ground

pub data Verdict : Type 0 where
  fine : Verdict
  refuse : Refusal → Verdict

-- where several apply the lowest number is given
unfoldable pub lowest : List Ground → Verdict
lowest [] = fine
lowest ((r when applies) ∷ gs) = cond applies (refuse r) (lowest gs)

-- n words, numbers or bytes at the front of a buffer, and what was behind them
unfoldable pub at_front : List ℕ → List ℕ → List ℕ
at_front new buffer = new ++ drop (length new) buffer

-- The table check. t are the post numbers.
unfoldable pub table_grounds : List ℕ → List ℕ → List Ground
table_grounds t labels = (Columns when non (is_sized t labels)) ∷ (PostNumbers when non (is_numbered t)) ∷ (ThreeRows when non (is_nested t)) ∷ []

unfoldable pub table_says : Verdict → Result (Unit {0}) Refusal
table_says fine = Ok tt
table_says (refuse r) = Err r

unfoldable pub table_answer : List ℕ → List ℕ → Result (Unit {0}) Refusal
table_answer t labels = table_says (lowest (table_grounds t labels))

-- The query check: which set it takes.
unfoldable pub query_grounds : Question → List Ground
query_grounds q = (Counts when non (is_counted q)) ∷ (Variables when non (is_named q)) ∷ (Axes when non (is_of_one_set q)) ∷ []

unfoldable pub query_says : Verdict → ℕ → Result ℕ Refusal
query_says fine s = Ok s
query_says (refuse r) s = Err r

unfoldable pub query_answer : Question → Result ℕ Refusal
query_answer q = query_says (lowest (query_grounds q)) (takes q)

-- the words that the sets need
unfoldable pub needed : List ℕ → Question → ℕ
needed t q = q.variables * width (length t)

-- Pruning. `sets` is the lent set buffer as it comes.
unfoldable pub prune_grounds : List ℕ → List ℕ → Question → List ℕ → List Ground
prune_grounds t labels q sets = table_grounds t labels ++ (query_grounds q ++ ((ShortBuffer when ltb (length sets) (needed t q)) ∷ []))

unfoldable pub prune_says : Verdict → ℕ → Result ℕ Refusal
prune_says fine n = Ok n
prune_says (refuse r) n = Err r

unfoldable pub prune_answer : List ℕ → List ℕ → Question → List ℕ → Result ℕ Refusal
prune_answer t labels q sets = let P = problem t labels q in prune_says (lowest (prune_grounds t labels q sets)) (strikings P P.start)

-- what an accepted input leaves, and a refused one: the buffer as it was
unfoldable pub unless : Verdict → List ℕ → List ℕ → List ℕ
unless fine new old = new
unless (refuse r) new old = old

unfoldable pub prune_leaves : List ℕ → List ℕ → Question → List ℕ → List ℕ
prune_leaves t labels q sets =
    let P = problem t labels q in
    unless (lowest (prune_grounds t labels q sets)) (at_front (words_of (length t) q.variables (pruned P P.start)) sets) sets

-- zeros in the sets' words
unfoldable pub cleared : List ℕ → Question → List ℕ → List ℕ
cleared t q sets = at_front (replicate (needed t q) 0) sets

-- Yes or no: refused as pruning is.
unfoldable pub yes_no_says : Verdict → Bool → Result Bool Refusal
yes_no_says fine b = Ok b
yes_no_says (refuse r) b = Err r

unfoldable pub yes_no_answer : List ℕ → List ℕ → Question → List ℕ → Result Bool Refusal
yes_no_answer t labels q sets = yes_no_says (lowest (prune_grounds t labels q sets)) (is_yes (problem t labels q))

unfoldable pub yes_no_leaves : List ℕ → List ℕ → Question → List ℕ → List ℕ
yes_no_leaves t labels q sets = unless (lowest (prune_grounds t labels q sets)) (cleared t q sets) sets

-- The search after a tuple. `found` is the lent answer buffer as it comes.
unfoldable pub is_tuple : List ℕ → Question → List ℕ → Bool
is_tuple t q tuple = eqb (length tuple) (length q.head) & every (length tuple) (λ i. ltb (row_at tuple i) (length t))

unfoldable pub search_grounds : List ℕ → List ℕ → Question → List ℕ → List ℕ → List ℕ → List Ground
search_grounds t labels q tuple sets found =
    table_grounds t labels
    ++ (query_grounds q
    ++ ((EmptyHead when eqb (length q.head) 0)
    ∷ (Tuple when non (is_tuple t q tuple))
    ∷ (ShortBuffer when ltb (length sets) (needed t q) or ltb (length found) (length q.head))
    ∷ []))

unfoldable pub search_says : Verdict → List (List ℕ) → Result Bool Refusal
search_says fine [] = Ok false
search_says fine (s ∷ ss) = Ok true
search_says (refuse r) ss = Err r

unfoldable pub search_answer : List ℕ → List ℕ → Question → List ℕ → List ℕ → List ℕ → Result Bool Refusal
search_answer t labels q tuple sets found =
    search_says (lowest (search_grounds t labels q tuple sets found)) (answers_after (problem t labels q) tuple)

unfoldable pub search_leaves_sets : List ℕ → List ℕ → Question → List ℕ → List ℕ → List ℕ → List ℕ
search_leaves_sets t labels q tuple sets found = unless (lowest (search_grounds t labels q tuple sets found)) (cleared t q sets) sets

-- the first of the answers, if there is one
unfoldable pub first_at_front : List (List ℕ) → List ℕ → List ℕ
first_at_front [] buffer = buffer
first_at_front (s ∷ ss) buffer = at_front s buffer

unfoldable pub search_leaves_found : List ℕ → List ℕ → Question → List ℕ → List ℕ → List ℕ → List ℕ
search_leaves_found t labels q tuple sets found =
    unless (lowest (search_grounds t labels q tuple sets found)) (first_at_front (answers_after (problem t labels q) tuple) found) found

-- The listing. It never gives 9 for its answer buffer.
unfoldable pub list_grounds : List ℕ → List ℕ → Question → List ℕ → List Ground
list_grounds t labels q sets =
    table_grounds t labels
    ++ (query_grounds q ++ ((EmptyHead when eqb (length q.head) 0) ∷ (ShortBuffer when ltb (length sets) (needed t q)) ∷ []))

-- the outcome over the list of all answers
unfoldable pub list_outcome : List ℕ → List ℕ → Question → ℕ → ℕ → Outcome
list_outcome t labels q allowance places =
    let P = problem t labels q in
    outcome P (pruning P) (answers P) allowance (room places (length q.head))

unfoldable pub list_says : Verdict → Outcome → Result Listing Refusal
list_says fine o = Ok (record { ending = o.ending; tuples = o.tuples; strikings = o.used })
list_says (refuse r) o = Err r

unfoldable pub list_answer : List ℕ → List ℕ → Question → ℕ → List ℕ → List ℕ → Result Listing Refusal
list_answer t labels q allowance sets found =
    list_says (lowest (list_grounds t labels q sets)) (list_outcome t labels q allowance (length found))

unfoldable pub list_leaves_sets : List ℕ → List ℕ → Question → ℕ → List ℕ → List ℕ → List ℕ
list_leaves_sets t labels q allowance sets found = unless (lowest (list_grounds t labels q sets)) (cleared t q sets) sets

-- tuples one after the other
unfoldable pub joined : List (List ℕ) → List ℕ
joined [] = []
joined (s ∷ ss) = s ++ joined ss

unfoldable pub list_leaves_found : List ℕ → List ℕ → Question → ℕ → List ℕ → List ℕ → List ℕ
list_leaves_found t labels q allowance sets found =
    unless (lowest (list_grounds t labels q sets))
    (at_front (joined (take (list_outcome t labels q allowance (length found)).tuples (answers (problem t labels q)))) found)
    found
