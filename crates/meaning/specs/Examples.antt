-- The examples that document 01 marks P, as one table, and some more; all are computed. Assumes nothing.
use Rattle.std.specs.Prelude.{◌≡◌, refl, Bool, true, false, List, [], ◌∷◌, map, ℕ, length}
use Rattle.meaning.specs.Tests.{◌&◌, ◌or◌, non, every, some, count, sum, least, tab}
use Rattle.meaning.specs.Table.{is_sized, is_numbered, is_nested, is_tree, below, child, later, next, follows, level}
use Rattle.meaning.specs.Axes.{bytes, axes, is_axis, axis_of, set_of, kind_holds, directed, axis_holds, key}
use Rattle.meaning.specs.Query.{Question, is_counted, is_named, is_axis_named, is_head_named, fits, is_of_one_set, takes, carries, label_sets, Problem, problem}
use Rattle.meaning.specs.Pruning.{has_first, has_second, partnered, stands, size, written, strike_first, strike_second, passage, passages, pruned, strikings}
use Rattle.meaning.specs.Answers.{meets, shows, before_each, tuples, any, keep, choices, is_answer, is_yes, insert, ordered, answers, is_before, answers_after}
use Rattle.meaning.specs.Listing.{pruning, held, stages_cost, after_cost, cost_to, cost_all, room, within, Outcome, outcome}
use Rattle.meaning.specs.Entries.{lowest, table_grounds, table_says, table_answer, query_grounds, query_says, query_answer}
use Rattle.meaning.specs.Told.{Told, number, place, refused, given, told_table, told_query}
use Rattle.meaning.specs.declared.Ending.TheVariants.{Finished, Full, Spent}

-- everything that the examples compute with, to name on one line
unfoldable pub computing : Unit {0}
unfolding ◌&◌ ◌or◌ non every some count sum least tab is_sized is_numbered is_nested is_tree below child later next follows level bytes axes is_axis axis_of set_of kind_holds directed axis_holds key is_counted is_named is_axis_named is_head_named fits is_of_one_set takes carries label_sets problem has_first has_second partnered stands size written strike_first strike_second passage passages pruned strikings meets shows before_each tuples any keep choices is_answer is_yes insert ordered answers is_before answers_after pruning held stages_cost after_cost cost_to cost_all room within outcome lowest table_grounds table_says table_answer query_grounds query_says query_answer number place refused given told_table told_query
computing = tt

-- the document's sentence: S NP DT NN VP VBD PP IN NP NN, with the names NP (0) and NN (1)
abbrev pub document_posts : List ℕ
document_posts = 9 ∷ 2 ∷ 0 ∷ 1 ∷ 8 ∷ 3 ∷ 7 ∷ 4 ∷ 6 ∷ 5 ∷ []

abbrev pub document_labels : List ℕ
document_labels = 65535 ∷ 0 ∷ 65535 ∷ 1 ∷ 65535 ∷ 65535 ∷ 65535 ∷ 65535 ∷ 0 ∷ 1 ∷ []

-- the table check's number of a post column
abbrev table_number : List ℕ → ℕ
table_number t = (told_table (table_answer t t)).number

-- Q(x,y) <- NP(x), Child+(x,y), NN(y).
abbrev pub nouns_in_phrases : Question
nouns_in_phrases = record {
  variables = 2;
  head = 0 ∷ 1 ∷ [];
  labels = record { variable = 0; label = 0 } ∷ record { variable = 1; label = 1 } ∷ [];
  axes = record { code = 1; first = 0; second = 1 } ∷ [];
}

-- Q(x) <- NP(y), Following(y,x).
abbrev pub after_phrases : Question
after_phrases = record {
  variables = 2;
  head = 0 ∷ [];
  labels = record { variable = 1; label = 0 } ∷ [];
  axes = record { code = 6; first = 1; second = 0 } ∷ [];
}

-- Q(x) <- Child(y,x).
abbrev pub children : Question
children = record { variables = 2; head = 0 ∷ []; labels = []; axes = record { code = 0; first = 1; second = 0 } ∷ [] }

abbrev pub nouns : Problem
nouns = problem document_posts document_labels nouns_in_phrases

abbrev nouns_listed : ℕ → ℕ → Outcome
nouns_listed allowance r = outcome nouns (pruning nouns) (answers nouns) allowance r

pub examples :
    (map table_number ((0 ∷ []) ∷ (2 ∷ 0 ∷ 1 ∷ []) ∷ (2 ∷ 1 ∷ 0 ∷ []) ∷ (1 ∷ 2 ∷ 0 ∷ []) ∷ (3 ∷ 1 ∷ 2 ∷ 0 ∷ []) ∷ document_posts ∷ []) ≡ 0 ∷ 0 ∷ 0 ∷ 2 ∷ 3 ∷ 0 ∷ [])
    × (map (level document_posts) (0 ∷ 1 ∷ 2 ∷ 3 ∷ 4 ∷ 5 ∷ 6 ∷ 7 ∷ 8 ∷ 9 ∷ []) ≡ 0 ∷ 1 ∷ 2 ∷ 2 ∷ 1 ∷ 2 ∷ 2 ∷ 3 ∷ 3 ∷ 4 ∷ [])
    × (answers nouns ≡ (1 ∷ 3 ∷ []) ∷ (8 ∷ 9 ∷ []) ∷ [])
    × (cost_to nouns (pruning nouns) (answers nouns) 1 ∷ cost_to nouns (pruning nouns) (answers nouns) 2 ∷ cost_all nouns (pruning nouns) (answers nouns) ∷ [] ≡ 0 ∷ 3 ∷ 6 ∷ [])
    × (nouns_listed 2 3 ≡ record { tuples = 1; ending = Spent; used = 2 })
    × (nouns_listed 3 2 ≡ record { tuples = 2; ending = Full; used = 3 })
    × (nouns_listed 5 3 ≡ record { tuples = 2; ending = Spent; used = 5 })
    × (nouns_listed 6 3 ≡ record { tuples = 2; ending = Finished; used = 6 })
    × (answers (problem document_posts document_labels after_phrases) ≡ (5 ∷ []) ∷ (7 ∷ []) ∷ (9 ∷ []) ∷ (8 ∷ []) ∷ (6 ∷ []) ∷ (4 ∷ []) ∷ [])
    × (answers (problem document_posts document_labels children) ≡ (1 ∷ []) ∷ (4 ∷ []) ∷ (2 ∷ []) ∷ (3 ∷ []) ∷ (5 ∷ []) ∷ (6 ∷ []) ∷ (7 ∷ []) ∷ (8 ∷ []) ∷ (9 ∷ []) ∷ [])
unfolding computing
examples = (refl, refl, refl, refl, refl, refl, refl, refl, refl, refl)

-- the rows to which an axis leads from row p
abbrev from_row : List ℕ → ℕ → ℕ → List Bool
from_row t c p = tab (axis_holds t c p) 0 (length t)

abbrev pub three_children : List ℕ
three_children = 3 ∷ 0 ∷ 1 ∷ 2 ∷ []

-- each axis, from VP (row 4), VBD (row 5) or NP (row 1) of D, and from the first of three siblings
pub axis_examples :
    (from_row document_posts 0 4 ≡ false ∷ false ∷ false ∷ false ∷ false ∷ true ∷ true ∷ false ∷ false ∷ false ∷ [])
    × (from_row document_posts 1 4 ≡ false ∷ false ∷ false ∷ false ∷ false ∷ true ∷ true ∷ true ∷ true ∷ true ∷ [])
    × (from_row document_posts 2 4 ≡ false ∷ false ∷ false ∷ false ∷ true ∷ true ∷ true ∷ true ∷ true ∷ true ∷ [])
    × (from_row document_posts 3 5 ≡ false ∷ false ∷ false ∷ false ∷ false ∷ false ∷ true ∷ false ∷ false ∷ false ∷ [])
    × (from_row document_posts 6 1 ≡ false ∷ false ∷ false ∷ false ∷ true ∷ true ∷ true ∷ true ∷ true ∷ true ∷ [])
    × (from_row three_children 3 1 ≡ false ∷ false ∷ true ∷ false ∷ [])
    × (from_row three_children 4 1 ≡ false ∷ false ∷ true ∷ true ∷ [])
    × (from_row three_children 5 1 ≡ false ∷ true ∷ true ∷ true ∷ [])
unfolding computing
axis_examples = (refl, refl, refl, refl, refl, refl, refl, refl)

-- one variable twice: Child(x,x) has no answer, Child*(x,x) every row; Child+ with Following is refused 6; no axis takes set 1
abbrev twice : ℕ → Question
twice c = record { variables = 1; head = 0 ∷ []; labels = []; axes = record { code = c; first = 0; second = 0 } ∷ [] }

abbrev query_told : List ℕ → Told
query_told codes = told_query (query_answer (record { variables = 1; head = []; labels = []; axes = map (λ c. record { code = c; first = 0; second = 0 }) codes }))

pub query_examples :
    (answers (problem document_posts document_labels (twice 0)) ≡ [])
    × (answers (problem document_posts document_labels (twice 2)) ≡ (0 ∷ []) ∷ (1 ∷ []) ∷ (2 ∷ []) ∷ (3 ∷ []) ∷ (4 ∷ []) ∷ (5 ∷ []) ∷ (6 ∷ []) ∷ (7 ∷ []) ∷ (8 ∷ []) ∷ (9 ∷ []) ∷ [])
    × (query_told (1 ∷ 6 ∷ []) ≡ record { number = 6; place = 0; values = [] })
    × (query_told [] ≡ record { number = 0; place = 0; values = 1 ∷ [] })
    × (query_told (7 ∷ []) ≡ record { number = 5; place = 0; values = [] })
unfolding computing
query_examples = (refl, refl, refl, refl, refl)
