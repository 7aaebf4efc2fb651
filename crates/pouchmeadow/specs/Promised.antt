-- What each entry is to give, on every input: its answer, and what it leaves in each buffer that it was lent. Assumes nothing: these are definitions.
use Rattle.std.specs.Prelude.{◌≡◌, Bool, Result, List, ℕ, ltb, length}
use Rattle.meaning.specs.Tests.{◌&◌}
use Rattle.meaning.specs.Table.{is_sized, is_tree}
use Rattle.meaning.specs.Axes.{is_axis, axis_holds}
use Rattle.meaning.specs.Query.{Question}
use Rattle.meaning.specs.Entries.{table_answer, query_answer, prune_answer, prune_leaves, yes_no_answer, yes_no_leaves, search_answer, search_leaves_sets, search_leaves_found, list_answer, list_leaves_sets, list_leaves_found}
use Rattle.meaning.specs.QueryTexts.{reading, buffer}
use Rattle.meaning.specs.Sentences.{sentence_rest}
use Rattle.meaning.specs.declared.Query.{Query}
use Rattle.meaning.specs.declared.Refusal.{Refusal}
use Rattle.meaning.specs.declared.Listing.{Listing}
use Rattle.meaning.specs.declared.QueryReading.{QueryReading}
use Rattle.meaning.specs.declared.SentenceReading.{SentenceReading}
use Rattle.pouchmeadow.specs.declared.Terms.{Terms}
use Rattle.pouchmeadow.specs.Lent.{terms_of}

-- t are the post numbers, l the labels, q the question, `sets` and `found` the buffers as they come
abbrev pub ChecksTable : List ℕ → List ℕ → Result (Unit {0}) Refusal → Type 0
ChecksTable t l a = a ≡ table_answer t l

-- whether an axis holds between two rows of a tree; of anything else it does not
unfoldable pub axis_among : List ℕ → ℕ → ℕ → ℕ → Bool
axis_among t code p q = is_axis code & ltb p (length t) & ltb q (length t) & axis_holds t code p q

unfoldable pub axis_on : List ℕ → List ℕ → ℕ → ℕ → ℕ → Bool
axis_on t l code p q = is_sized t l & is_tree t & axis_among t code p q

abbrev pub TestsAxis : List ℕ → List ℕ → ℕ → ℕ → ℕ → Bool → Type 0
TestsAxis t l code p q b = b ≡ axis_on t l code p q

abbrev pub TakesTerms : Query → Terms → Type 0
TakesTerms q t = t ≡ terms_of q

abbrev pub ChecksQuery : Question → Result ℕ Refusal → Type 0
ChecksQuery q a = a ≡ query_answer q

abbrev pub Prunes : List ℕ → List ℕ → Question → List ℕ → Result ℕ Refusal → List ℕ → Type 0
Prunes t l q sets a left = (a ≡ prune_answer t l q sets) × (left ≡ prune_leaves t l q sets)

abbrev pub SaysYesOrNo : List ℕ → List ℕ → Question → List ℕ → Result Bool Refusal → List ℕ → Type 0
SaysYesOrNo t l q sets a left = (a ≡ yes_no_answer t l q sets) × (left ≡ yes_no_leaves t l q sets)

abbrev pub FindsAfter : List ℕ → List ℕ → Question → List ℕ → List ℕ → List ℕ → Result Bool Refusal → List ℕ → List ℕ → Type 0
FindsAfter t l q tuple sets found a left there = (a ≡ search_answer t l q tuple sets found) × (left ≡ search_leaves_sets t l q tuple sets found) × (there ≡ search_leaves_found t l q tuple sets found)

abbrev pub Lists : List ℕ → List ℕ → Question → ℕ → List ℕ → List ℕ → Result Listing Refusal → List ℕ → List ℕ → Type 0
Lists t l q allowance sets found a left there = (a ≡ list_answer t l q allowance sets found) × (left ≡ list_leaves_sets t l q allowance sets found) × (there ≡ list_leaves_found t l q allowance sets found)

-- the readers; the reader of sentences keeps to `SentenceRead` of crates/meaning
abbrev pub ReadsQuery : List ℕ → List ℕ → Result QueryReading Refusal → List ℕ → Type 0
ReadsQuery text names r left = (r ≡ reading text (length names)) × (left ≡ buffer text names)

abbrev pub HandsBack : List ℕ → Result SentenceReading Refusal → List ℕ → Type 0
HandsBack text answer part = part ≡ sentence_rest text answer
