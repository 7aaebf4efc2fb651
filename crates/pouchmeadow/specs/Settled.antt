-- No entry's contract leaves a choice: any two results that it allows, with what is left in the buffers, are equal. Assumes nothing.
--     by_equation, by_two, by_three     the one law: what is given by an equation is settled, and so is what is given by two or three
--     ..-settled                        each entry, for every input, as it is promised in Promised.antt
use Rattle.std.specs.Prelude.{◌≡◌, Bool, Result, List, ℕ}
use Rattle.std.proofs.Common.{sym, ◌∙◌}
use Rattle.meaning.specs.Query.{Question}
use Rattle.meaning.specs.Sentences.{SentenceRead}
use Rattle.meaning.specs.declared.Query.{Query}
use Rattle.meaning.specs.declared.Refusal.{Refusal}
use Rattle.meaning.specs.declared.Listing.{Listing}
use Rattle.meaning.specs.declared.QueryReading.{QueryReading}
use Rattle.meaning.specs.declared.SentenceReading.{SentenceReading}
use Rattle.brackets.specs.Unique.{one_answer, one_post, one_label}
use Rattle.pouchmeadow.specs.Promised.{ChecksTable, TestsAxis, TakesTerms, ChecksQuery, Prunes, SaysYesOrNo, FindsAfter, Lists, ReadsQuery, HandsBack}

-- at most one result is allowed
abbrev pub Settled : {X : Type 0} → (X → Type 0) → Type 0
Settled {X} P = (a b : X) → P a → P b → a ≡ b

pub by_equation : {X : Type 0} (x : X) → Settled (λ (a : X). a ≡ x)
by_equation x a b e f = e ∙ sym f

pub by_two : {X Y : Type 0} (x : X) (y : Y) → Settled (λ (r : X × Y). (r.0 ≡ x) × (r.1 ≡ y))
by_two x y a b e f = λ i. (by_equation x a.0 b.0 e.0 f.0 i, by_equation y a.1 b.1 e.1 f.1 i)

pub by_three : {X Y Z : Type 0} (x : X) (y : Y) (z : Z) → Settled (λ (r : X × Y × Z). (r.0 ≡ x) × (r.1 ≡ y) × (r.2 ≡ z))
by_three x y z a b e f = λ i. (by_equation x a.0 b.0 e.0 f.0 i, by_equation y a.1 b.1 e.1 f.1 i, by_equation z a.2 b.2 e.2 f.2 i)

pub table_settled : (t l : List ℕ) → Settled (ChecksTable t l)
table_settled t l = by_equation _

pub axis_settled : (t l : List ℕ) (code p q : ℕ) → Settled (TestsAxis t l code p q)
axis_settled t l code p q = by_equation _

pub terms_settled : (q : Query) → Settled (TakesTerms q)
terms_settled q = by_equation _

pub query_settled : (q : Question) → Settled (ChecksQuery q)
query_settled q = by_equation _

pub prune_settled : (t l : List ℕ) (q : Question) (sets : List ℕ) → Settled (λ (r : Result ℕ Refusal × List ℕ). Prunes t l q sets r.0 r.1)
prune_settled t l q sets = by_two _ _

pub yes_no_settled : (t l : List ℕ) (q : Question) (sets : List ℕ) → Settled (λ (r : Result Bool Refusal × List ℕ). SaysYesOrNo t l q sets r.0 r.1)
yes_no_settled t l q sets = by_two _ _

pub search_settled : (t l : List ℕ) (q : Question) (tuple sets found : List ℕ) → Settled (λ (r : Result Bool Refusal × List ℕ × List ℕ). FindsAfter t l q tuple sets found r.0 r.1 r.2)
search_settled t l q tuple sets found = by_three _ _ _

pub list_settled : (t l : List ℕ) (q : Question) (allowance : ℕ) (sets found : List ℕ) → Settled (λ (r : Result Listing Refusal × List ℕ × List ℕ). Lists t l q allowance sets found r.0 r.1 r.2)
list_settled t l q allowance sets found = by_three _ _ _

pub read-query_settled : (text names : List ℕ) → Settled (λ (r : Result QueryReading Refusal × List ℕ). ReadsQuery text names r.0 r.1)
read-query_settled text names = by_two _ _

pub rest_settled : (text : List ℕ) (answer : Result SentenceReading Refusal) → Settled (HandsBack text answer)
rest_settled text answer = by_equation _

-- the reader of sentences is promised by a record, of which one answer and one content of each column is proved
pub sentence_settled : (text names post label : List ℕ) → Settled (λ (r : Result SentenceReading Refusal × List ℕ × List ℕ). SentenceRead text names post label r.0 r.1 r.2)
sentence_settled text names post label a b R S = λ i. (one_answer text names post label a.0 b.0 a.1 b.1 a.2 b.2 R S i, one_post text names post label a.0 b.0 a.1 b.1 a.2 b.2 R S i, one_label text names post label a.0 b.0 a.1 b.1 a.2 b.2 R S i)
