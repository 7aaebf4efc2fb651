-- Two answers with the same number, place and values are equal. Assumes nothing.
-- Each kind of answer is made again from what it tells; so what is told settles the answer.
use Rattle.std.specs.Prelude.{◌≡◌, refl, Bool, true, false, Result, Ok, Err, List, [], ◌∷◌, ℕ, zero, suc, get_or}
use Rattle.std.proofs.Common.{sym, ap, ap₂, ◌∙◌}
use Rattle.meaning.specs.declared.Refusal.{Refusal}
use Rattle.meaning.specs.declared.Refusal.TheVariants.{Columns, PostNumbers, ThreeRows, Counts, Variables, Axes, EmptyHead, Tuple, ShortBuffer, QueryText, Brackets, TooLarge, HeadVariable}
use Rattle.meaning.specs.declared.Ending.{Ending}
use Rattle.meaning.specs.declared.Ending.TheVariants.{Finished, Full, Spent}
use Rattle.meaning.specs.declared.Listing.{Listing}
use Rattle.meaning.specs.declared.Query.{Query}
use Rattle.meaning.specs.declared.QueryReading.{QueryReading}
use Rattle.meaning.specs.declared.SentenceReading.{SentenceReading}
use Rattle.meaning.specs.QueryTexts.{said, answer as answer_to, answered, reading_of, reading, query_for}
use Rattle.meaning.specs.Told.{Told, number, place, ending_number, refused, given, told_table, told_query, told_prune, told_yes_no, told_search, told_list, told_query_text, told_sentence}

-- number k of a list, or the last
nth : {A : Type 0} → A → List A → ℕ → A
nth d [] k = d
nth d (x ∷ xs) zero = x
nth d (x ∷ xs) (suc k) = nth d xs k

-- a refusal from its number, less one, and its place
remade : ℕ → ℕ → Refusal
remade k p = nth Columns (Columns ∷ Columns ∷ PostNumbers ∷ ThreeRows ∷ Counts ∷ Variables ∷ Axes ∷ EmptyHead ∷ Tuple ∷ ShortBuffer ∷ QueryText p ∷ Brackets p ∷ TooLarge p ∷ HeadVariable ∷ []) k

refusal_remade : (r : Refusal) → remade (number r) (place r) ≡ r
unfolding remade nth number place
refusal_remade Columns = refl
refusal_remade PostNumbers = refl
refusal_remade ThreeRows = refl
refusal_remade Counts = refl
refusal_remade Variables = refl
refusal_remade Axes = refl
refusal_remade EmptyHead = refl
refusal_remade Tuple = refl
refusal_remade ShortBuffer = refl
refusal_remade (QueryText p) = refl
refusal_remade (Brackets p) = refl
refusal_remade (TooLarge p) = refl
refusal_remade HeadVariable = refl

-- an answer from what it tells: with number 0 the given value, otherwise the refusal
answer : {A : Type 0} → (List ℕ → A) → (Refusal → A) → ℕ → ℕ → List ℕ → A
answer give refuse zero p vs = give vs
answer give refuse (suc k) p vs = refuse (remade (suc k) p)

of : {A : Type 0} → (List ℕ → A) → (Refusal → A) → Told → A
of give refuse t = answer give refuse t.number t.place t.values

of_refused : {A : Type 0} (give : List ℕ → A) (refuse : Refusal → A) (r : Refusal) → of give refuse (refused r) ≡ refuse r
unfolding of answer refused number place remade nth
of_refused give refuse Columns = refl
of_refused give refuse PostNumbers = refl
of_refused give refuse ThreeRows = refl
of_refused give refuse Counts = refl
of_refused give refuse Variables = refl
of_refused give refuse Axes = refl
of_refused give refuse EmptyHead = refl
of_refused give refuse Tuple = refl
of_refused give refuse ShortBuffer = refl
of_refused give refuse (QueryText p) = refl
of_refused give refuse (Brackets p) = refl
of_refused give refuse (TooLarge p) = refl
of_refused give refuse HeadVariable = refl

of_given : {A : Type 0} (give : List ℕ → A) (refuse : Refusal → A) (vs : List ℕ) → of give refuse (given vs) ≡ give vs
unfolding of answer given
of_given give refuse vs = refl

-- an answer that can be made again from what it tells is settled by it
settled : {A : Type 0} (told : A → Told) (back : Told → A) → ((a : A) → back (told a) ≡ a) → (a b : A) → told a ≡ told b → a ≡ b
settled told back h a b e = sym (h a) ∙ ap back e ∙ h b

-- every answer is a Result: it is made again from the value that its numbers give
made : {A : Type 0} → (List ℕ → A) → Told → Result A Refusal
made give = of (λ vs. Ok (give vs)) (λ r. Err r)

made_refused : {A : Type 0} (give : List ℕ → A) (r : Refusal) → made give (refused r) ≡ Err r
unfolding made
made_refused give r = of_refused (λ vs. Ok (give vs)) (λ r. Err r) r

made_given : {A : Type 0} (give : List ℕ → A) (vs : List ℕ) → made give (given vs) ≡ Ok (give vs)
unfolding made
made_given give vs = of_given (λ vs. Ok (give vs)) (λ r. Err r) vs

value : List ℕ → ℕ → ℕ
value vs i = get_or vs i 0

pub refusal_told : (r s : Refusal) → number r ≡ number s → place r ≡ place s → r ≡ s
refusal_told r s e f = sym (refusal_remade r) ∙ (rw (e, f) (refusal_remade s))

none : List ℕ → Unit {0}
none vs = tt

pub table_told : (a b : Result (Unit {0}) Refusal) → told_table a ≡ told_table b → a ≡ b
unfolding told_table none
table_told = settled told_table (made none) back
  where
    back : (a : Result (Unit {0}) Refusal) → made none (told_table a) ≡ a
    back (Ok tt) = made_given none []
    back (Err r) = made_refused none r

-- one number
one : List ℕ → ℕ
one vs = value vs 0

pub query-told : (a b : Result ℕ Refusal) → told_query a ≡ told_query b → a ≡ b
unfolding told_query one value
query-told = settled told_query (made one) back
  where
    back : (a : Result ℕ Refusal) → made one (told_query a) ≡ a
    back (Ok s) = made_given one (s ∷ [])
    back (Err r) = made_refused one r

pub prune_told : (a b : Result ℕ Refusal) → told_prune a ≡ told_prune b → a ≡ b
unfolding told_prune one value
prune_told = settled told_prune (made one) back
  where
    back : (a : Result ℕ Refusal) → made one (told_prune a) ≡ a
    back (Ok s) = made_given one (s ∷ [])
    back (Err r) = made_refused one r

-- a truth told as 1 or 0
truth : List ℕ → Bool
truth vs = nth true (false ∷ true ∷ []) (value vs 0)

pub yes_no_told_lem : (a b : Result Bool Refusal) → told_yes_no a ≡ told_yes_no b → a ≡ b
unfolding told_yes_no truth value nth
yes_no_told_lem = settled told_yes_no (made truth) back
  where
    back : (a : Result Bool Refusal) → made truth (told_yes_no a) ≡ a
    back (Ok true) = made_given truth (1 ∷ [])
    back (Ok false) = made_given truth (0 ∷ [])
    back (Err r) = made_refused truth r

pub search_told : (a b : Result Bool Refusal) → told_search a ≡ told_search b → a ≡ b
unfolding told_search truth value nth
search_told = settled told_search (made truth) back
  where
    back : (a : Result Bool Refusal) → made truth (told_search a) ≡ a
    back (Ok true) = made_given truth (1 ∷ [])
    back (Ok false) = made_given truth (0 ∷ [])
    back (Err r) = made_refused truth r

listing : List ℕ → Listing
listing vs = record { ending = nth Spent (Finished ∷ Full ∷ Spent ∷ []) (value vs 0); tuples = value vs 1; strikings = value vs 2 }

told_listing : (e : Ending) (j u : ℕ) → made listing (given (ending_number e ∷ j ∷ u ∷ [])) ≡ Ok (record { ending = e; tuples = j; strikings = u })
unfolding listing value nth ending_number
told_listing Finished j u = made_given listing (0 ∷ j ∷ u ∷ [])
told_listing Full j u = made_given listing (1 ∷ j ∷ u ∷ [])
told_listing Spent j u = made_given listing (2 ∷ j ∷ u ∷ [])

pub list_told : (a b : Result Listing Refusal) → told_list a ≡ told_list b → a ≡ b
unfolding told_list listing value nth ending_number
list_told = settled told_list (made listing) back
  where
    back : (a : Result Listing Refusal) → made listing (told_list a) ≡ a
    back (Ok l) = told_listing l.ending l.tuples l.strikings
    back (Err r) = made_refused listing r

-- what a query text's reading tells beside its query, which is by value: the bytes of its names, or the refusal
pub answered_told : (a b : Result QueryReading Refusal) → told_query_text a ≡ told_query_text b → answered a ≡ answered b
unfolding told_query_text answered one value
answered_told a b e = sym (back a) ∙ ap (made one) e ∙ back b
  where
    back : (a : Result QueryReading Refusal) → made one (told_query_text a) ≡ answered a
    back (Ok x) = made_given one (x.bytes ∷ [])
    back (Err r) = made_refused one r

with_query : Query → List ℕ → QueryReading
with_query q vs = record { bytes = value vs 0; query = q }

pub query_text_told : (a b : Result QueryReading Refusal) → told_query_text a ≡ told_query_text b → query_for a ≡ query_for b → a ≡ b
unfolding told_query_text with_query query_for value
query_text_told a b e f = sym (back a) ∙ ap₂ (λ (q : Query) (t : Told). made (with_query q) t) f e ∙ back b
  where
    back : (a : Result QueryReading Refusal) → made (with_query (query_for a)) (told_query_text a) ≡ a
    back (Ok x) = made_given (with_query x.query) (x.bytes ∷ [])
    back (Err r) = made_refused (with_query (query_for (Err r))) r

-- what is answered to a text is the answer by the document's order of refusals
pub reading_answered : (s : List ℕ) (m : ℕ) → answered (reading s m) ≡ answer_to s m
unfolding reading reading_of answered
reading_answered s m = go (answer_to s m)
  where
    go : (a : Result ℕ Refusal) → answered (reading_of a (said s)) ≡ a
    go (Ok n) = refl
    go (Err r) = refl

sentence : List ℕ → SentenceReading
sentence vs = record { rows = value vs 0; end = value vs 1 }

pub sentence_told : (a b : Result SentenceReading Refusal) → told_sentence a ≡ told_sentence b → a ≡ b
unfolding told_sentence sentence value
sentence_told = settled told_sentence (made sentence) back
  where
    back : (a : Result SentenceReading Refusal) → made sentence (told_sentence a) ≡ a
    back (Ok x) = made_given sentence (x.rows ∷ x.end ∷ [])
    back (Err r) = made_refused sentence r
