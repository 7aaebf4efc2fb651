-- Versions of the entries that their contracts refuse, each by document 01's example: what an entry that refuses everything, says a fixed yes, gives a fixed tuple, writes nothing, stops after the first tuple and says finished, or invents its strikings would have to meet is absurd. Assumes nothing.
use Rattle.std.specs.Prelude.{◌≡◌, refl, Bool, true, false, Result, Ok, Err, List, [], ◌∷◌, ℕ, get_or, replicate}
use Rattle.std.proofs.Common.{sym, ap, ◌∙◌, arith}
use Rattle.meaning.specs.Query.{no_label, firsts}
use Rattle.meaning.specs.Words.{width, word_of, words_of}
use Rattle.meaning.specs.Entries.{table_answer, query_answer, needed, prune_grounds, prune_says, prune_answer, unless, prune_leaves, at_front, cleared, yes_no_says, yes_no_answer, yes_no_leaves, is_tuple, search_grounds, search_says, search_answer, search_leaves_sets, first_at_front, search_leaves_found, list_grounds, list_outcome, list_says, list_answer, list_leaves_sets, joined, list_leaves_found}
use Rattle.meaning.specs.Examples.{computing, document_posts, document_labels}
use Rattle.meaning.specs.declared.Condition.{Condition}
use Rattle.meaning.specs.declared.Ending.TheVariants.{Finished}
use Rattle.meaning.specs.declared.Refusal.{Refusal}
use Rattle.meaning.specs.declared.Listing.{Listing}
use Rattle.pouchmeadow.specs.declared.Terms.{Terms}
use Rattle.pouchmeadow.specs.Lent.{lent}
use Rattle.pouchmeadow.specs.Promised.{ChecksTable, ChecksQuery, Prunes, SaysYesOrNo, FindsAfter, Lists}

-- Q(x,y) <- NP(x), Child+(x,y), NN(y).
abbrev nouns : Terms
nouns = record {
  variables = 2;
  head_count = 2;
  head = 0 ∷ 1 ∷ replicate 6 0;
  label_count = 2;
  labels = record { variable = 0; label = 0 } ∷ record { variable = 1; label = 1 } ∷ replicate 30 no_label;
}

abbrev below : List Condition
below = record { code = 1; first = 0; second = 1 } ∷ []

-- Q(x) <- Child(y,x).
abbrev child : List Condition
child = record { code = 0; first = 1; second = 0 } ∷ []

abbrev anything : Terms
anything = record { variables = 2; head_count = 1; head = replicate 8 0; label_count = 0; labels = replicate 32 no_label }

-- Q(x) <- Child(x,x).
abbrev own-child : List Condition
own-child = record { code = 0; first = 0; second = 0 } ∷ []

-- two words of sets, and what a search and a listing write into
abbrev words : List ℕ
words = 7 ∷ 7 ∷ []

abbrev places : List ℕ
places = 9 ∷ 9 ∷ 9 ∷ 9 ∷ 9 ∷ 9 ∷ []

-- a listing that says finished
abbrev finished : ℕ → ℕ → Listing
finished tuples strikings = record { ending = Finished; tuples = tuples; strikings = strikings }

-- the tuples and the strikings of a listing
told_tuples : Result Listing Refusal → ℕ
told_tuples (Ok l) = l.tuples
told_tuples (Err r) = 0

told_strikings : Result Listing Refusal → ℕ
told_strikings (Ok l) = l.strikings
told_strikings (Err r) = 0

-- what the entries answer and leave on these inputs, computed
pub told :
    (table_answer document_posts document_labels ≡ Ok tt)
    × (query_answer (lent nouns below) ≡ Ok 1)
    × (prune_answer document_posts document_labels (lent anything child) words ≡ Ok 6)
    × (prune_leaves document_posts document_labels (lent anything child) words ≡ 1022 ∷ 339 ∷ [])
    × (yes_no_answer document_posts document_labels (lent nouns below) words ≡ Ok true)
    × (yes_no_answer document_posts document_labels (lent anything own-child) words ≡ Ok false)
    × (search_answer document_posts document_labels (lent nouns below) (8 ∷ 9 ∷ []) words places ≡ Ok false)
    × (search_answer document_posts document_labels (lent nouns below) (1 ∷ 3 ∷ []) words places ≡ Ok true)
    × (search_leaves_found document_posts document_labels (lent nouns below) (0 ∷ 0 ∷ []) words places ≡ 1 ∷ 3 ∷ 9 ∷ 9 ∷ 9 ∷ 9 ∷ [])
    × (search_leaves_found document_posts document_labels (lent nouns below) (1 ∷ 3 ∷ []) words places ≡ 8 ∷ 9 ∷ 9 ∷ 9 ∷ 9 ∷ 9 ∷ [])
    × (list_answer document_posts document_labels (lent nouns below) 6 words places ≡ Ok (finished 2 6))
    × (list_leaves_sets document_posts document_labels (lent nouns below) 6 words places ≡ 0 ∷ 0 ∷ [])
    × (list_leaves_found document_posts document_labels (lent nouns below) 6 words places ≡ 1 ∷ 3 ∷ 8 ∷ 9 ∷ 9 ∷ 9 ∷ [])
unfolding computing lent firsts width word_of words_of needed prune_grounds prune_says prune_answer unless prune_leaves at_front cleared yes_no_says yes_no_answer yes_no_leaves is_tuple search_grounds search_says search_answer search_leaves_sets first_at_front search_leaves_found list_grounds list_outcome list_says list_answer list_leaves_sets joined list_leaves_found
told = (refl, refl, refl, refl, refl, refl, refl, refl, refl, refl, refl, refl, refl)

-- one that refuses everything
pub refuses_everything : (r : Refusal) (left there : List ℕ)
    → (ChecksTable document_posts document_labels (Err r) → ⊥)
    × (ChecksQuery (lent nouns below) (Err r) → ⊥)
    × (Prunes document_posts document_labels (lent anything child) words (Err r) left → ⊥)
    × (SaysYesOrNo document_posts document_labels (lent nouns below) words (Err r) left → ⊥)
    × (FindsAfter document_posts document_labels (lent nouns below) (1 ∷ 3 ∷ []) words places (Err r) left there → ⊥)
    × (Lists document_posts document_labels (lent nouns below) 6 words places (Err r) left there → ⊥)
refuses_everything r left there = (
  λ e. let h = e ∙ told.0 in let z : ◌≡◌ {A = ℕ} 0 1 = cc in omega arith,
  λ e. let h = e ∙ told.1 in let z : ◌≡◌ {A = ℕ} 0 1 = cc in omega arith,
  λ e. let h = e.0 ∙ told.2 in let z : ◌≡◌ {A = ℕ} 0 1 = cc in omega arith,
  λ e. let h = e.0 ∙ told.4 in let z : ◌≡◌ {A = ℕ} 0 1 = cc in omega arith,
  λ e. let h = e.0 ∙ told.7 in let z : ◌≡◌ {A = ℕ} 0 1 = cc in omega arith,
  λ e. let h = e.0 ∙ told.10 in let z : ◌≡◌ {A = ℕ} 0 1 = cc in omega arith,
)

-- one with a fixed yes, or a fixed no; one that always finds; one that finds the same tuple after any
pub fixed_yes : (left : List ℕ) → SaysYesOrNo document_posts document_labels (lent anything own-child) words (Ok true) left → ⊥
fixed_yes left e = let h = e.0 ∙ told.5 in let z : ◌≡◌ {A = ℕ} 0 1 = cc in omega arith

pub fixed_no : (left : List ℕ) → SaysYesOrNo document_posts document_labels (lent nouns below) words (Ok false) left → ⊥
fixed_no left e = let h = e.0 ∙ told.4 in let z : ◌≡◌ {A = ℕ} 0 1 = cc in omega arith

pub always_found : (left there : List ℕ) → FindsAfter document_posts document_labels (lent nouns below) (8 ∷ 9 ∷ []) words places (Ok true) left there → ⊥
always_found left there e = let h = e.0 ∙ told.6 in let z : ◌≡◌ {A = ℕ} 0 1 = cc in omega arith

pub fixed_tuple : (a b : Result Bool Refusal) (left right there : List ℕ) → FindsAfter document_posts document_labels (lent nouns below) (0 ∷ 0 ∷ []) words places a left there
    → FindsAfter document_posts document_labels (lent nouns below) (1 ∷ 3 ∷ []) words places b right there → ⊥
fixed_tuple a b left right there e f = let h = ap (λ (l : List ℕ). get_or l 0 0) (sym (e.2 ∙ told.8) ∙ f.2 ∙ told.9) in omega (arith, h)

-- one that writes nothing, to the sets or to the answer buffer
pub writes_nothing : (a : Result ℕ Refusal) (b : Result Listing Refusal) (left there : List ℕ)
    → (Prunes document_posts document_labels (lent anything child) words a words → ⊥)
    × (Lists document_posts document_labels (lent nouns below) 6 words places b words there → ⊥)
    × (Lists document_posts document_labels (lent nouns below) 6 words places b left places → ⊥)
writes_nothing a b left there = (
  λ e. let h = ap (λ (l : List ℕ). get_or l 0 0) (e.1 ∙ told.3) in omega (arith, h),
  λ e. let h = ap (λ (l : List ℕ). get_or l 0 0) (e.1 ∙ told.11) in omega (arith, h),
  λ e. let h = ap (λ (l : List ℕ). get_or l 0 0) (e.2 ∙ told.12) in omega (arith, h),
)

-- one that finds the first tuple and then says finished
pub first_then_finished : (used : ℕ) (left there : List ℕ) → Lists document_posts document_labels (lent nouns below) 6 words places (Ok (finished 1 used)) left there → ⊥
unfolding told_tuples
first_then_finished used left there e = let z : ◌≡◌ {A = ℕ} 1 2 = ap told_tuples (e.0 ∙ told.10) in omega arith

-- one that invents its strikings: no number but these is allowed
pub invented_strikings : (n : ℕ) (left there : List ℕ)
    → (Prunes document_posts document_labels (lent anything child) words (Ok n) left → n ≡ 6)
    × (Lists document_posts document_labels (lent nouns below) 6 words places (Ok (finished 2 n)) left there → n ≡ 6)
unfolding told_strikings
invented_strikings n left there = (λ e. let h = e.0 ∙ told.2 in cc, λ e. ap told_strikings (e.0 ∙ told.10))
