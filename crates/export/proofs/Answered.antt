-- What an entry is told by a gathered query is what the lent question is answered. Assumes nothing.
use mathlib.Core.Path.{◌≡◌, ap, ◌∙◌}
use mathlib.Core.List.{List}
use Prim.Native.Nat.{ℕ}
use Rattle.meaning.specs.Query.{Question}
use Rattle.meaning.specs.Told.{told_query, told_prune, told_yes_no, told_search, told_list, told_sentence}
use Rattle.meaning.specs.Entries.{query_answer, prune_answer, prune_leaves, yes_no_answer, yes_no_leaves, search_answer, search_leaves_sets, search_leaves_found, list_answer, list_leaves_sets, list_leaves_found}
use Rattle.meaning.specs.Sentences.{SentenceRead}
use Rattle.std.specs.Prelude.{Bool, Result}
use Rattle.meaning.specs.declared.Refusal.{Refusal}
use Rattle.meaning.specs.declared.Listing.{Listing}
use Rattle.meaning.specs.declared.SentenceReading.{SentenceReading}
use Rattle.export.specs.Words.{told_words, SentenceTold}

pub query-told : (Q R : Question) (a : Result ℕ Refusal) (w : List ℕ) → Q ≡ R → a ≡ query_answer Q → w ≡ told_words (told_query a) → w ≡ told_words (told_query (query_answer R))
query-told Q R a w e h d = d ∙ ap (λ (x : Result ℕ Refusal). told_words (told_query x)) (h ∙ ap query_answer e)

module _ (t l : List ℕ) (Q R : Question) (e : Q ≡ R) (s : List ℕ) (w s' : List ℕ) where
  pub prune_told : (a : Result ℕ Refusal) → (a ≡ prune_answer t l Q s) × (s' ≡ prune_leaves t l Q s) → w ≡ told_words (told_prune a) →
      (w ≡ told_words (told_prune (prune_answer t l R s))) × (s' ≡ prune_leaves t l R s)
  prune_told a h d = (
    d ∙ ap (λ (x : Result ℕ Refusal). told_words (told_prune x)) (h.0 ∙ ap (λ (x : Question). prune_answer t l x s) e),
    h.1 ∙ ap (λ (x : Question). prune_leaves t l x s) e,
  )

  pub yes_no_told : (a : Result Bool Refusal) → (a ≡ yes_no_answer t l Q s) × (s' ≡ yes_no_leaves t l Q s) → w ≡ told_words (told_yes_no a) →
      (w ≡ told_words (told_yes_no (yes_no_answer t l R s))) × (s' ≡ yes_no_leaves t l R s)
  yes_no_told a h d = (
    d ∙ ap (λ (x : Result Bool Refusal). told_words (told_yes_no x)) (h.0 ∙ ap (λ (x : Question). yes_no_answer t l x s) e),
    h.1 ∙ ap (λ (x : Question). yes_no_leaves t l x s) e,
  )

  module _ (f f' : List ℕ) where
    pub search_told : (u : List ℕ) (a : Result Bool Refusal) →
        (a ≡ search_answer t l Q u s f) × (s' ≡ search_leaves_sets t l Q u s f) × (f' ≡ search_leaves_found t l Q u s f) → w ≡ told_words (told_search a) →
        (w ≡ told_words (told_search (search_answer t l R u s f))) × (s' ≡ search_leaves_sets t l R u s f) × (f' ≡ search_leaves_found t l R u s f)
    search_told u a h d = (
      d ∙ ap (λ (x : Result Bool Refusal). told_words (told_search x)) (h.0 ∙ ap (λ (x : Question). search_answer t l x u s f) e),
      h.1 ∙ ap (λ (x : Question). search_leaves_sets t l x u s f) e,
      h.2 ∙ ap (λ (x : Question). search_leaves_found t l x u s f) e,
    )

    pub list_told : (A : ℕ) (a : Result Listing Refusal) →
        (a ≡ list_answer t l Q A s f) × (s' ≡ list_leaves_sets t l Q A s f) × (f' ≡ list_leaves_found t l Q A s f) → w ≡ told_words (told_list a) →
        (w ≡ told_words (told_list (list_answer t l R A s f))) × (s' ≡ list_leaves_sets t l R A s f) × (f' ≡ list_leaves_found t l R A s f)
    list_told A a h d = (
      d ∙ ap (λ (x : Result Listing Refusal). told_words (told_list x)) (h.0 ∙ ap (λ (x : Question). list_answer t l x A s f) e),
      h.1 ∙ ap (λ (x : Question). list_leaves_sets t l x A s f) e,
      h.2 ∙ ap (λ (x : Question). list_leaves_found t l x A s f) e,
    )

pub sentence_told : (s n p l w p' l' : List ℕ) (a : Result SentenceReading Refusal) → SentenceRead s n p l a p' l' → w ≡ told_words (told_sentence a) → SentenceTold s n p l w p' l'
sentence_told s n p l w p' l' a h d = record { answer = a; read = h; words = d }
