-- What a reading answers, in document 01's numbers and places, and that these tell the answer. Assumes nothing.
use Rattle.std.specs.Prelude.{◌≡◌, refl, Result, Ok, Err, false, List, [], ◌∷◌, ℕ, ◌-◌, leb, eqb, length, get_or}
use Rattle.std.proofs.Common.{sym, ap, ◌∙◌}
use Rattle.meaning.specs.Tests.{Is, ◌&◌}
use Rattle.meaning.specs.Names.{pick, too_many}
use Rattle.meaning.specs.Sentences.{size, tree_of, Sentence, Reading, found, wrong_at, large_at, sentence_says, sentence_answer}
use Rattle.meaning.specs.Told.{number, place, Told, refused, given, told_sentence}
use Rattle.meaning.specs.declared.Refusal.{Refusal}
use Rattle.meaning.specs.declared.Refusal.TheVariants.{Columns, PostNumbers, ThreeRows, Counts, Variables, Axes, EmptyHead, Tuple, ShortBuffer, QueryText, Brackets, TooLarge, HeadVariable}
use Rattle.meaning.specs.declared.SentenceReading.{SentenceReading}

-- what a reader answers: the rows, and the place behind them; or why it refuses
abbrev pub Answer : Type 0
Answer = Result SentenceReading Refusal

abbrev pub read : ℕ → ℕ → Answer
read rows end = Ok (record { rows = rows; end = end })

-- an answer is one case only, with its values
pub read-refused : (x : SentenceReading) (r : Refusal) → ◌≡◌ {A = Answer} (Ok x) (Err r) → ⊥
read-refused x r e = cc

pub read_one : (x y : SentenceReading) → ◌≡◌ {A = Answer} (Ok x) (Ok y) → x ≡ y
read_one x y e = cc

pub read_rows : (x y : SentenceReading) → ◌≡◌ {A = Answer} (Ok x) (Ok y) → x.rows ≡ y.rows
read_rows x y e = ap (λ (z : SentenceReading). z.rows) (read_one x y e)

pub read-end : (x y : SentenceReading) → ◌≡◌ {A = Answer} (Ok x) (Ok y) → x.end ≡ y.end
read-end x y e = ap (λ (z : SentenceReading). z.end) (read_one x y e)

-- a refusal's number and place
unfoldable pub fault : ℕ → ℕ → Told
fault n p = record { number = n; place = p; values = [] }

module _ (text list : List ℕ) (m k : ℕ) where
  pub told_4 : (o : Reading) → Is (too_many list) → told_sentence (sentence_answer text list o m k) ≡ fault 4 0
  unfolding sentence_answer pick told_sentence refused number place fault
  told_4 o h = rw h

  module _ (h : too_many list ≡ false) where
    pub told_11 : (p : ℕ) → told_sentence (sentence_answer text list (wrong_at p) m k) ≡ fault 11 p
    unfolding sentence_answer sentence_says pick told_sentence refused number place fault
    told_11 p = rw h

    pub told_12 : (p : ℕ) → told_sentence (sentence_answer text list (large_at p) m k) ≡ fault 12 p
    unfolding sentence_answer sentence_says pick told_sentence refused number place fault
    told_12 p = rw h

    pub told_9 : (x : Sentence) (r : List ℕ) → (leb (size (tree_of x)) m & leb (size (tree_of x)) k) ≡ false → told_sentence (sentence_answer text list (found x r) m k) ≡ fault 9 0
    unfolding sentence_answer sentence_says pick told_sentence refused number place fault
    told_9 x r e = rw (h, e)

    pub told_rows : (x : Sentence) (r : List ℕ) → Is (leb (size (tree_of x)) m & leb (size (tree_of x)) k)
        → told_sentence (sentence_answer text list (found x r) m k) ≡ given (size (tree_of x) ∷ (length text - length r) ∷ [])
    unfolding sentence_answer sentence_says pick told_sentence
    told_rows x r e = rw (h, e)

-- ---- two answers that tell the same are the same
unfoldable pub refusal_of : ℕ → ℕ → Refusal
refusal_of n p =
    pick (eqb n 1) Columns
    (pick (eqb n 2) PostNumbers
    (pick (eqb n 3) ThreeRows
    (pick (eqb n 4) Counts
    (pick (eqb n 5) Variables
    (pick (eqb n 6) Axes
    (pick (eqb n 7) EmptyHead
    (pick (eqb n 8) Tuple
    (pick (eqb n 9) ShortBuffer (pick (eqb n 10) (QueryText p) (pick (eqb n 11) (Brackets p) (pick (eqb n 12) (TooLarge p) HeadVariable)))))))))))

pub refusal_of_lem : (r : Refusal) → refusal_of (number r) (place r) ≡ r
unfolding refusal_of pick number place
refusal_of_lem Columns = refl
refusal_of_lem PostNumbers = refl
refusal_of_lem ThreeRows = refl
refusal_of_lem Counts = refl
refusal_of_lem Variables = refl
refusal_of_lem Axes = refl
refusal_of_lem EmptyHead = refl
refusal_of_lem Tuple = refl
refusal_of_lem ShortBuffer = refl
refusal_of_lem (QueryText p) = refl
refusal_of_lem (Brackets p) = refl
refusal_of_lem (TooLarge p) = refl
refusal_of_lem HeadVariable = refl

unfoldable pub answer_told : Told → Answer
answer_told t = pick (eqb t.number 0) (read (get_or t.values 0 0) (get_or t.values 1 0)) (Err (refusal_of t.number t.place))

pub not_0 : (r : Refusal) → eqb (number r) 0 ≡ false
unfolding number
not_0 Columns = refl
not_0 PostNumbers = refl
not_0 ThreeRows = refl
not_0 Counts = refl
not_0 Variables = refl
not_0 Axes = refl
not_0 EmptyHead = refl
not_0 Tuple = refl
not_0 ShortBuffer = refl
not_0 (QueryText p) = refl
not_0 (Brackets p) = refl
not_0 (TooLarge p) = refl
not_0 HeadVariable = refl

answer-told : (a : Answer) → answer_told (told_sentence a) ≡ a
unfolding answer_told pick told_sentence given refused
answer-told (Ok x) = refl
answer-told (Err r) = rw (not_0 r) (ap (λ (q : Refusal). Err q) (refusal_of_lem r))

pub one_told : (a b : Answer) → told_sentence a ≡ told_sentence b → a ≡ b
one_told a b e = sym (answer-told a) ∙ ap answer_told e ∙ answer-told b
