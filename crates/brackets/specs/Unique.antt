-- What stands at a text's front is determined, and so are the answer of a reading and both columns. Assumes nothing.
use Rattle.std.specs.Prelude.{◌≡◌, refl, Bool, List, [], ◌∷◌, ◌++◌, ℕ, zero, suc, ◌≤◌, ◌<◌, length, take}
use Rattle.std.proofs.Common.{sym, ap, ap₂, ◌∙◌, append_assoc, arith, length-append}
use Rattle.std.proofs.Math.Decide.{dec_lt}
use Rattle.brackets.specs.Texts.{inside-at, take_front, take-few}
use Rattle.meaning.specs.Tests.{Is}
use Rattle.meaning.specs.Sentences.{Sentence, spell, legal, allowed, Begins, Reading, found, wrong_at, large_at, IsSentence, Is11, Is12, IsReading, sentence_answer, posts_of, labels_of, sentence_leaves, SentenceRead}
use Rattle.brackets.specs.Both.{and_l}
use Rattle.brackets.specs.Numbers.{Answer}
use Rattle.brackets.specs.Reader.{reading_of}
use Rattle.brackets.specs.Steps.{start, run, ended}
use Rattle.brackets.specs.Machine.{sentence_run}
use Rattle.brackets.specs.Same.{spell-on, one_sentence}
use Rattle.brackets.specs.Whole.{reading_right}

is_legal : (x : Sentence) → Is (allowed x) → Is (legal x)
unfolding allowed
is_legal x h = and_l _ _ h

begins_legal : (c : List ℕ) → Begins allowed c → Begins legal c
begins_legal c B = record { sentence = B.sentence; passes = is_legal B.sentence B.passes; others = B.others; text = B.text }

-- ---- a shorter beginning
pub record Longer (s : List ℕ) (i j : ℕ) : Type 0 where
  pub z : List ℕ
  pub is : take j s ≡ take i s ++ z

longer : (s : List ℕ) (i j : ℕ) → i ≤ j → Longer s i j
longer s zero j h = record { z = take j s; is = refl }
longer s (suc i) zero h = absurd (omega arith)
longer [] (suc i) (suc j) h = record { z = []; is = refl }
longer (x ∷ s) (suc i) (suc j) h = let L = longer s i j (omega arith) in record { z = L.z; is = ap (λ (y : List ℕ). x ∷ y) L.is }

begins_shorter : (p : Sentence → Bool) (s : List ℕ) (i j : ℕ) → i ≤ j → Begins p (take j s) → Begins p (take i s)
begins_shorter p s i j h B =
    let L = longer s i j h in
    record { sentence = B.sentence; passes = B.passes; others = L.z ++ B.others; text = sym (append_assoc (take i s) L.z B.others) ∙ ap (λ (y : List ℕ). y ++ B.others) (sym L.is) ∙ B.text }

-- ---- two faults
module _ (s : List ℕ) where
  same_11 : (p q : ℕ) → Is11 s p → Is11 s q → p ≡ q
  same_11 p q I J = go (dec_lt p q) (dec_lt q p)
    where
      go : Dec (p < q) → Dec (q < p) → p ≡ q
      go (yes h) k = absurd (I.stops (omega (arith, J.in_text)) (begins_shorter legal s (suc p) q h (begins_legal _ J.before)))
      go (no h) (yes k) = absurd (J.stops (omega (arith, I.in_text)) (begins_shorter legal s (suc q) p k (begins_legal _ I.before)))
      go (no h) (no k) = omega arith

  not_both : (p q : ℕ) → Is11 s p → Is12 s q → ⊥
  not_both p q I J = go (dec_lt q p)
    where
      go : Dec (q < p) → ⊥
      go (yes h) = J.beyond (begins_shorter allowed s (suc q) p h I.before)
      go (no h) = I.stops (omega (arith, inside-at s q 39 J.opens)) (begins_shorter legal s (suc p) (suc q) (omega arith) J.continues)

  same_12 : (p q : ℕ) → Is12 s p → Is12 s q → p ≡ q
  same_12 p q I J = go (dec_lt p q) (dec_lt q p)
    where
      go : Dec (p < q) → Dec (q < p) → p ≡ q
      go (yes h) k = absurd (I.beyond (begins_shorter allowed s (suc p) q h J.before))
      go (no h) (yes k) = absurd (J.beyond (begins_shorter allowed s (suc q) p k I.before))
      go (no h) (no k) = omega arith

  -- ---- a sentence and a fault
  read_11 : (x : Sentence) (r : List ℕ) (p : ℕ) → IsSentence s x r → Is11 s p → ⊥
  read_11 x r p R I = I.none x r (is_legal x R.is_allowed) R.text

  ended_is : (a b : List ℕ) → ended a ≡ ended b → a ≡ b
  ended_is a b e = cc

  read_12 : (x : Sentence) (r : List ℕ) (p : ℕ) → IsSentence s x r → Is12 s p → ⊥
  read_12 x r p R J = go (dec_lt p (length (spell x [])))
    where
      T : s ≡ spell x [] ++ r
      T = R.text ∙ sym (spell-on x r)

      front : take (length (spell x [])) s ≡ spell x []
      front = ap (take (length (spell x []))) T ∙ take_front (spell x []) r

      whole : Begins allowed (take (length (spell x [])) s)
      whole = record { sentence = x; passes = R.is_allowed; others = []; text = ap (λ (y : List ℕ). y ++ []) front ∙ spell-on x [] }

      late : (z : List ℕ) → take (suc p) s ≡ spell x [] ++ z → 0 < length z → ⊥
      late z e h =
          let B = J.continues in
          let m = B.others in
          let q : spell x (z ++ m) ≡ spell B.sentence [] = sym (spell-on x (z ++ m)) ∙ sym (append_assoc (spell x []) z m) ∙ ap (λ (y : List ℕ). y ++ m) (sym e) ∙ B.text in
          let k : z ++ m ≡ [] = ended_is (z ++ m) [] (sym (sentence_run x (is_legal x R.is_allowed) (z ++ m)) ∙ ap (λ (y : List ℕ). run y start) q ∙ sentence_run B.sentence B.passes []) in
          let n = ap length k in
          let o = length-append z m in
          omega arith

      go : Dec (p < length (spell x [])) → ⊥
      go (yes h) = J.beyond (begins_shorter allowed s (suc p) (length (spell x [])) h whole)
      go (no h) =
          let L = longer s (length (spell x [])) (suc p) (omega arith) in
          let e : take (suc p) s ≡ spell x [] ++ L.z = L.is ∙ ap (λ (y : List ℕ). y ++ L.z) front in
          let n = inside-at s p 39 J.opens in
          let k = ap length e in
          let o = length-append (spell x []) L.z in
          late L.z e (omega (arith, take-few (suc p) s n))

-- ---- the reading is determined, and computed
pub one-reading : (s : List ℕ) (o o' : Reading) → IsReading s o → IsReading s o' → o ≡ o'
unfolding IsReading
one-reading s (found x r) (found x' r') R R' = let e = one_sentence x x' r r' (is_legal x R.is_allowed) (is_legal x' R'.is_allowed) (sym R.text ∙ R'.text) in ap₂ found e.0 e.1
one-reading s (found x r) (wrong_at p) R I = absurd (read_11 s x r p R I)
one-reading s (found x r) (large_at p) R I = absurd (read_12 s x r p R I)
one-reading s (wrong_at p) (found x r) I R = absurd (read_11 s x r p R I)
one-reading s (wrong_at p) (wrong_at q) I J = ap wrong_at (same_11 s p q I J)
one-reading s (wrong_at p) (large_at q) I J = absurd (not_both s p q I J)
one-reading s (large_at p) (found x r) I R = absurd (read_12 s x r p R I)
one-reading s (large_at p) (wrong_at q) I J = absurd (not_both s q p J I)
one-reading s (large_at p) (large_at q) I J = ap large_at (same_12 s p q I J)

pub reading_is : (s : List ℕ) (o : Reading) → IsReading s o → reading_of s ≡ o
reading_is s o h = one-reading s (reading_of s) o (reading_right s) h

-- ---- any two results that the reader's contract allows are equal
module _ (text list post label : List ℕ) (a a' : Answer) (p p' l l' : List ℕ) (R : SentenceRead text list post label a p l) (R' : SentenceRead text list post label a' p' l') where
  same-reading : R.reading ≡ R'.reading
  same-reading = one-reading text _ _ R.is_reading R'.is_reading

  pub one_answer : a ≡ a'
  one_answer = R.answered ∙ ap (λ (o : Reading). sentence_answer text list o (length post) (length label)) same-reading ∙ sym R'.answered

  pub one_post : p ≡ p'
  one_post = R.posts_left ∙ ap₂ (λ (b : Answer) (o : Reading). sentence_leaves b (posts_of o) post) one_answer same-reading ∙ sym R'.posts_left

  pub one_label : l ≡ l'
  one_label = R.labels-left ∙ ap₂ (λ (b : Answer) (o : Reading). sentence_leaves b (labels_of list o) label) one_answer same-reading ∙ sym R'.labels-left

-- what the contract determines, computed: every reading has it
pub computed : (text list post label : List ℕ)
    → (let a = sentence_answer text list (reading_of text) (length post) (length label) in
    SentenceRead text list post label a (sentence_leaves a (posts_of (reading_of text)) post) (sentence_leaves a (labels_of list (reading_of text)) label))
computed text list post label = record { reading = reading_of text; is_reading = reading_right text; answered = refl; posts_left = refl; labels-left = refl }
