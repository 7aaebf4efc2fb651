-- The part of a text that an answer leaves, and whether any but white space is left. Assumes nothing.
use Rattle.std.proofs.Common.{Ok, Err, min, ◌&&◌, ◌≡◌, refl, sym, ap, ◌∙◌, Bool, true, false, List, [], ◌∷◌, ℕ, ◌-◌, ◌≤◌, arith, length, take, drop, length-drop, drop_of_length-le, take_all}
use Rattle.std.specs.List.{list_all}
use Rattle.std.proofs.Math.Decide.{dec_le}
use Rattle.meaning.specs.declared.SentenceReading.{SentenceReading}
use Rattle.meaning.specs.Tests.{◌&◌}
use Rattle.meaning.specs.Sentences.{sentence_rest, white, all, blank}
use Rattle.brackets.specs.Numbers.{Answer}
use Rattle.meaning.specs.declared.Refusal.{Refusal}

to_the_end : (s : List ℕ) (a : ℕ) → take (length s - a) (drop a s) ≡ drop a s
to_the_end s a = take_all (length s - a) (drop a s) (omega (arith, length-drop a s))

pub rest_read : (text : List ℕ) (answer : Answer) (x : SentenceReading) → answer ≡ Ok x → (n : ℕ) → n ≡ min x.end (length text) → take (length text - n) (drop n text) ≡ sentence_rest text answer
unfolding sentence_rest
rest_read text answer x e n m = to_the_end text n ∙ within (dec_le x.end (length text)) ∙ ap (sentence_rest text) (sym e)
  where
    within : Dec (x.end ≤ length text) → drop n text ≡ drop x.end text
    within (yes h) = ap (λ (k : ℕ). drop k text) (let q : n ≡ x.end = omega arith in q)
    within (no h) = drop_of_length-le text {i = n} (omega (arith, h)) ∙ sym (drop_of_length-le text {i = x.end} (omega (arith, h)))

pub rest-refused : (text : List ℕ) (answer : Answer) (why : Refusal) → answer ≡ Err why → text ≡ sentence_rest text answer
unfolding sentence_rest
rest-refused text answer why e = ap (sentence_rest text) (sym e)

pub all_blank : (s : List ℕ) → list_all white s ≡ blank s
unfolding blank all ◌&◌
all_blank [] = refl
all_blank (x ∷ s) = go (white x) (all_blank s)
  where
    go : (b : Bool) → list_all white s ≡ blank s → (b && list_all white s) ≡ (b & all white s)
    go true h = h
    go false h = refl
