-- What an answer's end tells: the text is the sentence and then the rest, which is shorter. Assumes nothing.
use Rattle.std.specs.Prelude.{◌≡◌, refl, Err, Bool, true, false, List, [], ◌∷◌, ◌++◌, ℕ, zero, suc, ◌-◌, ◌≤◌, ◌<◌, leb, length, drop}
use Rattle.std.proofs.Common.{sym, ap, ◌∙◌, arith, length-append}
use Rattle.meaning.specs.Tests.{Is, ◌&◌}
use Rattle.meaning.specs.Names.{pick, too_many}
use Rattle.meaning.specs.Sentences.{write, size, tree_of, Sentence, plain, bare, spell, allowed, Reading, found, wrong_at, large_at, IsReading, sentence_says, sentence_answer, sentence_rest, SentenceRead}
use Rattle.meaning.specs.declared.Refusal.TheVariants.{Counts, ShortBuffer}
use Rattle.brackets.specs.Right.{write_long}
use Rattle.brackets.specs.Same.{spell-on}
use Rattle.brackets.specs.Numbers.{read, read-refused, read_rows, read-end}

behind : (f r : List ℕ) (k : ℕ) → k ≡ length f → drop k (f ++ r) ≡ r
behind [] r zero h = refl
behind [] r (suc k) h = absurd (omega arith)
behind (x ∷ f) r zero h = absurd (omega arith)
behind (x ∷ f) r (suc k) h = behind f r k (omega arith)

spell_long : (x : Sentence) (r : List ℕ) → length r < length (spell x r)
unfolding spell
spell_long (plain w t) r = let a = length-append w (write t r) in omega (arith, write_long t r)
spell_long (bare w v t a) r =
    let e₁ = length-append w (40 ∷ (v ++ write t (a ++ 41 ∷ r))) in
    let e₂ = length-append v (write t (a ++ 41 ∷ r)) in
    let e₃ = length-append a (41 ∷ r) in
    omega (arith, write_long t (a ++ 41 ∷ r))

-- a sentence of so many rows, and then the rest
pub record Behind (text : List ℕ) (rows end : ℕ) : Type 0 where
  pub sentence : Sentence
  pub is_allowed : Is (allowed sentence)
  pub rows_are : rows ≡ size (tree_of sentence)
  pub text_is : text ≡ spell sentence (sentence_rest text (read rows end))
  pub in_text : end ≤ length text
  pub shorter : length (sentence_rest text (read rows end)) < length text

found-behind : (text : List ℕ) (x : Sentence) (r : List ℕ) → Is (allowed x) → text ≡ spell x r → Behind text (size (tree_of x)) (length text - length r)
unfolding sentence_rest
found-behind text x r h e =
    let s : text ≡ spell x [] ++ r = e ∙ sym (spell-on x r) in
    let n = ap length s in
    let m = length-append (spell x []) r in
    let d : drop (length text - length r) text ≡ r = ap (drop (length text - length r)) s ∙ behind (spell x []) r (length text - length r) (omega arith) in
    record {
      sentence = x;
      is_allowed = h;
      rows_are = refl;
      text_is = e ∙ ap (spell x) (sym d);
      in_text = omega arith;
      shorter = omega (arith, ap length d, spell_long x r, ap length e);
    }

pub read_behind : (text list post label : List ℕ) (rows end : ℕ) (post' label' : List ℕ) → SentenceRead text list post label (read rows end) post' label' → Behind text rows end
unfolding sentence_answer sentence_says pick IsReading
read_behind text list post label rows end post' label' R = go R.reading (too_many list) R.is_reading R.answered
  where
    go : (o : Reading) (b : Bool) → IsReading text o → read rows end ≡ pick b (Err Counts) (sentence_says text o (length post) (length label)) → Behind text rows end
    go o true I e = absurd (read-refused _ _ e)
    go (wrong_at q) false I e = absurd (read-refused _ _ e)
    go (large_at q) false I e = absurd (read-refused _ _ e)
    go (found x r) false I e = fit (leb (size (tree_of x)) (length post) & leb (size (tree_of x)) (length label)) e
      where
        fit : (c : Bool) → read rows end ≡ pick c (read (size (tree_of x)) (length text - length r)) (Err ShortBuffer) → Behind text rows end
        fit true e = rw (read_rows _ _ e, read-end _ _ e) (found-behind text x r I.is_allowed I.text)
        fit false e = absurd (read-refused _ _ e)
