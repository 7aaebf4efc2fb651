-- Steps in a row are the whole run; and there is exactly one run on every input. Assumes nothing.
use Rattle.std.specs.Prelude.{◌≡◌, refl, Bool, true, false, Result, Ok, Err, List, [], ◌∷◌, ◌++◌, ℕ, zero, suc, ◌<◌, length, take, drop, replicate}
use Rattle.std.proofs.Common.{sym, ap, subst, ◌∙◌, append-nil, arith}
use Rattle.std.proofs.lemmas.List.{length-replicate}
use Rattle.std.proofs.Math.Seq.{take-append_seam}
use Rattle.meaning.specs.Tests.{Is, non}
use Rattle.meaning.specs.Names.{pick}
use Rattle.meaning.specs.Query.{Question, asked, problem}
use Rattle.meaning.specs.Answers.{answers}
use Rattle.meaning.specs.Entries.{at_front, joined}
use Rattle.meaning.specs.Sentences.{blank, Reading, IsReading, sentence_answer, sentence_rest, posts_of, labels_of}
use Rattle.meaning.specs.QueryTexts.{said, names, closed, query_of, answer}
use Rattle.brackets.specs.Reader.{reading_of}
use Rattle.brackets.specs.Whole.{reading_right}
use Rattle.brackets.specs.Unique.{one-reading}
use Rattle.brackets.specs.Rest.{read_behind}
use Rattle.meaning.specs.Run.{Step, stops, goes_on, step, read, listed, listing, Onward, Prints, query_text_of, behind, Begun, IsRun, refusal_line}
use Rattle.meaning.specs.declared.Refusal.{Refusal}
use Rattle.meaning.specs.declared.Listing.{Listing}
use Rattle.meaning.specs.declared.SentenceReading.{SentenceReading}
use Rattle.search.specs.Steps.{lines_of, step_says, step_for, Leaves, Does}
use Rattle.search.specs.declared.step.SentenceStep.{SentenceStep}
use Rattle.search.specs.declared.step.SentenceStep.TheVariants.{Next, Last}

-- 1. Steps in a row: the bytes that each prints, from sentence k on with the text s left. Each is an answer that the function's
-- contract allows; the next starts where it says, and none comes after the last.
unfoldable pub bytes_of : SentenceStep → ℕ
bytes_of (Next n end) = n
bytes_of (Last n) = n

unfoldable pub Then : SentenceStep → List ℕ → Type 0 → (List ℕ → Type 0) → Type 0
Then (Next n end) s None More = More (drop end s)
Then (Last n) s None More = None

unfoldable pub InARow : Question → List ℕ → List (List ℕ) → ℕ → List ℕ → Type 0
InARow q list [] k s = ⊥
InARow q list (p ∷ ps) k s =
    (a : SentenceStep) × (out : List ℕ) × (out' : List ℕ) × Does k q list s a out out' × (p ≡ take (bytes_of a) out')
    × Then a s (ps ≡ []) (InARow q list ps (suc k))

-- what a step's answer counts is what it prints
front_is : (l b : List ℕ) → take (length l) (at_front l b) ≡ l
unfolding at_front
front_is l b = take-append_seam l (drop (length l) b)

counted : (o : Step) → bytes_of (step_says o) ≡ length (lines_of o)
unfolding bytes_of step_says lines_of
counted (stops lines) = refl
counted (goes_on lines end) = refl

printed_is : (o : Step) (a : SentenceStep) (out out' p : List ℕ) → Leaves o a out out' → p ≡ take (bytes_of a) out' → p ≡ lines_of o
printed_is o a out out' p W e =
    e ∙ (ap (λ (x : SentenceStep). take (bytes_of x) out') W.answered
    ∙ (ap (λ (n : ℕ). take n out') (counted o) ∙ (ap (take (length (lines_of o))) W.printed ∙ front_is (lines_of o) out)))

then_as : (a b : SentenceStep) (s : List ℕ) (None : Type 0) (More : List ℕ → Type 0) → a ≡ b → Then a s None More → Then b s None More
then_as a b s None More e T = subst (λ (x : SentenceStep). Then x s None More) e T

onward_as : (o o' : Step) (s : List ℕ) (None : Type 0) (More : List ℕ → List ℕ → Type 0) (out : List ℕ) → o ≡ o' → Onward o s None More out → Onward o' s None More out
onward_as o o' s None More out e T = subst (λ (x : Step). Onward x s None More out) e T

pub in_a_row : (q : Question) (list : List ℕ) (ps : List (List ℕ)) (k : ℕ) (s : List ℕ) → InARow q list ps k s → (gs : List Reading) × Prints q list gs k s (joined ps)
unfolding InARow step_for pick Then step_says lines_of Prints Onward joined non
in_a_row q list [] k s H = absurd H
in_a_row q list (p ∷ ps) k s (a, out, out', D, e, T) = go (blank s) refl (step k q list s D.reading) refl D.leaves (in_a_row q list ps (suc k))
  where
    go : (b : Bool) → blank s ≡ b → (o : Step) → step k q list s D.reading ≡ o → Leaves (pick b (stops []) o) a out out' → ((r : List ℕ) → InARow q list ps (suc k) r → (gs : List Reading) × Prints q list gs (suc k) r (joined ps))
        → (gs : List Reading) × Prints q list gs k s (joined (p ∷ ps))
    go true i o j W more =
        let n : ps ≡ [] = then_as a _ s (ps ≡ []) (InARow q list ps (suc k)) W.answered T in
        let l = printed_is _ a out out' p W e in ([], (i, ap (λ (x : List ℕ). x ++ joined ps) l ∙ ap joined n))
    go false i (stops lines) j W more =
        let n : ps ≡ [] = then_as a _ s (ps ≡ []) (InARow q list ps (suc k)) W.answered T in
        let l = printed_is _ a out out' p W e in (
          D.reading ∷ [],
          (ap non i, D.is_reading, onward_as (stops lines) _ s ([] ≡ []) (Prints q list [] (suc k)) _ (sym j) (refl, ap (λ (x : List ℕ). x ++ joined ps) l ∙ (ap (λ (x : List (List ℕ)). lines ++ joined x) n ∙ append-nil lines))),
        )
    go false i (goes_on lines end) j W more =
        let r : InARow q list ps (suc k) (drop end s) = then_as a _ s (ps ≡ []) (InARow q list ps (suc k)) W.answered T in
        let l = printed_is _ a out out' p W e in
        let m = more (drop end s) r in (
          D.reading ∷ m.0,
          (ap non i, D.is_reading, onward_as (goes_on lines end) _ s (m.0 ≡ []) (Prints q list m.0 (suc k)) _ (sym j) (joined ps, ap (λ (x : List ℕ). x ++ joined ps) l, m.1)),
        )

-- the run whose query text was read: the steps in a row print what a run prints
pub run_in_a_row : (input : List ℕ) (n : ℕ) (ps : List (List ℕ)) → answer (query_text_of input) 544 ≡ Ok n
    → InARow (asked (query_of (said (query_text_of input)))) (closed (names (said (query_text_of input)))) ps 1 (behind input) → IsRun input (joined ps)
unfolding IsRun Begun
run_in_a_row input n ps e H =
    subst (λ (x : Result ℕ Refusal). Begun x (said (query_text_of input)) (behind input) (joined ps)) (sym e)
    (in_a_row (asked (query_of (said (query_text_of input)))) (closed (names (said (query_text_of input)))) ps 1 (behind input) H)

-- 2. No two runs print different bytes.
both : (b : Bool) → Is b → Is (non b) → ⊥
unfolding non
both true h i = absurd (let y : ◌≡◌ {A = ℕ} 0 1 = cc in omega arith)
both false h i = absurd (let y : ◌≡◌ {A = ℕ} 0 1 = cc in omega arith)

pub one_print : (q : Question) (list : List ℕ) (gs hs : List Reading) (k : ℕ) (s out out' : List ℕ) → Prints q list gs k s out → Prints q list hs k s out' → out ≡ out'
unfolding Prints Onward
one_print q list [] [] k s out out' (b, e) (c, f) = e ∙ sym f
one_print q list [] (h ∷ hs) k s out out' (b, e) (c, f, g) = absurd (both (blank s) b c)
one_print q list (g ∷ gs) [] k s out out' (b, e, f) (c, d) = absurd (both (blank s) c b)
one_print q list (g ∷ gs) (h ∷ hs) k s out out' (b, i, O) (c, j, O') =
    go (step k q list s g) O (onward_as (step k q list s h) (step k q list s g) s (hs ≡ []) (Prints q list hs (suc k)) out' (ap (step k q list s) (one-reading s h g j i)) O') (one_print q list gs hs (suc k))
  where
    go : (o : Step) → Onward o s (gs ≡ []) (Prints q list gs (suc k)) out → Onward o s (hs ≡ []) (Prints q list hs (suc k)) out'
        → ((r x x' : List ℕ) → Prints q list gs (suc k) r x → Prints q list hs (suc k) r x' → x ≡ x') → out ≡ out'
    go (stops lines) (n, e) (m, f) more = e ∙ sym f
    go (goes_on lines end) (x, e, P) (x', f, P') more = e ∙ (ap (λ (y : List ℕ). lines ++ y) (more (drop end s) x x' P P') ∙ sym f)

pub one-run : (input out out' : List ℕ) → IsRun input out → IsRun input out' → out ≡ out'
unfolding IsRun Begun
one-run input out out' R R' = go (answer (query_text_of input) 544) R R'
  where
    go : (a : Result ℕ Refusal) → Begun a (said (query_text_of input)) (behind input) out → Begun a (said (query_text_of input)) (behind input) out' → out ≡ out'
    go (Ok n) (gs, P) (hs, P') = one_print (asked (query_of (said (query_text_of input)))) (closed (names (said (query_text_of input)))) gs hs 1 (behind input) out out' P P'
    go (Err r) e f = e ∙ sym f

-- 3. There is a run on every input: where it goes on, less of the text is left.
rest_shorter : (s list : List ℕ) (g : Reading) (rows end : ℕ) → IsReading s g → sentence_answer s list g 1024 1024 ≡ Ok (record { rows = rows; end = end }) → length (drop end s) < length s
unfolding sentence_rest
rest_shorter s list g rows end i e =
    let z : List ℕ = replicate 1024 0 in
    let l : length z ≡ 1024 = length-replicate {A = ℕ} 1024 0 in
    (read_behind s list z z rows end _ _
    (record {
      reading = g;
      is_reading = i;
      answered = sym e ∙ (ap (λ (n : ℕ). sentence_answer s list g n 1024) (sym l) ∙ ap (λ (n : ℕ). sentence_answer s list g (length z) n) (sym l));
      posts_left = refl;
      labels-left = refl;
    })
    ).shorter

goes : Step → Bool
goes (stops lines) = false
goes (goes_on lines end) = true

end_of : Step → ℕ
end_of (stops lines) = 0
end_of (goes_on lines end) = end

not_on : (lines : List ℕ) (l : List ℕ) (end : ℕ) → stops lines ≡ goes_on l end → ⊥
unfolding goes
not_on lines l end e = let z : ◌≡◌ {A = Bool} false true = ap goes e in absurd (let y : ◌≡◌ {A = ℕ} 0 1 = cc in omega arith)

pub step_shorter : (k : ℕ) (q : Question) (list s : List ℕ) (g : Reading) (lines : List ℕ) (end : ℕ) → IsReading s g → step k q list s g ≡ goes_on lines end → length (drop end s) < length s
unfolding step read listed end_of
step_shorter k q list s g lines end i h = go (sentence_answer s list g 1024 1024) refl h
  where
    go : (a : Result SentenceReading Refusal) → sentence_answer s list g 1024 1024 ≡ a → read k q list g a ≡ goes_on lines end → length (drop end s) < length s
    go (Err r) e f = absurd (not_on _ lines end f)
    go (Ok x) e f = on (listing (posts_of g) (labels_of list g) q) f
      where
        on : (a : Result Listing Refusal) → listed k x.end (answers (problem (posts_of g) (labels_of list g) q)) a ≡ goes_on lines end → length (drop end s) < length s
        on (Err r) j = absurd (not_on _ lines end j)
        on (Ok l) j = let d : x.end ≡ end = ap end_of j in subst (λ (y : ℕ). length (drop y s) < length s) d (rest_shorter s list g x.rows x.end i e)

prints : (q : Question) (list : List ℕ) (f : ℕ) (k : ℕ) (s : List ℕ) → length s < f → (out : List ℕ) × (gs : List Reading) × Prints q list gs k s out
unfolding Prints Onward non
prints q list zero k s l = absurd (omega (arith, l))
prints q list (suc f) k s l = go (blank s) refl (step k q list s (reading_of s)) refl (prints q list f (suc k))
  where
    go : (b : Bool) → blank s ≡ b → (o : Step) → step k q list s (reading_of s) ≡ o → ((r : List ℕ) → length r < f → (out : List ℕ) × (gs : List Reading) × Prints q list gs (suc k) r out)
        → (out : List ℕ) × (gs : List Reading) × Prints q list gs k s out
    go true i o j more = ([], [], (i, refl))
    go false i (stops lines) j more = (lines, reading_of s ∷ [], (ap non i, reading_right s, onward_as (stops lines) _ s ([] ≡ []) (Prints q list [] (suc k)) lines (sym j) (refl, refl)))
    go false i (goes_on lines end) j more =
        let m = more (drop end s) (omega (arith, l, step_shorter k q list s (reading_of s) lines end (reading_right s) j)) in (
          lines ++ m.0,
          reading_of s ∷ m.1,
          (ap non i, reading_right s, onward_as (goes_on lines end) _ s (m.1 ≡ []) (Prints q list m.1 (suc k)) (lines ++ m.0) (sym j) (m.0, refl, m.2)),
        )

pub some-run : (input : List ℕ) → (out : List ℕ) × IsRun input out
unfolding IsRun Begun
some-run input = go (answer (query_text_of input) 544)
  where
    go : (a : Result ℕ Refusal) → (out : List ℕ) × Begun a (said (query_text_of input)) (behind input) out
    go (Ok n) = let p = prints (asked (query_of (said (query_text_of input)))) (closed (names (said (query_text_of input)))) (suc (length (behind input))) 1 (behind input) (omega arith) in (p.0, (p.1, p.2))
    go (Err r) = (refusal_line 0 r, refl)
