-- One sentence of a run: the tuples in the answer buffer, and what a step answers and leaves. Assumes nothing.
use mathlib.Core.Path.{◌≡◌, refl, sym, ap, subst, ◌∙◌}
use mathlib.Core.Bool.{Bool, true, false}
use mathlib.Core.List.{List, [], ◌∷◌, ◌++◌, append_assoc}
use Prim.Native.Nat.{ℕ, zero, suc, ◌+◌, ◌-◌, ◌*◌, ◌/◌, ◌≤◌, ◌<◌}
use native.Mathlib.Omega.{arith}
use native.Mathlib.Nat.{mul-le-mul_right, div-mul-le_self, not-suc-le-zero, le_of_suc-le-suc}
use lib.Dec.{ltb, leb, eqb}
use lib.ListN.{length, take, drop, length-replicate}
use lib.Seq.{length-take-le, sets-eq, take_at, drop_at}
use borrow.Author.Tests.{eqb-false}
use Rattle.meaning.specs.Tests.{◌&◌}
use Rattle.meaning.specs.Names.{pick}
use Rattle.meaning.specs.Query.{Question, Problem, problem, asked}
use Rattle.meaning.specs.Answers.{answers}
use Rattle.meaning.specs.Listing.{pruning, room, Outcome, tuple_at}
use Rattle.meaning.specs.Entries.{Ground, ◌when◌, Verdict, fine, refuse, lowest, at_front, unless, table_grounds, query_grounds, list_grounds, needed, list_outcome, list_says, list_answer, joined, list_leaves_found}
use Rattle.meaning.specs.declared.Refusal.{Refusal}
use Rattle.meaning.specs.declared.Refusal.TheVariants.{EmptyHead, ShortBuffer}
use Rattle.std.specs.Prelude.{Result, Ok, Err}
use Rattle.meaning.specs.declared.Listing.{Listing}
use Rattle.meaning.specs.declared.SentenceReading.{SentenceReading}
use Rattle.meaning.specs.declared.Query.{Query}
use Rattle.theory.specs.Cost.{tuples-listed, tuples-room}
use Rattle.theory.specs.Tried.{answers_are}
use Rattle.theory.specs.Smallest.{Fit}
use Rattle.theory.specs.Tuples.{answer-length}
use Rattle.theory.specs.Whole.{lowest_both, accepted_table, accepted_query, accepted_fit}
use Rattle.answers.proofs.Searches.{head-length}
use Rattle.meaning.specs.Names.{too_many}
use Rattle.meaning.specs.Sentences.{blank, Reading, found, wrong_at, large_at, tree_of, size, sentence_says, sentence_answer, posts_of, labels_of, sentence_leaves, SentenceRead}
use Rattle.meaning.specs.declared.Refusal.TheVariants.{Counts}
use Rattle.brackets.specs.Reader.{reading_of}
use Rattle.brackets.specs.Whole.{reading_right}
use Rattle.brackets.specs.Table.{posts_length, labels_length, read_table}
use Rattle.meaning.specs.Run.{tuple_lines, ending_line, refusal_line, Step, stops, goes_on, listed, listing, read, step}
use Rattle.search.specs.Wrote.{Wrote, chunks}
use Rattle.search.specs.InARow.{step_shorter}
use Rattle.search.specs.Steps.{lines_of, step_says, step_for, Leaves, Does}
use Rattle.search.specs.declared.step.SentenceStep.{SentenceStep}
use Rattle.search.specs.declared.step.SentenceStep.TheVariants.{Next, Last}

-- 1. Tuples of one length, one after the other, are the chunks of the buffer.
pub chunks-joined : (k : ℕ) (L : List (List ℕ)) (rest : List ℕ) → ((i : ℕ) → i < length L → length (tuple_at L i) ≡ k) → chunks k (length L) (joined L ++ rest) ≡ L
unfolding chunks joined
chunks-joined k [] rest each = refl
chunks-joined k (s ∷ L) rest each =
    let a : (s ++ joined L) ++ rest ≡ s ++ (joined L ++ rest) = append_assoc s (joined L) rest in
    let e : length s ≡ k = each 0 (omega arith) in
    ap (λ (x : List ℕ). take k x ∷ chunks k (length L) (drop k x)) a
    ∙ (ap (λ (x : List ℕ). x ∷ chunks k (length L) (drop k (s ++ (joined L ++ rest)))) (take_at s (joined L ++ rest) k e)
    ∙ (ap (λ (x : List ℕ). s ∷ chunks k (length L) x) (drop_at s (joined L ++ rest) k e)
    ∙ ap (λ (x : List (List ℕ)). s ∷ x) (chunks-joined k L rest (λ i l. each (suc i) (omega (arith, l))))))

take_each : (k : ℕ) (L : List (List ℕ)) (n : ℕ) → n ≤ length L → ((i : ℕ) → i < length L → length (tuple_at L i) ≡ k) → (i : ℕ) → i < length (take n L) → length (tuple_at (take n L) i) ≡ k
take_each k [] zero l each i m = absurd (not-suc-le-zero m)
take_each k [] (suc n) l each i m = absurd (not-suc-le-zero m)
take_each k (s ∷ L) zero l each i m = absurd (not-suc-le-zero m)
take_each k (s ∷ L) (suc n) l each zero m = each 0 (omega arith)
take_each k (s ∷ L) (suc n) l each (suc i) m = take_each k L n (le_of_suc-le-suc l) (λ j h. each (suc j) (omega (arith, h))) i (le_of_suc-le-suc m)

-- 2. A listing that was not refused.
is_listed : Result Listing Refusal → Bool
is_listed (Ok l) = true
is_listed (Err r) = false

tuples_of : Result Listing Refusal → ℕ
tuples_of (Ok l) = l.tuples
tuples_of (Err r) = 0

says_listed : (w : Verdict) (o : Outcome) (x : Listing) → list_says w o ≡ Ok x → (w ≡ fine) × (o.tuples ≡ x.tuples)
unfolding list_says is_listed tuples_of
says_listed fine o x h = (refl, ap tuples_of h)
says_listed (refuse r) o x h = absurd (let z : ◌≡◌ {A = ℕ} 0 1 = cc in omega arith)

head-some : (c d : Bool) → lowest ((EmptyHead when c) ∷ (ShortBuffer when d) ∷ []) ≡ fine → c ≡ false
unfolding lowest
head-some true d h = absurd (let z : ◌≡◌ {A = ℕ} 0 1 = cc in omega arith)
head-some false d h = refl

module _ (t labels : List ℕ) (q : Query) (A : ℕ) (sets₀ found : List ℕ) (x : Listing) (h : list_answer t labels (asked q) A sets₀ found ≡ Ok x) where
  abbrev n : ℕ
  n = x.tuples

  abbrev P : Problem
  P = problem t labels (asked q)

  said : (lowest (list_grounds t labels (asked q) sets₀) ≡ fine) × ((list_outcome t labels (asked q) A (length found)).tuples ≡ n)
  unfolding list_answer
  said = says_listed (lowest (list_grounds t labels (asked q) sets₀)) (list_outcome t labels (asked q) A (length found)) x h

  rest : List Ground
  rest = (EmptyHead when eqb (length (asked q).head) 0) ∷ (ShortBuffer when ltb (length sets₀) (needed t (asked q))) ∷ []

  parts : (lowest (table_grounds t labels) ≡ fine) × (lowest (query_grounds (asked q) ++ rest) ≡ fine)
  unfolding list_grounds rest
  parts = lowest_both (table_grounds t labels) (query_grounds (asked q) ++ rest) said.0

  parts_query : (lowest (query_grounds (asked q)) ≡ fine) × (lowest rest ≡ fine)
  parts_query = lowest_both (query_grounds (asked q)) rest parts.1

  pub head_first : 1 ≤ q.head_count
  unfolding rest
  head_first = let z = eqb-false (length (asked q).head) 0 (head-some _ _ parts_query.1) in let l = head-length q in go q.head_count (λ d. z (l ∙ d))
    where
      go : (k : ℕ) → (k ≡ 0 → ⊥) → 1 ≤ k
      go zero f = absurd (f refl)
      go (suc k) f = omega arith

  is_fit : Fit P
  is_fit = accepted_fit t labels (asked q) (accepted_table t labels parts.0) (accepted_query (asked q) parts_query.0)

  each : (i : ℕ) → i < length (answers P) → length (tuple_at (answers P) i) ≡ q.head_count
  unfolding problem
  each i l = answer-length P P.start (tuple_at (answers P) i) ((answers_are P is_fit).sound i l) ∙ head-length q

  places : n * q.head_count ≤ length found
  unfolding list_outcome room
  places =
      let k = q.head_count in
      let r = tuples-room P (pruning P) (answers P) A (length found / length (asked q).head) in
      let d = mul-le-mul_right k r in
      let s = ap (λ (x : ℕ). length found / x * k) (head-length q) in
      let f = ap (λ (x : ℕ). x * k) said.1 in
      omega (arith, d, s, f, div-mul-le_self (length found) k)

  pub tuples-fit : length found ≡ 4096 → n * q.head_count ≤ 4096
  tuples-fit l = omega (arith, places, l)

  listed-count : n ≤ length (answers P)
  unfolding list_outcome
  listed-count = let r = tuples-listed P (pruning P) (answers P) A (room (length found) (length (asked q).head)) in omega (arith, r, said.1)

  pub given : (found' : List ℕ) → found' ≡ list_leaves_found t labels (asked q) A sets₀ found → chunks q.head_count n found' ≡ take n (answers P)
  unfolding list_leaves_found unless at_front
  given found' l =
      let k = q.head_count in
      let L = answers P in
      let T = take n L in
      let v : found' ≡ joined T ++ drop (length (joined T)) found =
      l ∙ (ap (λ (w : Verdict). unless w (at_front (joined (take (list_outcome t labels (asked q) A (length found)).tuples L)) found) found) said.0
      ∙ ap (λ (j : ℕ). at_front (joined (take j L)) found) said.1) in
      ap (chunks k n) v
      ∙ (ap (λ (j : ℕ). chunks k j (joined T ++ drop (length (joined T)) found)) (sym (length-take-le n L listed-count))
      ∙ chunks-joined k T (drop (length (joined T)) found) (take_each k L n listed-count each))

-- 3. Lines at the front of the buffer.
pub wrote_front : (b : List ℕ) (m : ℕ) (u b' : List ℕ) (r : ℕ) → m ≤ length b → Wrote b 0 m u b' r → b' ≡ at_front u b
unfolding at_front
wrote_front b m u b' r l W =
    let e : 0 + length u ≡ length u = omega arith in
    W.stored ∙ (sets-eq u b 0 (omega (arith, W.few, l)) ∙ ap (λ (k : ℕ). u ++ drop k b) e)

pub wrote_count : (b : List ℕ) (m : ℕ) (u b' : List ℕ) (r : ℕ) → Wrote b 0 m u b' r → r ≡ length u
wrote_count b m u b' r W = omega (arith, W.behind)

pub leaves_stops : (o : Step) (m : ℕ) (lines out out' : List ℕ) (r : ℕ) → o ≡ stops lines → m ≤ length out → Wrote out 0 m lines out' r → Leaves o (Last r) out out'
unfolding lines_of step_says
leaves_stops o m lines out out' r e l W = record {
  answered = ap Last (wrote_count out m lines out' r W) ∙ ap step_says (sym e);
  printed = wrote_front out m lines out' r l W ∙ ap (λ (x : Step). at_front (lines_of x) out) (sym e);
}

pub leaves_on : (o : Step) (end : ℕ) (lines out out' : List ℕ) (r : ℕ) → o ≡ goes_on lines end → r ≡ length lines → out' ≡ at_front lines out → Leaves o (Next r end) out out'
unfolding lines_of step_says
leaves_on o end lines out out' r e n w = record {
  answered = ap (λ (x : ℕ). Next x end) n ∙ ap step_says (sym e);
  printed = w ∙ ap (λ (x : Step). at_front (lines_of x) out) (sym e);
}

-- the answer asks of the two buffers only how long they are, so any that are as long as a run's will do
answer_by_length : (t labels : List ℕ) (q : Question) (A : ℕ) (s s' f f' : List ℕ) → length s ≡ length s' → length f ≡ length f' → list_answer t labels q A s f ≡ list_answer t labels q A s' f'
unfolding list_answer list_grounds
answer_by_length t labels q A s s' f f' e g =
    ap
    (λ (n : ℕ). list_says
    (lowest (table_grounds t labels ++ (query_grounds q ++ ((EmptyHead when eqb (length q.head) 0) ∷ (ShortBuffer when ltb n (needed t q)) ∷ []))))
    (list_outcome t labels q A (length f))) e
    ∙ ap (λ (n : ℕ). list_says (lowest (list_grounds t labels q s')) (list_outcome t labels q A n)) g

pub any_buffers : (t labels : List ℕ) (q : Question) (s f : List ℕ) → length s ≡ 256 → length f ≡ 4096 → listing t labels q ≡ list_answer t labels q 1000000 s f
unfolding listing
any_buffers t labels q s f e g = answer_by_length t labels q 1000000 _ s _ f (length-replicate {A = ℕ} 256 0 ∙ sym e) (length-replicate {A = ℕ} 4096 0 ∙ sym g)

-- a listing that is not refused, and one that is
pub lists : (k end : ℕ) (L : List (List ℕ)) (a : Result Listing Refusal) (x : Listing) (ts : List (List ℕ)) → a ≡ Ok x → ts ≡ take x.tuples L → listed k end L a ≡ goes_on (tuple_lines k ts ++ ending_line k x.ending x.tuples x.strikings) end
unfolding listed
lists k end L a x ts h g = ap (listed k end L) h ∙ ap (λ (y : List (List ℕ)). goes_on (tuple_lines k y ++ ending_line k x.ending x.tuples x.strikings) end) (sym g)

pub lists_refused : (k end : ℕ) (L : List (List ℕ)) (a : Result Listing Refusal) (r : Refusal) → a ≡ Err r → listed k end L a ≡ stops (refusal_line k r)
unfolding listed
lists_refused k end L a r h = ap (listed k end L) h

-- 4. What was read.
-- a sentence that was read
abbrev SRead : ℕ → ℕ → Result SentenceReading Refusal
SRead rows end = Ok (record { rows = rows; end = end })

rows_of : Result SentenceReading Refusal → ℕ
rows_of (Ok x) = x.rows
rows_of (Err r) = 0

is_read : Result SentenceReading Refusal → Bool
is_read (Ok x) = true
is_read (Err r) = false

not_read : (rows end : ℕ) (r : Refusal) → SRead rows end ≡ Err r → ⊥
unfolding is_read
not_read rows end r e = let z : ◌≡◌ {A = Bool} true false = ap is_read e in absurd (let y : ◌≡◌ {A = ℕ} 0 1 = cc in omega arith)

pub columns_are : (text list post label : List ℕ) (a : Result SentenceReading Refusal) (rows end : ℕ) (post' label' : List ℕ) (R : SentenceRead text list post label a post' label') → a ≡ SRead rows end → (take rows post' ≡ posts_of R.reading) × (take rows label' ≡ labels_of list R.reading)
unfolding sentence_answer sentence_says pick posts_of labels_of sentence_leaves rows_of
columns_are text list post label a rows end post' label' R i =
    go R.reading (too_many list) (sym i ∙ R.answered) (R.posts_left ∙ ap (λ (b : Result SentenceReading Refusal). sentence_leaves b (posts_of R.reading) post) i) (R.labels-left ∙ ap (λ (b : Result SentenceReading Refusal). sentence_leaves b (labels_of list R.reading) label) i)
  where
    go : (o : Reading) (b : Bool) → SRead rows end ≡ pick b (Err Counts) (sentence_says text o (length post) (length label)) → post' ≡ posts_of o ++ drop rows post → label' ≡ labels_of list o ++ drop rows label
        → (take rows post' ≡ posts_of o) × (take rows label' ≡ labels_of list o)
    go o true e p l = absurd (not_read rows end _ e)
    go (wrong_at q) false e p l = absurd (not_read rows end _ e)
    go (large_at q) false e p l = absurd (not_read rows end _ e)
    go (found x r) false e p l = fits (leb (size (tree_of x)) (length post) & leb (size (tree_of x)) (length label)) e
      where
        fits : (c : Bool) → SRead rows end ≡ pick c (SRead (size (tree_of x)) (length text - length r)) (Err ShortBuffer) → (take rows post' ≡ posts_of (found x r)) × (take rows label' ≡ labels_of list (found x r))
        fits false d = absurd (not_read rows end _ d)
        fits true d =
            let n : rows ≡ size (tree_of x) = ap rows_of d in (
              ap (take rows) p ∙ take_at (posts_of (found x r)) (drop rows post) rows (posts_length (tree_of x) 0 ∙ sym n),
              ap (take rows) l ∙ take_at (labels_of list (found x r)) (drop rows label) rows (labels_length _ (tree_of x) ∙ sym n),
            )

-- the rows fit the columns
pub rows_few : (text list post label : List ℕ) (a : Result SentenceReading Refusal) (rows end : ℕ) (post' label' : List ℕ) → SentenceRead text list post label a post' label' → a ≡ SRead rows end → rows ≤ 1024
rows_few text list post label a rows end post' label' R e =
    (read_table text list post label rows end post' label' (subst (λ (b : Result SentenceReading Refusal). SentenceRead text list post label b post' label') e R)).few

-- 5. A sentence: only white space is left; it is refused; it is read and listed.
pub does_nothing : (k : ℕ) (q : Question) (list s out : List ℕ) → blank s ≡ true → Does k q list s (Last 0) out out
unfolding step_for lines_of step_says pick at_front
does_nothing k q list s out e = record {
  reading = reading_of s;
  is_reading = reading_right s;
  leaves = record { answered = rw e; printed = rw e };
}

module _ (k : ℕ) (q : Question) (list s post label post' label' : List ℕ) (a : Result SentenceReading Refusal) (R : SentenceRead s list post label a post' label') (left : blank s ≡ false) (p : length post ≡ 1024) (l : length label ≡ 1024) (out out' : List ℕ) where
  step_is : (b : Result SentenceReading Refusal) → a ≡ b → step_for k q list s R.reading ≡ read k q list R.reading b
  unfolding step_for step pick
  step_is b e =
      rw left
      (ap (read k q list R.reading)
      (ap (λ (n : ℕ). sentence_answer s list R.reading n 1024) (sym p) ∙ (ap (λ (n : ℕ). sentence_answer s list R.reading (length post) n) (sym l) ∙ (sym R.answered ∙ e))))

  pub does_refused : (r : Refusal) (n : ℕ) → a ≡ Err r → 72 ≤ length out → Wrote out 0 72 (refusal_line k r) out' n → Does k q list s (Last n) out out'
  unfolding read
  does_refused r n e m W = record { reading = R.reading; is_reading = R.is_reading; leaves = leaves_stops _ 72 (refusal_line k r) out out' n (step_is (Err r) e) m W }

  pub does_read : (rows end : ℕ) (b : SentenceStep) → a ≡ SRead rows end
      → Leaves (listed k end (answers (problem (take rows post') (take rows label') q)) (listing (take rows post') (take rows label') q)) b out out' → Does k q list s b out out'
  unfolding read
  does_read rows end b e W =
      let c = columns_are s list post label a rows end post' label' R e in
      record {
        reading = R.reading;
        is_reading = R.is_reading;
        leaves = subst (λ (o : Step). Leaves o b out out')
            (ap (λ (t : List ℕ). listed k end (answers (problem t (take rows label') q)) (listing t (take rows label') q)) c.0
            ∙ (ap (λ (t : List ℕ). listed k end (answers (problem (posts_of R.reading) t q)) (listing (posts_of R.reading) t q)) c.1
            ∙ sym (step_is (SRead rows end) e)))
            W;
      }

-- 6. Where a run goes on, less of the text is left.
is_next_lem : SentenceStep → Bool
is_next_lem (Next n end) = true
is_next_lem (Last n) = false

end_of : SentenceStep → ℕ
end_of (Next n end) = end
end_of (Last n) = 0

not_next : (n end m : ℕ) → Next n end ≡ Last m → ⊥
unfolding is_next_lem
not_next n end m e = let z : ◌≡◌ {A = Bool} true false = ap is_next_lem e in absurd (let y : ◌≡◌ {A = ℕ} 0 1 = cc in omega arith)

pub next_shorter : (k : ℕ) (q : Question) (list s : List ℕ) (a : SentenceStep) (out out' : List ℕ) (n end : ℕ) → Does k q list s a out out' → a ≡ Next n end → length (drop end s) < length s
unfolding step_for pick step_says end_of
next_shorter k q list s a out out' n end D h = go (blank s) (step k q list s D.reading) refl (sym h ∙ D.leaves.answered)
  where
    go : (b : Bool) (o : Step) → step k q list s D.reading ≡ o → Next n end ≡ step_says (pick b (stops []) o) → length (drop end s) < length s
    go true o e i = absurd (not_next _ _ _ i)
    go false (stops lines) e i = absurd (not_next _ _ _ i)
    go false (goes_on lines end') e i =
        let d : end ≡ end' = ap end_of i in
        subst (λ (x : ℕ). length (drop x s) < length s) (sym d) (step_shorter k q list s D.reading lines end' D.is_reading e)
