-- A lent list of conditions and the query that is gathered from it: every entry answers the same and leaves the same for both. Assumes nothing.
--     few_is, filled_at        what is in place
--     asked-lent               up to 32 records the query asks what the list asks
--     too_many_lem, many_refused  33 records and more are refused 4, whatever they are
--     alike_says               what an entry makes of the verdict on a question is the same for alike questions: one law, of which each entry's law is an instance
use mathlib.Core.Path.{◌≡◌, refl, sym, ap, ◌∙◌}
use mathlib.Core.Bool.{Bool, true, false, cond}
use mathlib.Core.List.{List, [], ◌∷◌, ◌++◌}
use mathlib.Core.Logic.{◌⊎◌, inl, inr}
use Prim.Native.Nat.{ℕ, zero, suc, ◌≤◌, ◌<◌}
use native.Mathlib.Omega.{arith}
use native.Mathlib.Nat.{zero-add}
use lib.Dec.{ltb, eqb}
use lib.ListN.{length, take, get_or, set, length-set, length-replicate}
use lib.Seq.{ext_get_or, get_or-set_same, get_or-set_other}
use borrow.Author.Tests.{ltb-true, ltb-false, leb-true}
use Rattle.meaning.specs.Tests.{◌or◌, non}
use Rattle.meaning.specs.Query.{Question, problem, firsts, asked, is_counted, no-condition, no_label, takes}
use Rattle.meaning.specs.Pruning.{strikings, pruned}
use Rattle.meaning.specs.Words.{words_of}
use Rattle.meaning.specs.Answers.{is_yes, answers, answers_after}
use Rattle.meaning.specs.Entries.{Ground, ◌when◌, Verdict, fine, refuse, lowest, table_grounds, query_grounds, query_says, query_answer, needed, prune_grounds, prune_says, prune_answer, unless, prune_leaves, at_front, cleared, yes_no_says, yes_no_answer, yes_no_leaves, is_tuple, search_grounds, search_says, search_answer, search_leaves_sets, first_at_front, search_leaves_found, list_grounds, list_outcome, list_says, list_answer, list_leaves_sets, joined, list_leaves_found}
use Rattle.meaning.specs.declared.Query.{Query}
use Rattle.meaning.specs.declared.Condition.{Condition}
use Rattle.std.specs.Prelude.{Err}
use Rattle.meaning.specs.declared.Refusal.{Refusal}
use Rattle.meaning.specs.declared.Refusal.TheVariants.{Counts, EmptyHead, Tuple, ShortBuffer}
use Rattle.theory.specs.Tests.{and_r, not_so, tab-at, tab-length, below_suc}
use Rattle.theory.specs.Whole.{lowest-append, lowest-refused, lowest_here}
use Rattle.pouchmeadow.specs.declared.Terms.{Terms}
use Rattle.pouchmeadow.specs.Lent.{lent}
use Rattle.pouchmeadow.specs.Gathered.{blank, filled, gathered, few}

-- no more than there are, and no more than there is room for
pub few_is : (n : ℕ) → (few n ≤ n) × (few n ≤ 32)
unfolding few
few_is n = go (ltb n 32) refl
  where
    go : (b : Bool) → ltb n 32 ≡ b → (cond b n 32 ≤ n) × (cond b n 32 ≤ 32)
    go true e = let l = ltb-true n 32 e in (omega arith, omega (arith, l))
    go false e = let l = ltb-false n 32 e in (omega (arith, l), omega arith)

few-all : (n : ℕ) → n ≤ 32 → few n ≡ n
unfolding few
few-all n h = go (ltb n 32) refl
  where
    go : (b : Bool) → ltb n 32 ≡ b → cond b n 32 ≡ n
    go true e = refl
    go false e = let l = ltb-false n 32 e in omega (arith, l, h)

filled-length : (cs : List Condition) (i : ℕ) → length (filled cs i) ≡ 32
unfolding filled blank
filled-length cs zero = length-replicate 32 no-condition
filled-length cs (suc i) = length-set (filled cs i) i _ ∙ filled-length cs i

filled_at : (cs : List Condition) (i k : ℕ) → i ≤ 32 → k < i → get_or (filled cs i) k no-condition ≡ get_or cs k no-condition
unfolding filled
filled_at cs zero k h l = absurd (omega (arith, l))
filled_at cs (suc i) k h l = go (filled_at cs i k (omega (arith, h))) (below_suc l)
  where
    go : (k < i → get_or (filled cs i) k no-condition ≡ get_or cs k no-condition) → (k < i) ⊎ (k ≡ i) → get_or (set (filled cs i) i (get_or cs i no-condition)) k no-condition ≡ get_or cs k no-condition
    go less (inl m) = get_or-set_other (filled cs i) i k _ no-condition (λ e. omega (arith, m, e)) ∙ less m
    go less (inr e) = rw e (get_or-set_same (filled cs i) i (get_or cs i no-condition) no-condition (let f = filled-length cs i in omega (arith, h, f)))

-- up to 32 records the axis conditions that are asked are the list itself
firsts-filled : (cs : List Condition) (n : ℕ) → n ≡ length cs → n ≤ 32 → firsts no-condition (filled cs n) n ≡ cs
unfolding firsts
firsts-filled cs n e h =
    let m : length (firsts no-condition (filled cs n) n) ≡ n = tab-length (λ i. get_or (filled cs n) i no-condition) 0 n in
    ext_get_or no-condition _ cs (m ∙ e)
    (λ i l. let k : i < n = omega (arith, l, m) in tab-at (λ i. get_or (filled cs n) i no-condition) 0 n i no-condition k ∙ ap (λ j. get_or (filled cs n) j no-condition) (zero-add i) ∙ filled_at cs n i h k)

-- the query that is gathered from a list, as it is asked
abbrev pub gathered_asks : Terms → List Condition → Question
gathered_asks t cs = asked (gathered t cs (length cs) (few (length cs)))

pub asked-lent : (t : Terms) (cs : List Condition) → length cs ≤ 32 → gathered_asks t cs ≡ lent t cs
unfolding asked lent
asked-lent t cs h = rw (few-all (length cs) h) (ap (λ (ds : List Condition). let q : Question = record { variables = t.variables; head = firsts 0 t.head t.head_count; labels = firsts no_label t.labels t.label_count; axes = ds } in q) (firsts-filled cs (length cs) refl h))

-- more than 32 axis conditions are too many
pub too_many_lem : (q : Question) → 32 < length q.axes → is_counted q ≡ false
unfolding is_counted
too_many_lem q h = not_so _ (λ k. let l = leb-true (length q.axes) 32 (and_r _ _ (and_r _ _ (and_r _ _ (and_r _ _ k)))) in omega (arith, h, l))

-- so a lent list of 33 records or more is refused 4, whatever they are
pub many_refused : (t : Terms) (cs : List Condition) → 32 < length cs → query_answer (lent t cs) ≡ Err Counts
unfolding query_answer query_says query_grounds lent
many_refused t cs h = let q = lent t cs in rw (lowest_here Counts (is_counted q) _ (too_many_lem q h)) refl

-- questions that every entry treats alike: one question, or two of which each is refused 4
pub data Alike (q p : Question) : Type 0 where
  one : q ≡ p → Alike q p
  uncounted : is_counted q ≡ false → is_counted p ≡ false → Alike q p

asked-length : (t : Terms) (cs : List Condition) → length (gathered_asks t cs).axes ≡ length cs
unfolding asked firsts
asked-length t cs = tab-length (λ i. get_or (filled cs (few (length cs))) i no-condition) 0 (length cs)

lent_length : (t : Terms) (cs : List Condition) → length (lent t cs).axes ≡ length cs
unfolding lent
lent_length t cs = refl

-- a lent list of any length and the query that is gathered from it
pub lent_alike : (t : Terms) (cs : List Condition) → Alike (gathered_asks t cs) (lent t cs)
lent_alike t cs = go (ltb 32 (length cs)) refl
  where
    go : (b : Bool) → ltb 32 (length cs) ≡ b → Alike (gathered_asks t cs) (lent t cs)
    go true e =
        let l = ltb-true 32 (length cs) e in
        uncounted (too_many_lem _ (let m = asked-length t cs in omega (arith, l, m))) (too_many_lem _ (let m = lent_length t cs in omega (arith, l, m)))
    go false e = one (asked-lent t cs (ltb-false 32 (length cs) e))

-- and the query that the face gathers
pub gathered_alike : (t : Terms) (cs : List Condition) (q : Query) → q ≡ gathered t cs (length cs) (few (length cs)) → Alike (asked q) (lent t cs)
gathered_alike t cs q e = rw e (lent_alike t cs)

-- the verdict on a table and a question that is refused 4, or by the table before that
unfoldable pub early : List ℕ → List ℕ → Verdict
early t l = lowest (table_grounds t l ++ ((Counts when true) ∷ []))

query-refused : (q : Question) (gs : List Ground) → is_counted q ≡ false → lowest (query_grounds q ++ gs) ≡ refuse Counts
unfolding query_grounds
query-refused q gs h = lowest_here Counts (is_counted q) _ h

early_is : (t l : List ℕ) (q : Question) (gs : List Ground) → is_counted q ≡ false → (lowest (table_grounds t l ++ (query_grounds q ++ gs)) ≡ early t l)
unfolding early lowest
early_is t l q gs h = go (lowest (table_grounds t l)) refl
  where
    go : (v : Verdict) → lowest (table_grounds t l) ≡ v → lowest (table_grounds t l ++ (query_grounds q ++ gs)) ≡ lowest (table_grounds t l ++ ((Counts when true) ∷ []))
    go fine e = lowest-append (table_grounds t l) (query_grounds q ++ gs) e ∙ query-refused q gs h ∙ sym (lowest-append (table_grounds t l) ((Counts when true) ∷ []) e)
    go (refuse r) e = lowest-refused (table_grounds t l) (query_grounds q ++ gs) r e ∙ sym (lowest-refused (table_grounds t l) ((Counts when true) ∷ []) r e)

early_refuses : (t l : List ℕ) → (r : Refusal) × (early t l ≡ refuse r)
unfolding early lowest
early_refuses t l = go (lowest (table_grounds t l)) refl
  where
    go : (v : Verdict) → lowest (table_grounds t l) ≡ v → (r : Refusal) × (lowest (table_grounds t l ++ ((Counts when true) ∷ [])) ≡ refuse r)
    go fine e = (Counts, lowest-append (table_grounds t l) _ e)
    go (refuse r) e = (r, lowest-refused (table_grounds t l) _ r e)

-- What an entry makes of the verdict is the same for alike questions, if it makes the same of a refusal whatever the question is.
pub alike_says : {X : Type 0} (t l : List ℕ) (gs : Question → List Ground) (F : Question → Verdict → X) → ((q p : Question) (r : Refusal) → F q (refuse r) ≡ F p (refuse r))
    → (q p : Question) → Alike q p → F q (lowest (table_grounds t l ++ (query_grounds q ++ gs q))) ≡ F p (lowest (table_grounds t l ++ (query_grounds p ++ gs p)))
alike_says t l gs F h q p (one e) = ap (λ (x : Question). F x (lowest (table_grounds t l ++ (query_grounds x ++ gs x)))) e
alike_says t l gs F h q p (uncounted a b) =
    let w = early_refuses t l in
    ap (F q) (early_is t l q (gs q) a ∙ w.1) ∙ h q p w.0 ∙ sym (ap (F p) (early_is t l p (gs p) b ∙ w.1))

-- Each entry, of alike questions: what it answers and what it leaves in each buffer.
query_says_lem : (q p : Question) → Alike q p → query_says (lowest (query_grounds q)) (takes q) ≡ query_says (lowest (query_grounds p)) (takes p)
unfolding query_says query_grounds
query_says_lem q p (one e) = ap (λ (x : Question). query_says (lowest (query_grounds x)) (takes x)) e
query_says_lem q p (uncounted a b) = rw (lowest_here Counts (is_counted q) _ a, lowest_here Counts (is_counted p) _ b) refl

module _ (q p : Question) (h : Alike q p) where
  pub query_alike : query_answer q ≡ query_answer p
  unfolding query_answer
  query_alike = query_says_lem q p h

  module _ (t l sets : List ℕ) where
    abbrev short : Question → List Ground
    short q = (ShortBuffer when ltb (length sets) (needed t q)) ∷ []

    pub prune_alike : prune_answer t l q sets ≡ prune_answer t l p sets
    unfolding prune_answer prune_grounds prune_says
    prune_alike = alike_says t l short (λ q v. let P = problem t l q in prune_says v (strikings P P.start)) (λ q p r. refl) q p h

    pub prune_leaves_alike : prune_leaves t l q sets ≡ prune_leaves t l p sets
    unfolding prune_leaves prune_grounds unless
    prune_leaves_alike = alike_says t l short (λ q v. let P = problem t l q in unless v (at_front (words_of (length t) q.variables (pruned P P.start)) sets) sets) (λ q p r. refl) q p h

    pub yes_no_alike : yes_no_answer t l q sets ≡ yes_no_answer t l p sets
    unfolding yes_no_answer prune_grounds yes_no_says
    yes_no_alike = alike_says t l short (λ q v. yes_no_says v (is_yes (problem t l q))) (λ q p r. refl) q p h

    pub yes_no_leaves_alike : yes_no_leaves t l q sets ≡ yes_no_leaves t l p sets
    unfolding yes_no_leaves prune_grounds unless
    yes_no_leaves_alike = alike_says t l short (λ q v. unless v (cleared t q sets) sets) (λ q p r. refl) q p h

    module _ (tuple found : List ℕ) where
      abbrev behind : Question → List Ground
      behind q = (EmptyHead when eqb (length q.head) 0) ∷ (Tuple when non (is_tuple t q tuple)) ∷ (ShortBuffer when ltb (length sets) (needed t q) or ltb (length found) (length q.head)) ∷ []

      pub search_alike : search_answer t l q tuple sets found ≡ search_answer t l p tuple sets found
      unfolding search_answer search_grounds search_says
      search_alike = alike_says t l behind (λ q v. search_says v (answers_after (problem t l q) tuple)) (λ q p r. refl) q p h

      pub search_sets_alike : search_leaves_sets t l q tuple sets found ≡ search_leaves_sets t l p tuple sets found
      unfolding search_leaves_sets search_grounds unless
      search_sets_alike = alike_says t l behind (λ q v. unless v (cleared t q sets) sets) (λ q p r. refl) q p h

      pub search_found_alike : search_leaves_found t l q tuple sets found ≡ search_leaves_found t l p tuple sets found
      unfolding search_leaves_found search_grounds unless
      search_found_alike = alike_says t l behind (λ q v. unless v (first_at_front (answers_after (problem t l q) tuple) found) found) (λ q p r. refl) q p h

    module _ (allowance : ℕ) (found : List ℕ) where
      abbrev empty_or_short : Question → List Ground
      empty_or_short q = (EmptyHead when eqb (length q.head) 0) ∷ short q

      pub list_alike : list_answer t l q allowance sets found ≡ list_answer t l p allowance sets found
      unfolding list_answer list_grounds list_says
      list_alike = alike_says t l empty_or_short (λ q v. list_says v (list_outcome t l q allowance (length found))) (λ q p r. refl) q p h

      pub list_sets_alike : list_leaves_sets t l q allowance sets found ≡ list_leaves_sets t l p allowance sets found
      unfolding list_leaves_sets list_grounds unless
      list_sets_alike = alike_says t l empty_or_short (λ q v. unless v (cleared t q sets) sets) (λ q p r. refl) q p h

      pub list_found_alike : list_leaves_found t l q allowance sets found ≡ list_leaves_found t l p allowance sets found
      unfolding list_leaves_found list_grounds unless
      list_found_alike = alike_says t l empty_or_short (λ q v. unless v (at_front (joined (take (list_outcome t l q allowance (length found)).tuples (answers (problem t l q)))) found) found) (λ q p r. refl) q p h
