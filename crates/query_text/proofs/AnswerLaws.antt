-- Which answer follows from what was found, in the order in which refusals are tried. Assumes nothing.
use Rattle.std.proofs.Common.{◌≡◌, ℕ, ◌<◌, ◌≤◌, Bool, true, false, true≢false, List, [], ◌++◌, length, drop, refl, sym, ap, ◌∙◌, arith, Result, Ok, Err, Option, Some, None}
use Rattle.std.proofs.Math.Dec.{ltb}
use borrow.Author.Tests.{lt-ltb, le-ltb, ltb-true, ltb-false}
use Rattle.meaning.specs.Tests.{◌or◌}
use Rattle.meaning.specs.Texts.{pick, Place, legal, bad}
use Rattle.meaning.specs.Places.{place}
use Rattle.meaning.specs.QueryTexts.{query, words, once, said, Said, variables, names, heads, labels, axis_conditions, made, query_of, outside, twice, unused, closed, answer_of, answer_at, answer, reading_of, reading, buffer_for, buffer, blank_query}
use Rattle.meaning.specs.declared.Query.{Query}
use Rattle.meaning.specs.declared.Refusal.{Refusal}
use Rattle.meaning.specs.declared.Refusal.TheVariants.{Counts, Variables, ShortBuffer, HeadVariable}
use Rattle.meaning.specs.declared.QueryReading.{QueryReading}
use Rattle.query_text.specs.Machine.{found}
use Rattle.query_text.specs.Tables.{texts, vars_in, names_in}
use Rattle.query_text.specs.Filling.{capped, shown, filled, filling, numbered_as, fill_words, Within, over_parts}
use Rattle.query_text.specs.Room.{room_of}
use Rattle.query_text.specs.declared.filling.Filling.{Filling}
use Rattle.query_text.specs.declared.filling.Item.TheVariants.{Head}
use Rattle.query_text.proofs.JudgeLaws.{neither, one_of, other_of}
use Rattle.query_text.proofs.TableLaws.{texts_length}
use Rattle.query_text.proofs.FillLaws.{capped_in, capped_out, whole_query}
use Rattle.query_text.proofs.ReadLaws.{Seen, Reads}

-- 1. The counts.
pub refused_variables : (q : Said) → 16 < length (variables q) → outside q ≡ true
unfolding outside
refused_variables q l = one_of _ _ (lt-ltb 16 (length (variables q)) l)

pub refused_names : (q : Said) → 32 < length (names q) → outside q ≡ true
unfolding outside
refused_names q l = other_of _ _ (one_of _ _ (lt-ltb 32 (length (names q)) l))

over_same : {A : Type 0} (n : ℕ) (l : List A) → ltb n (capped n l) ≡ ltb n (length l)
over_same n l = go (ltb n (length l)) refl
  where
    go : (z : Bool) → ltb n (length l) ≡ z → ltb n (capped n l) ≡ z
    go true e = lt-ltb n (capped n l) (let h = capped_out n l (ltb-true n (length l) e) in omega arith)
    go false e = le-ltb n (capped n l) (let d = ltb-false n (length l) e in let h = capped_in n l d in omega arith)

-- the query of a text, its counts capped
abbrev shown_of : ℕ → Said → Query
shown_of n q = shown n (heads q) (labels q) (axis_conditions q)

over_is : (n : ℕ) (q : Said) → over_parts (shown_of n q) ≡ (ltb 8 (length (heads q)) or ltb 32 (length (labels q)) or ltb 32 (length (axis_conditions q)))
unfolding shown over_parts
over_is n q =
    ap (λ (z : Bool). z or ltb 32 (capped 32 (labels q)) or ltb 32 (capped 32 (axis_conditions q))) (over_same 8 (heads q))
    ∙ ap (λ (z : Bool). ltb 8 (length (heads q)) or z or ltb 32 (capped 32 (axis_conditions q))) (over_same 32 (labels q))
    ∙ ap (λ (z : Bool). ltb 8 (length (heads q)) or ltb 32 (length (labels q)) or z) (over_same 32 (axis_conditions q))

filled_is : (n : ℕ) (q : Said) → filled n (variables q) (names q) q ≡ shown_of n q
unfolding filled heads labels axis_conditions
filled_is n q = refl

pub refused_parts : (s : List ℕ) → over_parts (fill_words (variables (said s)) (names (said s)) (filling blank_query Head) (words [] (drop 1 s))).query ≡ true → outside (said s) ≡ true
unfolding outside
refused_parts s e =
    let q = said s in
    other_of _ _ (other_of _ _ (sym (over_is 0 q) ∙ ap over_parts (sym (whole_query (variables q) (names q) s ∙ filled_is 0 q)) ∙ e))

not_one : (a b : Bool) → (a or b) ≡ false → a ≡ false
unfolding ◌or◌
not_one true b e = absurd (true≢false e)
not_one false b e = refl

not_other : (a b : Bool) → (a or b) ≡ false → b ≡ false
unfolding ◌or◌
not_other true b e = absurd (true≢false e)
not_other false b e = e

within_not : (r : Query) → Within r → over_parts r ≡ false
unfolding over_parts
within_not r w = neither _ _ (le-ltb 8 r.head_count w.heads) (neither _ _ (le-ltb 32 r.label_count w.labels) (le-ltb 32 r.axis_count w.axes))

numbered_shown : (n : ℕ) (q : Said) → numbered_as n (shown_of 0 q) ≡ shown_of n q
unfolding shown
numbered_shown n q = refl

whole_of : (q : Said) → capped 8 (heads q) ≡ length (heads q) → capped 32 (labels q) ≡ length (labels q) → capped 32 (axis_conditions q) ≡ length (axis_conditions q) → shown_of (length (variables q)) q ≡ query_of q
unfolding shown query_of made
whole_of q hg hl ha = rw (hg, hl, ha)

-- 2. All words are read: the query is that of the text.
pub reads_end : (s rest : List ℕ) (f : Filling) (vs ns : Seen) → Reads s rest f vs ns → words [] rest ≡ []
    → (outside (said s) ≡ false) × (numbered_as (length vs.items) f.query ≡ query_of (said s)) × (texts ns ≡ names (said s)) × Within (numbered_as (length vs.items) f.query)
unfolding outside once vars_in names_in fill_words
reads_end s rest f vs ns R e =
    let q = said s in
    let tv : texts vs ≡ variables q = ap (λ (ws : List (List ℕ)). once (texts vs) (vars_in ws)) (sym e) ∙ R.all_variables in
    let tn : texts ns ≡ names q = ap (λ (ws : List (List ℕ)). once (texts ns) (names_in ws)) (sym e) ∙ R.all_names in
    let g : f ≡ fill_words (variables q) (names q) (filling blank_query Head) (words [] (drop 1 s)) = ap (fill_words (variables q) (names q) f) (sym e) ∙ R.goes in
    let p : f.query ≡ shown_of 0 q = ap (λ (x : Filling). x.query) g ∙ whole_query (variables q) (names q) s ∙ filled_is 0 q in
    let o = sym (over_is 0 q) ∙ ap over_parts (sym p) ∙ within_not f.query R.inside in
    let h = ltb-false 8 (length (heads q)) (not_one _ _ o) in
    let l = ltb-false 32 (length (labels q)) (not_one _ _ (not_other _ _ o)) in
    let a = ltb-false 32 (length (axis_conditions q)) (not_other _ _ (not_other _ _ o)) in
    let n : length vs.items ≡ length (variables q) = sym (texts_length vs) ∙ ap length tv in
    let m : length ns.items ≡ length (names q) = sym (texts_length ns) ∙ ap length tn in (
      neither _ _ (le-ltb 16 (length (variables q)) (let k = R.few_variables in omega arith)) (neither _ _ (le-ltb 32 (length (names q)) (let k = R.few_names in omega arith)) o),
      ap (numbered_as (length vs.items)) p ∙ numbered_shown (length vs.items) q ∙ ap (λ (k : ℕ). shown_of k q) n ∙ whole_of q (capped_in 8 (heads q) h) (capped_in 32 (labels q) l) (capped_in 32 (axis_conditions q) a),
      tn,
      record { heads = R.inside.heads; labels = R.inside.labels; axes = R.inside.axes },
    )

-- 3. What is returned and left for each answer.
abbrev pub Done : Said → List ℕ → Result QueryReading Refusal → List ℕ → Type 0
Done q b r e = (r ≡ reading_of (answer_of q (length b)) q) × (e ≡ buffer_for (answer_of q (length b)) q b)

refuse : (q : Said) (b : List ℕ) (why : Refusal) → answer_of q (length b) ≡ Err why → Done q b (Err why) b
unfolding reading_of buffer_for
refuse q b why e = (sym (ap (λ (a : Result ℕ Refusal). reading_of a q) e), sym (ap (λ (a : Result ℕ Refusal). buffer_for a q b) e))

pub refuse_counts : (q : Said) (b : List ℕ) (why : Refusal) → why ≡ Counts → outside q ≡ true → Done q b (Err why) b
unfolding answer_of pick
refuse_counts q b why w e = refuse q b why (rw e (ap (λ (x : Refusal). Err x) (sym w)))

pub refuse_twice : (q : Said) (b : List ℕ) → outside q ≡ false → twice (query_of q) ≡ true → Done q b (Err Variables) b
unfolding answer_of pick
refuse_twice q b e t = refuse q b Variables (rw (e, t))

pub refuse_unused : (q : Said) (b : List ℕ) → outside q ≡ false → twice (query_of q) ≡ false → unused (query_of q) ≡ true → Done q b (Err HeadVariable) b
unfolding answer_of pick
refuse_unused q b e t u = refuse q b HeadVariable (rw (e, t, u))

-- whether the buffer holds the names
fits_not : (t m : ℕ) → room_of t m ≡ None → ltb m t ≡ true
unfolding room_of pick
fits_not t m = go (ltb m t)
  where
    go : (z : Bool) → pick {A = Option ℕ} z None (Some t) ≡ None → z ≡ true
    go true e = refl
    go false e = cc

fits : (t m n : ℕ) → room_of t m ≡ Some n → (ltb m t ≡ false) × (t ≡ n)
unfolding room_of pick
fits t m n = go (ltb m t)
  where
    go : (z : Bool) → pick {A = Option ℕ} z None (Some t) ≡ Some n → (z ≡ false) × (t ≡ n)
    go true e = (cc, cc)
    go false e = (refl, cc)

pub room_is : (t m n : ℕ) → Some n ≡ room_of t m → t ≤ m
room_is t m n e = ltb-false m t (fits t m n (sym e)).0

pub refuse_short : (q : Said) (b : List ℕ) → outside q ≡ false → twice (query_of q) ≡ false → unused (query_of q) ≡ false → None ≡ room_of (length (closed (names q))) (length b) → Done q b (Err ShortBuffer) b
unfolding answer_of pick
refuse_short q b e t u s = refuse q b ShortBuffer (rw (e, t, u, fits_not (length (closed (names q))) (length b) (sym s)))

pub accept : (q : Said) (b e : List ℕ) (n : ℕ) → outside q ≡ false → twice (query_of q) ≡ false → unused (query_of q) ≡ false → Some n ≡ room_of (length (closed (names q))) (length b)
    → e ≡ closed (names q) ++ drop (length (closed (names q))) b → Done q b (Ok (record { bytes = n; query = query_of q })) e
unfolding answer_of pick reading_of buffer_for
accept q b e n o t u s h =
    let f = fits (length (closed (names q))) (length b) n (sym s) in
    let v : answer_of q (length b) ≡ Ok n = rw (o, t, u, f.0) (ap (λ (k : ℕ). Ok k) f.1) in
    (sym (ap (λ (a : Result ℕ Refusal). reading_of a q) v), h ∙ ap (λ (k : ℕ). closed (names q) ++ drop k b) f.1 ∙ sym (ap (λ (a : Result ℕ Refusal). buffer_for a q b) v))

-- 4. The whole: by what the first pass found.
found_legal : (v : Place) → found v ≡ Ok tt → v ≡ legal
unfolding found
found_legal legal e = refl
found_legal (bad p) e = cc

pub whole_legal : (s b : List ℕ) (r : Result QueryReading Refusal) (e : List ℕ) → Ok tt ≡ found (place query s) → Done (said s) b r e → (r ≡ reading s (length b)) × (e ≡ buffer s b)
unfolding reading buffer answer answer_at
whole_legal s b r e h d =
    let p = found_legal (place query s) (sym h) in (
      d.0 ∙ ap (λ (x : Place). reading_of (answer_at x (said s) (length b)) (said s)) (sym p),
      d.1 ∙ ap (λ (x : Place). buffer_for (answer_at x (said s) (length b)) (said s) b) (sym p),
    )

pub whole_bad : (s b : List ℕ) (why : Refusal) → Err why ≡ found (place query s) → (Err why ≡ reading s (length b)) × (b ≡ buffer s b)
unfolding reading buffer answer answer_at reading_of buffer_for found
whole_bad s b why = go (place query s)
  where
    go : (v : Place) → Err why ≡ found v → (Err why ≡ reading_of (answer_at v (said s) (length b)) (said s)) × (b ≡ buffer_for (answer_at v (said s) (length b)) (said s) b)
    go legal e = (cc, cc)
    go (bad p) e = (cc, refl)
