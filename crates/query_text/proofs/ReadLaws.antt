-- The reading, word by word, is what the words say. Assumes nothing.
use Rattle.std.proofs.Common.{◌≡◌, ℕ, suc, ◌<◌, ◌≤◌, Bool, true, false, List, [], ◌∷◌, ◌++◌, length, drop, refl, sym, ap, ◌∙◌, Bor, arith, length-append}
use Rattle.std.proofs.Math.Dec.{ltb}
use borrow.Author.Tests.{le-ltb, ltb-true}
use Rattle.meaning.specs.Tests.{◌or◌}
use Rattle.meaning.specs.Texts.{pick}
use Rattle.meaning.specs.QueryTexts.{same, words, place_in, has, once, is_variable, axis-names, with_word, phrases, said, Said, variables_of, label-names_of, variables, names, made, blank_query}
use Rattle.meaning.specs.declared.Query.{Query}
use Rattle.query_text.specs.Tables.{Next, texts, noted, vars_in, names_in}
use Rattle.query_text.specs.Filling.{Within, over_parts, filling, variable_for, with_head, with_label, with_axis, fill_word, fill_words}
use Rattle.query_text.specs.declared.filling.Item.{Item}
use Rattle.query_text.specs.declared.filling.Item.TheVariants.{Head, Label, Axis, Second, Done}
use Rattle.query_text.specs.declared.filling.Filling.{Filling}
use Rattle.arrayvec.specs.ArrayVec.{ArrayVec}
use Rattle.query_text.proofs.PlaceOf.{words_of}
use Rattle.query_text.proofs.TableLaws.{noted_old, noted_new, place_at_end}
use Rattle.query_text.proofs.FillLaws.{fill_variable, fill_axis, fill_label, words_cons}
use Rattle.query_text.proofs.JudgeLaws.{other_of}
use Rattle.query_text.proofs.PutLaws.{last_of}

abbrev pub Seen : Type 0
Seen = ArrayVec (Bor (List ℕ))

-- 1. A word keeps its number.
once_noted : (l : List (List ℕ)) (w : List ℕ) (ws : List (List ℕ)) → once l (w ∷ ws) ≡ once (noted l w) ws
unfolding once noted
once_noted l w ws = refl

place_front : (l m : List (List ℕ)) (w : List ℕ) → place_in l w < length l → place_in (l ++ m) w ≡ place_in l w
unfolding place_in pick
place_front [] m w h = absurd (omega arith)
place_front (v ∷ l) m w h = go (same v w) refl h (place_front l m w)
  where
    go : (z : Bool) → same v w ≡ z → pick z 0 (suc (place_in l w)) < suc (length l) → (place_in l w < length l → place_in (l ++ m) w ≡ place_in l w) → pick (same v w) 0 (suc (place_in (l ++ m) w)) ≡ pick (same v w) 0 (suc (place_in l w))
    go true e h r = rw e
    go false e h r = rw e (ap suc (r (omega arith)))

noted_longer : (l : List (List ℕ)) (w : List ℕ) → length l ≤ length (noted l w)
unfolding noted pick
noted_longer l w = go (has l w)
  where
    go : (z : Bool) → length l ≤ length (pick z l (l ++ (w ∷ [])))
    go true = omega arith
    go false = omega (arith, length-append l (w ∷ []))

pub once_longer : (ws l : List (List ℕ)) → length l ≤ length (once l ws)
unfolding once
once_longer [] l = omega arith
once_longer (w ∷ ws) l = let a = noted_longer l w in let b = once_longer ws (noted l w) in let c = ap length (once_noted l w ws) in omega arith

noted_place : (l : List (List ℕ)) (x w : List ℕ) → place_in l w < length l → place_in (noted l x) w ≡ place_in l w
unfolding noted pick
noted_place l x w h = go (has l x)
  where
    go : (z : Bool) → place_in (pick z l (l ++ (x ∷ []))) w ≡ place_in l w
    go true = refl
    go false = place_front l (x ∷ []) w h

once_place : (ws l : List (List ℕ)) (w : List ℕ) → place_in l w < length l → place_in (once l ws) w ≡ place_in l w
unfolding once
once_place [] l w h = refl
once_place (x ∷ ws) l w h =
    let a = noted_place l x w h in
    let b = noted_longer l x in
    ap (λ (m : List (List ℕ)). place_in m w) (once_noted l x ws) ∙ once_place ws (noted l x) w (omega arith) ∙ a

noted_has : (l : List (List ℕ)) (w : List ℕ) → place_in (noted l w) w < length (noted l w)
unfolding has
noted_has l w = go (has l w) refl
  where
    go : (z : Bool) → has l w ≡ z → place_in (noted l w) w < length (noted l w)
    go true e = let d = noted_old l w e in let p = ap (λ (m : List (List ℕ)). place_in m w) d in let q = ap length d in let h = ltb-true (place_in l w) (length l) e in omega arith
    go false e =
        let d = noted_new l w e in
        let p = ap (λ (m : List (List ℕ)). place_in m w) d in
        let q = ap length d in
        let r = place_at_end l w e in
        let k = length-append l (w ∷ []) in
        omega arith

-- 2. What the words say.
pub said-variables : (ws : List (List ℕ)) → (phrases ws).«head» ++ variables_of (phrases ws).conditions ≡ vars_in ws
unfolding phrases with_word vars_in variables_of pick
said-variables [] = refl
said-variables (w ∷ ws) = go (is_variable w) (said-variables ws)
  where
    go : (z : Bool) → (phrases ws).«head» ++ variables_of (phrases ws).conditions ≡ vars_in ws
        → (let q : Said = pick z (record { «head» = w ∷ (phrases ws).«head»; conditions = (phrases ws).conditions }) (record { «head» = []; conditions = record { name = w; variables = (phrases ws).«head» } ∷ (phrases ws).conditions }) in
        q.«head» ++ variables_of q.conditions) ≡ pick z (w ∷ vars_in ws) (vars_in ws)
    go true h = ap (λ (v : List (List ℕ)). w ∷ v) h
    go false h = h

pub said-names : (ws : List (List ℕ)) → label-names_of (phrases ws).conditions ≡ names_in ws
unfolding phrases with_word names_in label-names_of pick
said-names [] = refl
said-names (w ∷ ws) = go (is_variable w) (said-names ws)
  where
    go : (z : Bool) → label-names_of (phrases ws).conditions ≡ names_in ws
        → label-names_of (pick {A = Said} z (record { «head» = w ∷ (phrases ws).«head»; conditions = (phrases ws).conditions }) (record { «head» = []; conditions = record { name = w; variables = (phrases ws).«head» } ∷ (phrases ws).conditions })).conditions
        ≡ pick z (names_in ws) (pick (has axis-names w) (names_in ws) (w ∷ names_in ws))
    go true h = h
    go false h = ap (λ (v : List (List ℕ)). pick (has axis-names w) v (w ∷ v)) h

pub variables_are : (s : List ℕ) → once [] (vars_in (words [] (drop 1 s))) ≡ variables (said s)
unfolding variables said
variables_are s = ap (once []) (sym (said-variables (words [] (drop 1 s))))

pub names_are : (s : List ℕ) → once [] (names_in (words [] (drop 1 s))) ≡ names (said s)
unfolding names said
names_are s = ap (once []) (sym (said-names (words [] (drop 1 s))))

-- 3. A count past its limit stays past it.
over_head_on : (q : Query) (v : ℕ) → over_parts q ≡ true → over_parts (with_head q v) ≡ true
unfolding over_parts with_head pick ◌or◌
over_head_on q v e = go (ltb q.head_count 8) refl
  where
    rest : Bool
    rest = ltb 32 q.label_count or ltb 32 q.axis_count

    small : (z : Bool) → z ≡ false → (z or rest) ≡ true → rest ≡ true
    small z p h = sym (ap (λ (y : Bool). y or rest) p) ∙ h

    go : (z : Bool) → ltb q.head_count 8 ≡ z → over_parts (with_head q v) ≡ true
    go true d = rw d (other_of _ _ (small (ltb 8 q.head_count) (le-ltb 8 q.head_count (let h = ltb-true q.head_count 8 d in omega arith)) e))
    go false d = rw d

over_label_on : (q : Query) (v n : ℕ) → over_parts q ≡ true → over_parts (with_label q v n) ≡ true
unfolding over_parts with_label pick ◌or◌
over_label_on q v n e = go (ltb q.label_count 32) refl
  where
    small : (a z : Bool) → z ≡ false → (a or (z or ltb 32 q.axis_count)) ≡ true → (y : Bool) → (a or (y or ltb 32 q.axis_count)) ≡ true
    small true z p h y = refl
    small false z p h y = other_of y _ (sym (ap (λ (x : Bool). x or ltb 32 q.axis_count) p) ∙ h)

    go : (z : Bool) → ltb q.label_count 32 ≡ z → over_parts (with_label q v n) ≡ true
    go true d = rw d (small (ltb 8 q.head_count) (ltb 32 q.label_count) (le-ltb 32 q.label_count (let h = ltb-true q.label_count 32 d in omega arith)) e _)
    go false d = rw d (last_of (ltb 8 q.head_count))

over_axis_on : (q : Query) (c u v : ℕ) → over_parts q ≡ true → over_parts (with_axis q c u v) ≡ true
unfolding over_parts with_axis pick ◌or◌
over_axis_on q c u v e = go (ltb q.axis_count 32) refl
  where
    small : (a b z : Bool) → z ≡ false → (a or (b or z)) ≡ true → (y : Bool) → (a or (b or y)) ≡ true
    small true b z p h y = refl
    small false true z p h y = refl
    small false false z p h y = let k : false ≡ true = sym p ∙ h in absurd (cc k)

    go : (z : Bool) → ltb q.axis_count 32 ≡ z → over_parts (with_axis q c u v) ≡ true
    go true d = rw d (small (ltb 8 q.head_count) (ltb 32 q.label_count) (ltb 32 q.axis_count) (le-ltb 32 q.axis_count (let h = ltb-true q.axis_count 32 d in omega arith)) e _)
    go false d = rw d (ap (λ (y : Bool). ltb 8 q.head_count or y) (last_of (ltb 32 q.label_count)) ∙ last_of (ltb 8 q.head_count))

over_variable : (q : Query) (i : Item) (v : ℕ) → over_parts q ≡ true → over_parts (variable_for q i v).query ≡ true
unfolding variable_for
over_variable q Head v e = over_head_on q v e
over_variable q (Label n) v e = over_label_on q v n e
over_variable q (Axis c) v e = e
over_variable q (Second c u) v e = over_axis_on q c u v e
over_variable q Done v e = e

over_word : (vs ns : List (List ℕ)) (f : Filling) (w : List ℕ) → over_parts f.query ≡ true → over_parts (fill_word vs ns f w).query ≡ true
unfolding fill_word pick
over_word vs ns f w e = go (is_variable w) (has axis-names w)
  where
    go : (z y : Bool) → over_parts (pick z (variable_for f.query f.item (place_in vs w)) (pick y (filling f.query (Axis (place_in axis-names w))) (filling f.query (Label (place_in ns w))))).query ≡ true
    go true y = over_variable f.query f.item (place_in vs w) e
    go false true = e
    go false false = e

over_words : (vs ns : List (List ℕ)) (ws : List (List ℕ)) (f : Filling) → over_parts f.query ≡ true → over_parts (fill_words vs ns f ws).query ≡ true
unfolding fill_words
over_words vs ns [] f e = e
over_words vs ns (w ∷ ws) f e = over_words vs ns ws (fill_word vs ns f w) (over_word vs ns f w e)

-- 4. A turn: the words from `rest` on complete what was read to what the text says.
pub record Reads (s rest : List ℕ) (f : Filling) (vs ns : Seen) : Type 0 where
  pub all_variables : once (texts vs) (vars_in (words [] rest)) ≡ variables (said s)
  pub all_names : once (texts ns) (names_in (words [] rest)) ≡ names (said s)
  pub goes : fill_words (variables (said s)) (names (said s)) f (words [] rest) ≡ fill_words (variables (said s)) (names (said s)) (filling blank_query Head) (words [] (drop 1 s))
  pub inside : Within f.query
  pub few_variables : length vs.items ≤ 16
  pub few_names : length ns.items ≤ 32

pub reads_start : (s : List ℕ) (vs ns : Seen) (q : Query) → q ≡ blank_query → vs.items ≡ [] → ns.items ≡ [] → Reads s (drop 1 s) (filling q Head) vs ns
unfolding blank_query made texts
reads_start s vs ns q e p n = record {
  all_variables = ap (λ (l : List (List ℕ)). once l (vars_in (words [] (drop 1 s)))) (ap words_of p) ∙ variables_are s;
  all_names = ap (λ (l : List (List ℕ)). once l (names_in (words [] (drop 1 s)))) (ap words_of n) ∙ names_are s;
  goes = ap (λ (x : Query). fill_words (variables (said s)) (names (said s)) (filling x Head) (words [] (drop 1 s))) e;
  inside = record { heads = (let h = ap (λ (x : Query). x.head_count) e in omega arith); labels = (let h = ap (λ (x : Query). x.label_count) e in omega arith); axes = (let h = ap (λ (x : Query). x.axis_count) e in omega arith) };
  few_variables = omega (arith, ap length p);
  few_names = omega (arith, ap length n);
}

pub behind_first : (s t : List ℕ) (m : ℕ) → (1 ≤ length s → m ≡ 1) → (length s ≤ 1 → m ≡ length s) → t ≡ drop m s → t ≡ drop 1 s
behind_first [] t m f g e = e ∙ ap (λ (k : ℕ). drop {A = ℕ} k []) (g (omega arith))
behind_first (b ∷ s) t m f g e = e ∙ ap (λ (k : ℕ). drop k (b ∷ s)) (f (omega arith))

vars_yes : (w : List ℕ) (ws : List (List ℕ)) → is_variable w ≡ true → vars_in (w ∷ ws) ≡ w ∷ vars_in ws
unfolding vars_in pick
vars_yes w ws e = rw e

vars_no : (w : List ℕ) (ws : List (List ℕ)) → is_variable w ≡ false → vars_in (w ∷ ws) ≡ vars_in ws
unfolding vars_in pick
vars_no w ws e = rw e

names_variable : (w : List ℕ) (ws : List (List ℕ)) → is_variable w ≡ true → names_in (w ∷ ws) ≡ names_in ws
unfolding names_in pick
names_variable w ws e = rw e

names_axis : (w : List ℕ) (ws : List (List ℕ)) → is_variable w ≡ false → has axis-names w ≡ true → names_in (w ∷ ws) ≡ names_in ws
unfolding names_in pick
names_axis w ws e d = rw (e, d)

names_label : (w : List ℕ) (ws : List (List ℕ)) → is_variable w ≡ false → has axis-names w ≡ false → names_in (w ∷ ws) ≡ w ∷ names_in ws
unfolding names_in pick
names_label w ws e d = rw (e, d)

number_is : (l all : List (List ℕ)) (w : List ℕ) (ws : List (List ℕ)) (k : ℕ) → once (noted l w) ws ≡ all → k ≡ place_in (noted l w) w → k ≡ place_in all w
number_is l all w ws k e p = p ∙ sym (once_place ws (noted l w) w (noted_has l w)) ∙ ap (λ (m : List (List ℕ)). place_in m w) e

module _ (s rest w r : List ℕ) (f : Filling) (vs ns : Seen) (R : Reads s rest f vs ns) (n : Next rest w r) where
  variables_on : is_variable w ≡ true → once (noted (texts vs) w) (vars_in (words [] r)) ≡ variables (said s)
  variables_on e =
      sym (once_noted (texts vs) w (vars_in (words [] r))) ∙ ap (once (texts vs)) (sym (vars_yes w (words [] r) e)) ∙ ap (λ (ws : List (List ℕ)). once (texts vs) (vars_in ws)) (sym n.all)
      ∙ R.all_variables

  names_on : is_variable w ≡ false → has axis-names w ≡ false → once (noted (texts ns) w) (names_in (words [] r)) ≡ names (said s)
  names_on e d =
      sym (once_noted (texts ns) w (names_in (words [] r))) ∙ ap (once (texts ns)) (sym (names_label w (words [] r) e d)) ∙ ap (λ (ws : List (List ℕ)). once (texts ns) (names_in ws)) (sym n.all)
      ∙ R.all_names

  variables_off : is_variable w ≡ false → once (texts vs) (vars_in (words [] r)) ≡ variables (said s)
  variables_off e = ap (once (texts vs)) (sym (vars_no w (words [] r) e)) ∙ ap (λ (ws : List (List ℕ)). once (texts vs) (vars_in ws)) (sym n.all) ∙ R.all_variables

  goes_on : (g : Filling) → g ≡ fill_word (variables (said s)) (names (said s)) f w → fill_words (variables (said s)) (names (said s)) g (words [] r)
      ≡ fill_words (variables (said s)) (names (said s)) (filling blank_query Head) (words [] (drop 1 s))
  goes_on g e =
      ap (λ (x : Filling). fill_words (variables (said s)) (names (said s)) x (words [] r)) e ∙ sym (words_cons (variables (said s)) (names (said s)) f w (words [] r))
      ∙ ap (fill_words (variables (said s)) (names (said s)) f) (sym n.all) ∙ R.goes

  pub variable_number : (us : Seen) (k : ℕ) → is_variable w ≡ true → texts us ≡ noted (texts vs) w → k ≡ place_in (texts us) w → k ≡ place_in (variables (said s)) w
  variable_number us k e t p = number_is (texts vs) (variables (said s)) w (vars_in (words [] r)) k (variables_on e) (p ∙ ap (λ (l : List (List ℕ)). place_in l w) t)

  pub reads_variable : (us : Seen) (k : ℕ) (g : Filling) → is_variable w ≡ true → length us.items ≤ 16 → texts us ≡ noted (texts vs) w → k ≡ place_in (texts us) w → g ≡ variable_for f.query f.item k → Within g.query → Reads s r g us ns
  reads_variable us k g e c t p d i = record {
    all_variables = ap (λ (l : List (List ℕ)). once l (vars_in (words [] r))) t ∙ variables_on e;
    all_names = ap (once (texts ns)) (sym (names_variable w (words [] r) e)) ∙ ap (λ (ws : List (List ℕ)). once (texts ns) (names_in ws)) (sym n.all) ∙ R.all_names;
    goes = goes_on g (d ∙ ap (variable_for f.query f.item) (variable_number us k e t p) ∙ fill_variable (variables (said s)) (names (said s)) f w e);
    inside = i;
    few_variables = c;
    few_names = R.few_names;
  }

  pub reads_axis : (k : ℕ) → is_variable w ≡ false → (has axis-names w ≡ true) × (k ≡ place_in axis-names w) → Reads s r (filling f.query (Axis k)) vs ns
  reads_axis k e p = record {
    all_variables = variables_off e;
    all_names = ap (once (texts ns)) (sym (names_axis w (words [] r) e p.0)) ∙ ap (λ (ws : List (List ℕ)). once (texts ns) (names_in ws)) (sym n.all) ∙ R.all_names;
    goes = goes_on (filling f.query (Axis k)) (ap (λ (c : ℕ). filling f.query (Axis c)) p.1 ∙ fill_axis (variables (said s)) (names (said s)) f w e p.0);
    inside = R.inside;
    few_variables = R.few_variables;
    few_names = R.few_names;
  }

  pub reads_label : (us : Seen) (k : ℕ) → is_variable w ≡ false → has axis-names w ≡ false → length us.items ≤ 32 → texts us ≡ noted (texts ns) w → k ≡ place_in (texts us) w → Reads s r (filling f.query (Label k)) vs us
  reads_label us k e d c t p = record {
    all_variables = variables_off e;
    all_names = ap (λ (l : List (List ℕ)). once l (names_in (words [] r))) t ∙ names_on e d;
    goes = goes_on (filling f.query (Label k)) (ap (λ (c : ℕ). filling f.query (Label c)) (number_is (texts ns) (names (said s)) w (names_in (words [] r)) k (names_on e d) (p ∙ ap (λ (l : List (List ℕ)). place_in l w) t))
        ∙ fill_label (variables (said s)) (names (said s)) f w e d);
    inside = R.inside;
    few_variables = R.few_variables;
    few_names = c;
  }

  -- the refusals
  pub many_variables : is_variable w ≡ true → 16 < length (noted (texts vs) w) → 16 < length (variables (said s))
  many_variables e l = let a = once_longer (vars_in (words [] r)) (noted (texts vs) w) in let b = ap length (variables_on e) in omega arith

  pub many_names : is_variable w ≡ false → has axis-names w ≡ false → 32 < length (noted (texts ns) w) → 32 < length (names (said s))
  many_names e d l = let a = once_longer (names_in (words [] r)) (noted (texts ns) w) in let b = ap length (names_on e d) in omega arith

  pub over_whole : (us : Seen) (k : ℕ) → is_variable w ≡ true → texts us ≡ noted (texts vs) w → k ≡ place_in (texts us) w → over_parts (variable_for f.query f.item k).query ≡ true
      → over_parts (fill_words (variables (said s)) (names (said s)) (filling blank_query Head) (words [] (drop 1 s))).query ≡ true
  over_whole us k e t p o =
      let g = variable_for f.query f.item k in
      ap (λ (x : Filling). over_parts x.query) (sym (goes_on g (ap (variable_for f.query f.item) (variable_number us k e t p) ∙ fill_variable (variables (said s)) (names (said s)) f w e)))
      ∙ over_words (variables (said s)) (names (said s)) (words [] r) g o
