-- The query, filled word by word, is the query of what the words say. Assumes nothing.
use mathlib.Core.Path.{◌≡◌, refl, sym, ap, ◌∙◌}
use mathlib.Core.Bool.{Bool, true, false}
use mathlib.Core.List.{List, [], ◌∷◌, ◌++◌, append_assoc, append-nil, map}
use Prim.Native.Nat.{ℕ, zero, suc, ◌+◌, ◌≤◌, ◌<◌}
use native.Mathlib.Nat.{not-suc-le-zero}
use native.Mathlib.Omega.{arith}
use lib.Dec.{ltb}
use lib.ListN.{length, drop, set, length-append}
use borrow.Author.Tests.{lt-ltb, le-ltb, ltb-true, ltb-false}
use Rattle.meaning.specs.Texts.{pick}
use Rattle.meaning.specs.QueryTexts.{words, place_in, has, is_variable, with_word, phrases, said, Said, axis-names, pad, made, blank_query, no_label, no-condition, label_of, axis_conditions_of, labels_in, axes_in}
use Rattle.meaning.specs.declared.Condition.{Condition}
use Rattle.meaning.specs.declared.LabelCondition.{LabelCondition}
use Rattle.meaning.specs.declared.Query.{Query}
use Rattle.query_text.specs.Filling.{capped, shown, filled, with_head, with_label, with_axis, filling, variable_for, fill_word, fill_words}
use Rattle.query_text.specs.declared.filling.Item.{Item}
use Rattle.query_text.specs.declared.filling.Item.TheVariants.{Head, Label, Axis, Second, Done}
use Rattle.query_text.specs.declared.filling.Filling.{Filling}

-- 1. An array with one entry more.
pad_push : {A : Type 0} (n : ℕ) (z : A) (l : List A) (v : A) → length l < n → set (pad n z l) (length l) v ≡ pad n z (l ++ (v ∷ []))
unfolding pad
pad_push zero z l v h = absurd (not-suc-le-zero h)
pad_push (suc n) z [] v h = refl
pad_push (suc n) z (a ∷ l) v h = ap (λ (x : List _). a ∷ x) (pad_push n z l v (omega arith))

pad-full : {A : Type 0} (n : ℕ) (z : A) (l : List A) (v : A) → n ≤ length l → pad n z l ≡ pad n z (l ++ (v ∷ []))
unfolding pad
pad-full zero z l v h = refl
pad-full (suc n) z [] v h = absurd (not-suc-le-zero h)
pad-full (suc n) z (a ∷ l) v h = ap (λ (x : List _). a ∷ x) (pad-full n z l v (omega arith))

pub capped_in : {A : Type 0} (n : ℕ) (l : List A) → length l ≤ n → capped n l ≡ length l
unfolding capped pick
capped_in n l h = rw (le-ltb n (length l) h)

pub capped_out : {A : Type 0} (n : ℕ) (l : List A) → n < length l → capped n l ≡ suc n
unfolding capped pick
capped_out n l h = rw (lt-ltb n (length l) h)

grow : {A B : Type 0} (R : ℕ → List A → B) (n : ℕ) (z : A) (l : List A) (v : A)
    → pick (ltb (capped n l) n) (R (capped n l + 1) (set (pad n z l) (capped n l) v)) (R (suc n) (pad n z l)) ≡ R (capped n (l ++ (v ∷ []))) (pad n z (l ++ (v ∷ [])))
unfolding pick
grow {A} {B} R n z l v = go (ltb (length l) n) refl
  where
    longer : length (l ++ (v ∷ [])) ≡ suc (length l)
    longer = let e = length-append l (v ∷ []) in omega arith

    past : n ≤ length l → ltb (capped n l) n ≡ false
    past h = half (ltb n (length l)) refl
      where
        half : (y : Bool) → ltb n (length l) ≡ y → ltb (capped n l) n ≡ false
        half true d = le-ltb (capped n l) n (let k = capped_out n l (ltb-true n (length l) d) in omega arith)
        half false d = le-ltb (capped n l) n (let k = capped_in n l (ltb-false n (length l) d) in omega arith)

    go : (y : Bool) → ltb (length l) n ≡ y
        → pick (ltb (capped n l) n) (R (capped n l + 1) (set (pad n z l) (capped n l) v)) (R (suc n) (pad n z l)) ≡ R (capped n (l ++ (v ∷ []))) (pad n z (l ++ (v ∷ [])))
    go true e =
        let h = ltb-true (length l) n e in
        let c : capped n l ≡ length l = capped_in n l (omega arith) in
        let d : length l + 1 ≡ capped n (l ++ (v ∷ [])) = (let k = capped_in n (l ++ (v ∷ [])) (omega (arith, longer, h)) in omega (arith, k, longer)) in
        ap (λ (k : ℕ). pick (ltb k n) (R (k + 1) (set (pad n z l) k v)) (R (suc n) (pad n z l))) c
        ∙ ap (λ (b : Bool). pick b (R (length l + 1) (set (pad n z l) (length l) v)) (R (suc n) (pad n z l))) e
        ∙ ap (λ (k : ℕ). R k (set (pad n z l) (length l) v)) d
        ∙ ap (R (capped n (l ++ (v ∷ [])))) (pad_push n z l v h)
    go false e =
        let h = ltb-false (length l) n e in
        ap (λ (b : Bool). pick b (R (capped n l + 1) (set (pad n z l) (capped n l) v)) (R (suc n) (pad n z l))) (past h)
        ∙ ap (λ (k : ℕ). R k (pad n z l)) (sym (capped_out n (l ++ (v ∷ [])) (omega (arith, longer, h))))
        ∙ ap (R (capped n (l ++ (v ∷ [])))) (pad-full n z l v h)

head_more : (m : ℕ) (hs : List ℕ) (ls : List LabelCondition) (cs : List Condition) (v : ℕ) → with_head (shown m hs ls cs) v ≡ shown m (hs ++ (v ∷ [])) ls cs
unfolding with_head shown
head_more m hs ls cs v =
    grow (λ (k : ℕ) (h : List ℕ). record { variables = m; head_count = k; «head» = h; label_count = capped 32 ls; labels = pad 32 no_label ls; axis_count = capped 32 cs; axes = pad 32 no-condition cs }) 8 0 hs v

label-more : (m : ℕ) (hs : List ℕ) (ls : List LabelCondition) (cs : List Condition) (v n : ℕ) → with_label (shown m hs ls cs) v n ≡ shown m hs (ls ++ (record { variable = v; label = n } ∷ [])) cs
unfolding with_label shown
label-more m hs ls cs v n =
    grow (λ (k : ℕ) (l : List LabelCondition). record { variables = m; head_count = capped 8 hs; «head» = pad 8 0 hs; label_count = k; labels = l; axis_count = capped 32 cs; axes = pad 32 no-condition cs }) 32 no_label ls (record { variable = v; label = n })

axis-more : (m : ℕ) (hs : List ℕ) (ls : List LabelCondition) (cs : List Condition) (c u v : ℕ) → with_axis (shown m hs ls cs) c u v ≡ shown m hs ls (cs ++ (record { code = c; first = u; second = v } ∷ []))
unfolding with_axis shown
axis-more m hs ls cs c u v =
    grow (λ (k : ℕ) (a : List Condition). record { variables = m; head_count = capped 8 hs; «head» = pad 8 0 hs; label_count = capped 32 ls; labels = pad 32 no_label ls; axis_count = k; axes = a }) 32 no-condition cs (record { code = c; first = u; second = v })

-- 2. What the variables in front add, by what they are for.
unfoldable second_of : List (List ℕ) → ℕ → ℕ → List (List ℕ) → List Condition
second_of vs c u [] = []
second_of vs c u (y ∷ ys) = record { code = c; first = u; second = place_in vs y } ∷ []

unfoldable heads_for : List (List ℕ) → Item → List (List ℕ) → List ℕ
heads_for vs Head h = map (place_in vs) h
heads_for vs (Label n) h = []
heads_for vs (Axis c) h = []
heads_for vs (Second c u) h = []
heads_for vs Done h = []

unfoldable labels_for : List (List ℕ) → Item → List (List ℕ) → List LabelCondition
labels_for vs Head h = []
labels_for vs (Label n) h = label_of vs n h
labels_for vs (Axis c) h = []
labels_for vs (Second c u) h = []
labels_for vs Done h = []

unfoldable axes_for : List (List ℕ) → Item → List (List ℕ) → List Condition
axes_for vs Head h = []
axes_for vs (Label n) h = []
axes_for vs (Axis c) h = axis_conditions_of vs c h
axes_for vs (Second c u) h = second_of vs c u h
axes_for vs Done h = []

no-heads : (vs : List (List ℕ)) (i : Item) → heads_for vs i [] ≡ []
unfolding heads_for
no-heads vs Head = refl
no-heads vs (Label n) = refl
no-heads vs (Axis c) = refl
no-heads vs (Second c u) = refl
no-heads vs Done = refl

no-labels : (vs : List (List ℕ)) (i : Item) → labels_for vs i [] ≡ []
unfolding labels_for label_of
no-labels vs Head = refl
no-labels vs (Label n) = refl
no-labels vs (Axis c) = refl
no-labels vs (Second c u) = refl
no-labels vs Done = refl

no-axes : (vs : List (List ℕ)) (i : Item) → axes_for vs i [] ≡ []
unfolding axes_for axis_conditions_of second_of
no-axes vs Head = refl
no-axes vs (Label n) = refl
no-axes vs (Axis c) = refl
no-axes vs (Second c u) = refl
no-axes vs Done = refl

second_one : (vs : List (List ℕ)) (c u : ℕ) (x : List ℕ) (h : List (List ℕ)) → record { code = c; first = u; second = place_in vs x } ∷ [] ≡ second_of vs c u (x ∷ h)
unfolding second_of
second_one vs c u x h = refl

axis_second : (vs : List (List ℕ)) (c : ℕ) (x : List ℕ) (h : List (List ℕ)) → second_of vs c (place_in vs x) h ≡ axis_conditions_of vs c (x ∷ h)
unfolding second_of axis_conditions_of
axis_second vs c x [] = refl
axis_second vs c x (y ∷ h) = refl

-- 3. All words.
module _ (m : ℕ) (vs ns : List (List ℕ)) where
  shown-same : {a b : List ℕ} {l k : List LabelCondition} {c d : List Condition} → a ≡ b → l ≡ k → c ≡ d → shown m a l c ≡ shown m b k d
  shown-same {a} {b} {l} {k} {c} {d} p q r = ap (λ (x : List ℕ). shown m x l c) p ∙ ap (λ (x : List LabelCondition). shown m b x c) q ∙ ap (λ (x : List Condition). shown m b k x) r

  unfoldable ends_as : List ℕ → List LabelCondition → List Condition → Item → Said → Query
  ends_as hs ls cs i q =
      shown m (hs ++ heads_for vs i q.«head») (ls ++ (labels_for vs i q.«head» ++ labels_in vs ns q.conditions)) (cs ++ (axes_for vs i q.«head» ++ axes_in vs q.conditions))

  -- from any state, the words behind
  abbrev All : List (List ℕ) → Type 0
  All ws = (hs : List ℕ) (ls : List LabelCondition) (cs : List Condition) (i : Item) → (fill_words vs ns (filling (shown m hs ls cs) i) ws).query ≡ ends_as hs ls cs i (phrases ws)

  abbrev from : List (List ℕ) → Query → Item → Query
  from ws q i = (fill_words vs ns (filling q i) ws).query

  variable-on : (w : List ℕ) (ws : List (List ℕ)) → All ws → (hs : List ℕ) (ls : List LabelCondition) (cs : List Condition) (i : Item)
      → (fill_words vs ns (variable_for (shown m hs ls cs) i (place_in vs w)) ws).query ≡ ends_as hs ls cs i (record { «head» = w ∷ (phrases ws).«head»; conditions = (phrases ws).conditions })
  unfolding variable_for ends_as heads_for labels_for axes_for label_of
  variable-on w ws h hs ls cs Head =
      ap (λ (q : Query). from ws q Head) (head_more m hs ls cs (place_in vs w)) ∙ h (hs ++ (place_in vs w ∷ [])) ls cs Head
      ∙ shown-same (append_assoc hs (place_in vs w ∷ []) (map (place_in vs) (phrases ws).«head»)) refl refl
  variable-on w ws h hs ls cs (Label n) =
      ap (λ (q : Query). from ws q Done) (label-more m hs ls cs (place_in vs w) n) ∙ h hs (ls ++ (record { variable = place_in vs w; label = n } ∷ [])) cs Done
      ∙ shown-same refl (append_assoc ls (record { variable = place_in vs w; label = n } ∷ []) (labels_in vs ns (phrases ws).conditions)) refl
  variable-on w ws h hs ls cs (Axis c) =
      h hs ls cs (Second c (place_in vs w))
      ∙ shown-same refl refl (ap (λ (x : List Condition). cs ++ (x ++ axes_in vs (phrases ws).conditions)) (axis_second vs c w (phrases ws).«head»))
  variable-on w ws h hs ls cs (Second c u) =
      ap (λ (q : Query). from ws q Done) (axis-more m hs ls cs c u (place_in vs w)) ∙ h hs ls (cs ++ (record { code = c; first = u; second = place_in vs w } ∷ [])) Done
      ∙ shown-same refl refl (append_assoc cs (record { code = c; first = u; second = place_in vs w } ∷ []) (axes_in vs (phrases ws).conditions)
      ∙ ap (λ (x : List Condition). cs ++ (x ++ axes_in vs (phrases ws).conditions)) (second_is c u))
    where
      second_is : (c u : ℕ) → record { code = c; first = u; second = place_in vs w } ∷ [] ≡ second_of vs c u (w ∷ (phrases ws).«head»)
      second_is c u = second_one vs c u w (phrases ws).«head»
  variable-on w ws h hs ls cs Done = h hs ls cs Done

  axis-on : (w : List ℕ) (ws : List (List ℕ)) → has axis-names w ≡ true → All ws → (hs : List ℕ) (ls : List LabelCondition) (cs : List Condition) (i : Item)
      → from ws (shown m hs ls cs) (Axis (place_in axis-names w)) ≡ ends_as hs ls cs i (record { «head» = []; conditions = record { name = w; variables = (phrases ws).«head» } ∷ (phrases ws).conditions })
  unfolding ends_as heads_for labels_for axes_for labels_in axes_in pick
  axis-on w ws e h hs ls cs i =
      h hs ls cs (Axis (place_in axis-names w))
      ∙ shown-same
      (ap (λ (x : List ℕ). hs ++ x) (sym (no-heads vs i)))
      (ap (λ (x : List LabelCondition). ls ++ (x ++ labels_in vs ns (phrases ws).conditions)) (sym (no-labels vs i))
      ∙ ap (λ (z : Bool). ls ++ (labels_for vs i [] ++ (pick z [] (label_of vs (place_in ns w) (phrases ws).«head») ++ labels_in vs ns (phrases ws).conditions))) (sym e))
      (ap (λ (z : Bool). cs ++ (pick z (axis_conditions_of vs (place_in axis-names w) (phrases ws).«head») [] ++ axes_in vs (phrases ws).conditions)) (sym e)
      ∙ ap (λ (x : List Condition). cs ++ (x ++ (pick (has axis-names w) (axis_conditions_of vs (place_in axis-names w) (phrases ws).«head») [] ++ axes_in vs (phrases ws).conditions))) (sym (no-axes vs i)))

  label-on : (w : List ℕ) (ws : List (List ℕ)) → has axis-names w ≡ false → All ws → (hs : List ℕ) (ls : List LabelCondition) (cs : List Condition) (i : Item)
      → from ws (shown m hs ls cs) (Label (place_in ns w)) ≡ ends_as hs ls cs i (record { «head» = []; conditions = record { name = w; variables = (phrases ws).«head» } ∷ (phrases ws).conditions })
  unfolding ends_as heads_for labels_for axes_for labels_in axes_in pick
  label-on w ws e h hs ls cs i =
      h hs ls cs (Label (place_in ns w))
      ∙ shown-same
      (ap (λ (x : List ℕ). hs ++ x) (sym (no-heads vs i)))
      (ap (λ (z : Bool). ls ++ (pick z [] (label_of vs (place_in ns w) (phrases ws).«head») ++ labels_in vs ns (phrases ws).conditions)) (sym e)
      ∙ ap (λ (x : List LabelCondition). ls ++ (x ++ (pick (has axis-names w) [] (label_of vs (place_in ns w) (phrases ws).«head») ++ labels_in vs ns (phrases ws).conditions))) (sym (no-labels vs i)))
      (ap (λ (x : List Condition). cs ++ (x ++ axes_in vs (phrases ws).conditions)) (sym (no-axes vs i))
      ∙ ap (λ (z : Bool). cs ++ (axes_for vs i [] ++ (pick z (axis_conditions_of vs (place_in axis-names w) (phrases ws).«head») [] ++ axes_in vs (phrases ws).conditions))) (sym e))

  all : (ws : List (List ℕ)) → All ws
  unfolding fill_words fill_word phrases with_word pick ends_as labels_in axes_in
  all [] hs ls cs i =
      sym (shown-same (ap (λ (x : List ℕ). hs ++ x) (no-heads vs i) ∙ append-nil hs)
      (ap (λ (x : List LabelCondition). ls ++ (x ++ [])) (no-labels vs i) ∙ append-nil ls)
      (ap (λ (x : List Condition). cs ++ (x ++ [])) (no-axes vs i) ∙ append-nil cs))
  all (w ∷ ws) hs ls cs i = go (is_variable w) (has axis-names w) refl (all ws)
    where
      go : (z y : Bool) → has axis-names w ≡ y → All ws
          → (fill_words vs ns (pick z (variable_for (shown m hs ls cs) i (place_in vs w)) (pick y (filling (shown m hs ls cs) (Axis (place_in axis-names w))) (filling (shown m hs ls cs) (Label (place_in ns w))))) ws).query
          ≡ ends_as hs ls cs i (pick z (record { «head» = w ∷ (phrases ws).«head»; conditions = (phrases ws).conditions }) (record { «head» = []; conditions = record { name = w; variables = (phrases ws).«head» } ∷ (phrases ws).conditions }))
      go true y e h = variable-on w ws h hs ls cs i
      go false true e h = axis-on w ws e h hs ls cs i
      go false false e h = label-on w ws e h hs ls cs i

-- 4. A turn, and the whole.
pub fill_variable : (vs ns : List (List ℕ)) (f : Filling) (w : List ℕ) → is_variable w ≡ true → variable_for f.query f.item (place_in vs w) ≡ fill_word vs ns f w
unfolding fill_word pick
fill_variable vs ns f w e = rw e

pub fill_axis : (vs ns : List (List ℕ)) (f : Filling) (w : List ℕ) → is_variable w ≡ false → has axis-names w ≡ true → filling f.query (Axis (place_in axis-names w)) ≡ fill_word vs ns f w
unfolding fill_word pick
fill_axis vs ns f w e d = rw (e, d)

pub fill_label : (vs ns : List (List ℕ)) (f : Filling) (w : List ℕ) → is_variable w ≡ false → has axis-names w ≡ false → filling f.query (Label (place_in ns w)) ≡ fill_word vs ns f w
unfolding fill_word pick
fill_label vs ns f w e d = rw (e, d)

pub words_cons : (vs ns : List (List ℕ)) (f : Filling) (w : List ℕ) (ws : List (List ℕ)) → fill_words vs ns f (w ∷ ws) ≡ fill_words vs ns (fill_word vs ns f w) ws
unfolding fill_words
words_cons vs ns f w ws = refl

blank-shown : blank_query ≡ shown 0 [] [] []
unfolding blank_query made shown capped pick
blank-shown = refl

-- the query of all words, but for the number of its variables
pub whole_query : (vs ns : List (List ℕ)) (s : List ℕ) → (fill_words vs ns (filling blank_query Head) (words [] (drop 1 s))).query ≡ filled 0 vs ns (said s)
unfolding filled said ends_as heads_for labels_for axes_for
whole_query vs ns s = ap (λ (q : Query). (fill_words vs ns (filling q Head) (words [] (drop 1 s))).query) blank-shown ∙ all 0 vs ns (words [] (drop 1 s)) [] [] [] Head
