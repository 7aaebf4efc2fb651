-- The query of a text, filled word by word. Assumes nothing: these are definitions.
use Rattle.std.specs.Prelude.{Bool, ◌≤◌, List, [], ◌∷◌, map, ℕ, suc, ◌+◌, ltb, length, set}
use Rattle.meaning.specs.Tests.{◌or◌}
use Rattle.meaning.specs.Texts.{pick}
use Rattle.meaning.specs.QueryTexts.{is_variable, has, place_in, axis-names, pad, no_label, no-condition, Said, labels_in, axes_in}
use Rattle.meaning.specs.declared.Condition.{Condition}
use Rattle.meaning.specs.declared.LabelCondition.{LabelCondition}
use Rattle.meaning.specs.declared.Query.{Query}
use Rattle.query_text.specs.declared.filling.Item.{Item}
use Rattle.query_text.specs.declared.filling.Item.TheVariants.{Head, Label, Axis, Second, Done}
use Rattle.query_text.specs.declared.filling.Filling.{Filling}

-- the counts are within their limits, or one is past its own
pub record Within (q : Query) : Type 0 where
  pub heads : q.head_count ≤ 8
  pub labels : q.label_count ≤ 32
  pub axes : q.axis_count ≤ 32

unfoldable pub over_parts : Query → Bool
over_parts q = ltb 8 q.head_count or ltb 32 q.label_count or ltb 32 q.axis_count

-- a count, which stays at one past its limit
unfoldable pub capped : {A : Type 0} → ℕ → List A → ℕ
capped n l = pick (ltb n (length l)) (suc n) (length l)

-- the query of a head and conditions, its counts capped
unfoldable pub shown : ℕ → List ℕ → List LabelCondition → List Condition → Query
shown n hs ls cs = record {
  variables = n;
  head_count = capped 8 hs;
  «head» = pad 8 0 hs;
  label_count = capped 32 ls;
  labels = pad 32 no_label ls;
  axis_count = capped 32 cs;
  axes = pad 32 no-condition cs;
}

-- the query of what is said, by the numbers of vs and ns
unfoldable pub filled : ℕ → List (List ℕ) → List (List ℕ) → Said → Query
filled n vs ns q = shown n (map (place_in vs) q.«head») (labels_in vs ns q.conditions) (axes_in vs q.conditions)

abbrev pub headed : Query → ℕ → List ℕ → Query
headed q n h = record {
  variables = q.variables;
  head_count = n;
  «head» = h;
  label_count = q.label_count;
  labels = q.labels;
  axis_count = q.axis_count;
  axes = q.axes;
}

abbrev pub labelled : Query → ℕ → List LabelCondition → Query
labelled q n l = record {
  variables = q.variables;
  head_count = q.head_count;
  «head» = q.«head»;
  label_count = n;
  labels = l;
  axis_count = q.axis_count;
  axes = q.axes;
}

abbrev pub related : Query → ℕ → List Condition → Query
related q n c = record {
  variables = q.variables;
  head_count = q.head_count;
  «head» = q.«head»;
  label_count = q.label_count;
  labels = q.labels;
  axis_count = n;
  axes = c;
}

unfoldable pub with_head : Query → ℕ → Query
with_head q v = pick (ltb q.head_count 8) (headed q (q.head_count + 1) (set q.«head» q.head_count v)) (headed q 9 q.«head»)

unfoldable pub with_label : Query → ℕ → ℕ → Query
with_label q v n =
    pick (ltb q.label_count 32)
    (labelled q (q.label_count + 1) (set q.labels q.label_count (record { variable = v; label = n })))
    (labelled q 33 q.labels)

unfoldable pub with_axis : Query → ℕ → ℕ → ℕ → Query
with_axis q c u v =
    pick (ltb q.axis_count 32)
    (related q (q.axis_count + 1) (set q.axes q.axis_count (record { code = c; first = u; second = v })))
    (related q 33 q.axes)

abbrev pub filling : Query → Item → Filling
filling q i = record { query = q; item = i }

unfoldable pub variable_for : Query → Item → ℕ → Filling
variable_for q Head v = filling (with_head q v) Head
variable_for q (Label n) v = filling (with_label q v n) Done
variable_for q (Axis c) v = filling q (Second c v)
variable_for q (Second c u) v = filling (with_axis q c u v) Done
variable_for q Done v = filling q Done

unfoldable pub fill_word : List (List ℕ) → List (List ℕ) → Filling → List ℕ → Filling
fill_word vs ns f w =
    pick (is_variable w) (variable_for f.query f.item (place_in vs w))
    (pick (has axis-names w) (filling f.query (Axis (place_in axis-names w))) (filling f.query (Label (place_in ns w))))

unfoldable pub fill_words : List (List ℕ) → List (List ℕ) → Filling → List (List ℕ) → Filling
fill_words vs ns f [] = f
fill_words vs ns f (w ∷ ws) = fill_words vs ns (fill_word vs ns f w) ws

-- with the number of its variables
abbrev pub numbered_as : ℕ → Query → Query
numbered_as n q = record {
  variables = n;
  head_count = q.head_count;
  «head» = q.«head»;
  label_count = q.label_count;
  labels = q.labels;
  axis_count = q.axis_count;
  axes = q.axes;
}
