-- The query, document 01's chapter of that name: its limits, its axis set, and what it asks of a table. Assumes nothing: these are definitions.
use Rattle.std.specs.Prelude.{Bool, cond, List, ℕ, ltb, leb, eqb, length, get_or}
use Rattle.meaning.specs.Tests.{◌&◌, ◌or◌, non, every, tab}
use Rattle.meaning.specs.Axes.{is_axis, set_of, axis_holds, key}
use Rattle.meaning.specs.declared.Condition.{Condition}
use Rattle.meaning.specs.declared.LabelCondition.{LabelCondition}
use Rattle.meaning.specs.declared.Query.{Query}

-- a query as the document speaks of it: lists of any length
pub record Question : Type 0 where
  pub variables : ℕ
  pub head : List ℕ
  pub labels : List LabelCondition
  pub axes : List Condition

abbrev pub no-condition : Condition
no-condition = record { code = 0; first = 0; second = 0 }

abbrev pub no_label : LabelCondition
no_label = record { variable = 0; label = 0 }

abbrev pub head_at : List ℕ → ℕ → ℕ
head_at h i = get_or h i 0

abbrev pub label_at : List LabelCondition → ℕ → LabelCondition
label_at ls i = get_or ls i no_label

abbrev pub axis_at : List Condition → ℕ → Condition
axis_at cs i = get_or cs i no-condition

-- a query by value: of each array the first places, as many as its number says
unfoldable pub firsts : {A : Type 0} → A → List A → ℕ → List A
firsts d xs n = tab (λ i. get_or xs i d) 0 n

unfoldable pub asked : Query → Question
asked q = record {
  variables = q.variables;
  head = firsts 0 q.head q.head_count;
  labels = firsts no_label q.labels q.label_count;
  axes = firsts no-condition q.axes q.axis_count;
}

-- 1 to 16 variables, a head of 0 to 8, at most 32 label conditions and at most 32 axis conditions
unfoldable pub is_counted : Question → Bool
is_counted q = leb 1 q.variables & leb q.variables 16 & leb (length q.head) 8 & leb (length q.labels) 32 & leb (length q.axes) 32

-- every code is an axis, every variable number is below the number of variables, and no variable is in the head twice
unfoldable pub is_axis_named : ℕ → Condition → Bool
is_axis_named v c = is_axis c.code & ltb c.first v & ltb c.second v

unfoldable pub is_head_named : ℕ → List ℕ → ℕ → Bool
is_head_named v h i = ltb (head_at h i) v & every i (λ j. non (eqb (head_at h j) (head_at h i)))

unfoldable pub is_named : Question → Bool
is_named q =
    every (length q.axes) (λ i. is_axis_named q.variables (axis_at q.axes i))
    & every (length q.labels) (λ i. ltb (label_at q.labels i).variable q.variables)
    & every (length q.head) (λ i. is_head_named q.variables q.head i)

-- all axes are in set s; the query is accepted if they are in one set, and with no axis at all it takes set 1
unfoldable pub fits : Question → ℕ → Bool
fits q s = every (length q.axes) (λ i. eqb (set_of (axis_at q.axes i).code) s)

unfoldable pub is_of_one_set : Question → Bool
is_of_one_set q = fits q 1 or fits q 2 or fits q 3

unfoldable pub takes : Question → ℕ
takes q = cond (fits q 1) 1 (cond (fits q 2) 2 3)

-- candidate sets: of a variable and a row
abbrev pub Sets : Type 0
Sets = ℕ → ℕ → Bool

-- a row carries a label
unfoldable pub carries : List ℕ → ℕ → ℕ → Bool
carries labels r l = eqb (get_or labels r 0) l

-- the rows that carry all labels of a variable
unfoldable pub label_sets : List ℕ → List LabelCondition → Sets
label_sets labels ls x r = every (length ls) (λ i. non (eqb x (label_at ls i).variable) or carries labels r (label_at ls i).label)

-- all that an answer goes by: rows, variables, axis conditions and what each axis means, the order of rows, the label sets, the head
pub record Problem : Type 0 where
  pub rows : ℕ
  pub variables : ℕ
  pub axes : List Condition
  pub holds : ℕ → ℕ → ℕ → Bool
  pub key : ℕ → ℕ
  pub start : Sets
  pub head : List ℕ

-- a query asked of a table
unfoldable pub problem : List ℕ → List ℕ → Question → Problem
problem t labels q = record {
  rows = length t;
  variables = q.variables;
  axes = q.axes;
  holds = axis_holds t;
  key = key (takes q) t;
  start = label_sets labels q.labels;
  head = q.head;
}
