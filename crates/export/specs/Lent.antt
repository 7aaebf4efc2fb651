-- A query as lists of numbers, as programs in other languages lend it, and as a reading of a query text leaves it. Assumes nothing: these are definitions.
use Rattle.std.specs.Prelude.{Bool, cond, List, [], ◌∷◌, ℕ, ◌+◌, ◌*◌, ◌/◌, ◌%◌, ltb, leb, eqb, length, get_or}
use Rattle.meaning.specs.Tests.{◌&◌, tab}
use Rattle.meaning.specs.Names.{pick}
use Rattle.meaning.specs.Query.{Question}
use Rattle.meaning.specs.declared.Condition.{Condition}
use Rattle.meaning.specs.declared.LabelCondition.{LabelCondition}

-- a variable of a label condition above 255 counts as 255: both are too large for any query
unfoldable pub narrowed : ℕ → ℕ
narrowed x = cond (ltb 255 x) 255 x

-- label condition i: two numbers, the variable and the label
unfoldable pub lent_label : List ℕ → ℕ → LabelCondition
lent_label ls i = record { variable = narrowed (get_or ls (2 * i) 0); label = get_or ls (2 * i + 1) 0 }

-- axis condition i: three numbers, the code and the two variables
unfoldable pub lent_axis : List ℕ → ℕ → Condition
lent_axis cs i = record { code = get_or cs (3 * i) 0; first = get_or cs (3 * i + 1) 0; second = get_or cs (3 * i + 2) 0 }

-- lists of these lengths hold a head of at most 8, and whole conditions, at most 32 of each kind
unfoldable pub is_whole : ℕ → ℕ → ℕ → Bool
is_whole h l c = leb h 8 & leb l 64 & eqb (l % 2) 0 & leb c 96 & eqb (c % 3) 0

abbrev pub whole : ℕ → List ℕ → List ℕ → List ℕ → Question
whole v h ls cs = record {
  variables = v;
  head = h;
  labels = tab (lent_label ls) 0 (length ls / 2);
  axes = tab (lent_axis cs) 0 (length cs / 3);
}

-- it has no variable, so it is refused 4
abbrev pub no_question : Question
no_question = record { variables = 0; head = []; labels = []; axes = [] }

-- what is asked by v variables, a head, and lists of label and axis conditions
unfoldable pub lent : ℕ → List ℕ → List ℕ → List ℕ → Question
lent v h ls cs = pick (is_whole (length h) (length ls) (length cs)) (whole v h ls cs) no_question

-- conditions as the numbers of such a list
unfoldable pub label_numbers : List LabelCondition → List ℕ
label_numbers [] = []
label_numbers (c ∷ cs) = c.variable ∷ c.label ∷ label_numbers cs

unfoldable pub axis_numbers : List Condition → List ℕ
axis_numbers [] = []
axis_numbers (c ∷ cs) = c.code ∷ c.first ∷ c.second ∷ axis_numbers cs
