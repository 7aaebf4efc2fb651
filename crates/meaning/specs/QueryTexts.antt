-- Query texts, document 01's chapter of that name: the legal texts, what a legal text says, the query it makes, and the
-- answer of a reader, its query and the byte buffer of the names as functions of the inputs. Assumes nothing: these are definitions.
use Rattle.std.specs.Prelude.{◌≡◌, Result, Ok, Err, Bool, true, false, ◌⊎◌, List, [], ◌∷◌, ◌++◌, map, ℕ, zero, suc, eqb, ltb, length, get_or, drop}
use Rattle.meaning.specs.Tests.{◌&◌, ◌or◌, non, some}
use Rattle.meaning.specs.Axes.{Axis, axes, bytes}
use Rattle.meaning.specs.Texts.{pick, Range, ◌to◌, among, Form, empty, byte, ◌then◌, ◌∣◌, many, Has, word, spelt, up_to, any_of, Place, legal, bad}
use Rattle.meaning.specs.Places.{place}
use Rattle.meaning.specs.declared.Condition.{Condition}
use Rattle.meaning.specs.declared.LabelCondition.{LabelCondition}
use Rattle.meaning.specs.declared.Query.{Query}
use Rattle.meaning.specs.declared.Refusal.{Refusal}
use Rattle.meaning.specs.declared.Refusal.TheVariants.{Counts, Variables, ShortBuffer, QueryText, HeadVariable}
use Rattle.meaning.specs.declared.QueryReading.{QueryReading}

infixr 20 ◌~◌
-- 1. The legal texts.

-- space, tab, line feed and carriage return
unfoldable pub blank : List Range
blank = 32 to 32 ∷ 9 to 10 ∷ 13 to 13 ∷ []

-- a variable: a lower-case letter and up to 7 lower-case letters or digits
unfoldable pub lower : List Range
lower = 97 to 122 ∷ []

unfoldable pub in_variable : List Range
in_variable = 97 to 122 ∷ 48 to 57 ∷ []

unfoldable pub variable : Form
variable = byte lower then up_to 7 (byte in_variable)

-- a label name: an upper-case letter and up to 15 upper-case letters, digits, '$' or '|'
unfoldable pub upper : List Range
upper = 65 to 90 ∷ []

unfoldable pub in_label : List Range
in_label = 65 to 90 ∷ 48 to 57 ∷ 36 to 36 ∷ 124 to 124 ∷ []

unfoldable pub label : Form
label = byte upper then up_to 15 (byte in_label)

-- an axis name: as in the table
unfoldable pub axis-names : List (List ℕ)
axis-names = map (λ (a : Axis). a.name) axes

unfoldable pub axis : Form
axis = any_of (map word axis-names)

-- one and then another, perhaps with white space between
unfoldable pub blanks : Form
blanks = many (byte blank)

unfoldable pub ◌~◌ : Form → Form → Form
f ~ g = f then blanks then g

-- one or more, with commas between
unfoldable pub listed : Form → Form
listed f = f then many (blanks then spelt "," ~ f)

unfoldable pub head : Form
head = spelt "Q" ~ spelt "(" ~ (spelt ")" ∣ (listed variable ~ spelt ")"))

unfoldable pub condition : Form
condition = (label ~ spelt "(" ~ variable ~ spelt ")") ∣ (axis ~ spelt "(" ~ variable ~ spelt "," ~ variable ~ spelt ")")

unfoldable pub query : Form
query = head ~ spelt "<-" ~ listed condition ~ spelt "." ~ empty

-- 2. What a text says: the variables of its head, and its conditions, each a name with its variables.

pub record Phrase : Type 0 where
  pub name : List ℕ
  pub variables : List (List ℕ)

pub record Said : Type 0 where
  pub «head» : List (List ℕ)
  pub conditions : List Phrase

-- the ways to write it
unfoldable pub with_commas : List Form → Form
with_commas [] = empty
with_commas (f ∷ []) = f
with_commas (f ∷ g ∷ fs) = f ~ spelt "," ~ with_commas (g ∷ fs)

unfoldable pub written_phrase : Phrase → Form
written_phrase p = word p.name ~ spelt "(" ~ with_commas (map word p.variables) ~ spelt ")"

unfoldable pub written : Said → Form
written q =
    written_phrase (record { name = bytes "Q"; variables = q.«head» })
    ~ spelt "<-" ~ with_commas (map written_phrase q.conditions) ~ spelt "." ~ empty

-- what can be said so: variables in the head; a label with one variable, or an axis with two
unfoldable pub All : {A : Type 0} → (A → Type 0) → List A → Type 0
All P [] = Unit {0}
All P (a ∷ l) = P a × All P l

unfoldable pub IsCondition : Phrase → Type 0
IsCondition p =
    (Has label p.name × ((x : List ℕ) × (p.variables ≡ x ∷ []) × Has variable x))
    ⊎ (Has axis p.name × ((x : List ℕ) × (y : List ℕ) × (p.variables ≡ x ∷ y ∷ []) × Has variable x × Has variable y))

pub record IsSaid (q : Said) : Type 0 where
  pub variables : All (Has variable) q.«head»
  pub conditions : All IsCondition q.conditions

-- The same by computing. Words are the runs of letters, digits, '$', '|', '+' and '*'; a variable is told by its first letter;
-- behind the Q stand the head's variables, then each condition's name and its variables. That a legal text is a way to write
-- what it says, and that each way to write it says it, is proved with the reader (`legal_says`, `written-legal`).
unfoldable pub in_word : List Range
in_word = 97 to 122 ∷ 65 to 90 ∷ 48 to 57 ∷ 36 to 36 ∷ 124 to 124 ∷ 42 to 43 ∷ []

unfoldable pub put : List ℕ → List (List ℕ) → List (List ℕ)
put [] ws = ws
put (b ∷ w) ws = (b ∷ w) ∷ ws

unfoldable pub words : List ℕ → List ℕ → List (List ℕ)
words w [] = put w []
words w (b ∷ s) = pick (among in_word b) (words (w ++ (b ∷ [])) s) (put w (words [] s))

unfoldable pub is_variable : List ℕ → Bool
is_variable w = among lower (get_or w 0 0)

unfoldable pub with_word : List ℕ → Said → Said
with_word w q =
    pick (is_variable w)
    (record { «head» = w ∷ q.«head»; conditions = q.conditions })
    (record { «head» = []; conditions = record { name = w; variables = q.«head» } ∷ q.conditions })

unfoldable pub phrases : List (List ℕ) → Said
phrases [] = record { «head» = []; conditions = [] }
phrases (w ∷ ws) = with_word w (phrases ws)

unfoldable pub said : List ℕ → Said
said s = phrases (words [] (drop 1 s))

-- 3. Numbers: each variable and each label name once, in the order of first appearance.

unfoldable pub same : List ℕ → List ℕ → Bool
same [] [] = true
same [] (c ∷ t) = false
same (b ∷ s) [] = false
same (b ∷ s) (c ∷ t) = eqb b c & same s t

-- the place of a word in a list, or the list's length
unfoldable pub place_in : List (List ℕ) → List ℕ → ℕ
place_in [] w = 0
place_in (v ∷ vs) w = pick (same v w) 0 (suc (place_in vs w))

unfoldable pub has : List (List ℕ) → List ℕ → Bool
has vs w = ltb (place_in vs w) (length vs)

-- the words seen, and behind them each further word once
unfoldable pub once : List (List ℕ) → List (List ℕ) → List (List ℕ)
once seen [] = seen
once seen (w ∷ ws) = once (pick (has seen w) seen (seen ++ (w ∷ []))) ws

unfoldable pub variables_of : List Phrase → List (List ℕ)
variables_of [] = []
variables_of (p ∷ ps) = p.variables ++ variables_of ps

unfoldable pub label-names_of : List Phrase → List (List ℕ)
label-names_of [] = []
label-names_of (p ∷ ps) = pick (has axis-names p.name) (label-names_of ps) (p.name ∷ label-names_of ps)

unfoldable pub variables : Said → List (List ℕ)
variables q = once [] (q.«head» ++ variables_of q.conditions)

unfoldable pub names : Said → List (List ℕ)
names q = once [] (label-names_of q.conditions)

-- 4. The query: vs numbers the variables and ns the names.

-- a label has one variable, an axis two; a legal text says no others
unfoldable pub label_of : List (List ℕ) → ℕ → List (List ℕ) → List LabelCondition
label_of vs n [] = []
label_of vs n (x ∷ xs) = record { variable = place_in vs x; label = n } ∷ []

unfoldable pub axis_conditions_of : List (List ℕ) → ℕ → List (List ℕ) → List Condition
axis_conditions_of vs c [] = []
axis_conditions_of vs c (x ∷ []) = []
axis_conditions_of vs c (x ∷ y ∷ xs) = record { code = c; first = place_in vs x; second = place_in vs y } ∷ []

unfoldable pub labels_in : List (List ℕ) → List (List ℕ) → List Phrase → List LabelCondition
labels_in vs ns [] = []
labels_in vs ns (p ∷ ps) = pick (has axis-names p.name) [] (label_of vs (place_in ns p.name) p.variables) ++ labels_in vs ns ps

unfoldable pub axes_in : List (List ℕ) → List Phrase → List Condition
axes_in vs [] = []
axes_in vs (p ∷ ps) = pick (has axis-names p.name) (axis_conditions_of vs (place_in axis-names p.name) p.variables) [] ++ axes_in vs ps

unfoldable pub heads : Said → List ℕ
heads q = map (place_in (variables q)) q.«head»

unfoldable pub labels : Said → List LabelCondition
labels q = labels_in (variables q) (names q) q.conditions

unfoldable pub axis_conditions : Said → List Condition
axis_conditions q = axes_in (variables q) q.conditions

-- an array of n places: the list, then z
unfoldable pub pad : {A : Type 0} → ℕ → A → List A → List A
pad zero z l = []
pad (suc n) z [] = z ∷ pad n z []
pad (suc n) z (a ∷ l) = a ∷ pad n z l

abbrev pub no_label : LabelCondition
no_label = record { variable = 0; label = 0 }

abbrev pub no-condition : Condition
no-condition = record { code = 0; first = 0; second = 0 }

unfoldable pub made : ℕ → List ℕ → List LabelCondition → List Condition → Query
made n hs ls cs = record {
  variables = n;
  head_count = length hs;
  «head» = pad 8 0 hs;
  label_count = length ls;
  labels = pad 32 no_label ls;
  axis_count = length cs;
  axes = pad 32 no-condition cs;
}

unfoldable pub query_of : Said → Query
query_of q = made (length (variables q)) (heads q) (labels q) (axis_conditions q)

unfoldable pub blank_query : Query
blank_query = made 0 [] [] []

-- 5. The refusals, tried in this order: 10, 4, 5, 13, 9.

-- a count is outside its limits
unfoldable pub outside : Said → Bool
outside q =
    ltb 16 (length (variables q)) or ltb 32 (length (names q)) or ltb 8 (length (heads q))
    or ltb 32 (length (labels q)) or ltb 32 (length (axis_conditions q))

-- a head variable twice
unfoldable pub twice : Query → Bool
twice q = some q.head_count (λ i. some i (λ j. eqb (get_or q.«head» j 0) (get_or q.«head» i 0)))

-- a head variable in no label condition and in no axis condition
unfoldable pub in_label_condition : Query → ℕ → Bool
in_label_condition q v = some q.label_count (λ i. eqb (get_or q.labels i no_label).variable v)

unfoldable pub in_axis_condition : Query → ℕ → Bool
in_axis_condition q v =
    some q.axis_count (λ i. eqb (get_or q.axes i no-condition).first v or eqb (get_or q.axes i no-condition).second v)

unfoldable pub unused : Query → Bool
unused q = some q.head_count (λ i. non (in_label_condition q (get_or q.«head» i 0) or in_axis_condition q (get_or q.«head» i 0)))

-- the names, each closed by a line feed
unfoldable pub closed : List (List ℕ) → List ℕ
closed [] = []
closed (n ∷ ns) = n ++ (10 ∷ closed ns)

unfoldable pub answer_of : Said → ℕ → Result ℕ Refusal
answer_of q m =
    pick (outside q) (Err Counts)
    (pick (twice (query_of q)) (Err Variables)
    (pick (unused (query_of q)) (Err HeadVariable)
    (pick (ltb m (length (closed (names q)))) (Err ShortBuffer) (Ok (length (closed (names q)))))))

unfoldable pub answer_at : Place → Said → ℕ → Result ℕ Refusal
answer_at legal q m = answer_of q m
answer_at (bad p) q m = Err (QueryText p)

-- 6. The answer to a text with a byte buffer of m bytes, the reading with its query, and the buffer b afterwards.

unfoldable pub answer : List ℕ → ℕ → Result ℕ Refusal
answer s m = answer_at (place query s) (said s) m

unfoldable pub reading_of : Result ℕ Refusal → Said → Result QueryReading Refusal
reading_of (Ok n) q = Ok (record { bytes = n; query = query_of q })
reading_of (Err r) q = Err r

unfoldable pub reading : List ℕ → ℕ → Result QueryReading Refusal
reading s m = reading_of (answer s m) (said s)

-- what a reading answers beside its query: the bytes of the names, or the refusal
unfoldable pub answered : Result QueryReading Refusal → Result ℕ Refusal
answered (Ok x) = Ok x.bytes
answered (Err r) = Err r

-- the query that a reading gives; a refused text has the blank query
unfoldable pub query_for : Result QueryReading Refusal → Query
query_for (Ok x) = x.query
query_for (Err r) = blank_query

unfoldable pub buffer_for : Result ℕ Refusal → Said → List ℕ → List ℕ
buffer_for (Ok n) q b = closed (names q) ++ drop n b
buffer_for (Err r) q b = b

unfoldable pub buffer : List ℕ → List ℕ → List ℕ
buffer s b = buffer_for (answer s (length b)) (said s) b
