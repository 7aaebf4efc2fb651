-- Query texts and their readings, computed: document 01's own, and texts on both sides of each line. Assumes nothing.
use Rattle.std.specs.Prelude.{◌≡◌, refl, Ok, List, [], ◌∷◌, ◌++◌, ℕ}
use Prim.Native.String.{String}
use Rattle.meaning.specs.Tests.{◌&◌, ◌or◌, non, some}
use Rattle.meaning.specs.Axes.{bytes, axes}
use Rattle.meaning.specs.Texts.{pick, within, among, just, word, spelt, up_to, any_of, Place, legal, bad}
use Rattle.meaning.specs.Places.{ends, some_byte, alive, is_none, is_empty, cat, alt, after, next, place}
use Rattle.meaning.specs.QueryTexts.{blank, lower, in_variable, variable, upper, in_label, label, axis-names, axis, blanks, ◌~◌, listed, head, condition, query, in_word, put, words, is_variable, with_word, phrases, said, same, place_in, has, once, variables_of, label-names_of, variables, names, label_of, axis_conditions_of, labels_in, axes_in, heads, labels, axis_conditions, pad, no_label, no-condition, made, query_of, blank_query, outside, twice, in_label_condition, in_axis_condition, unused, closed, answer_of, answer_at, answer, query_for, reading_of, reading, buffer_for, buffer}
use Rattle.meaning.specs.Told.{number, place as place_of, Told, given, refused, told_query_text}
use Rattle.meaning.specs.declared.Query.{Query}

-- the legal texts
placing : Unit {0}
unfolding ◌&◌ ◌or◌ bytes axes pick within among just word spelt up_to any_of ends some_byte alive is_none is_empty cat alt after next place blank lower in_variable variable upper in_label label axis-names axis blanks ◌~◌ listed head condition query
placing = tt

-- what they say, and the answers
reads : Unit {0}
unfolding placing non some in_word put words is_variable with_word phrases said same place_in has once variables_of label-names_of variables names label_of axis_conditions_of labels_in axes_in heads labels axis_conditions pad made query_of blank_query outside twice in_label_condition in_axis_condition unused closed answer_of answer_at answer query_for reading_of reading buffer_for buffer number place_of given refused told_query_text
reads = tt

-- document 01's example: its query, and its names in a buffer of eight bytes
abbrev example : List ℕ
example = bytes "Q(x,y) <- NP(x), Child+(x,y), NN(y)."

abbrev example_query : Query
example_query = record {
  variables = 2;
  head_count = 2;
  «head» = pad 8 0 (0 ∷ 1 ∷ []);
  label_count = 2;
  labels = pad 32 no_label (record { variable = 0; label = 0 } ∷ record { variable = 1; label = 1 } ∷ []);
  axis_count = 1;
  axes = pad 32 no-condition (record { code = 1; first = 0; second = 1 } ∷ []);
}

pub example-read : reading example 8 ≡ Ok (record { bytes = 6; query = example_query })
unfolding reads
example-read = refl

pub example-names : buffer example (1 ∷ 2 ∷ 3 ∷ 4 ∷ 5 ∷ 6 ∷ 7 ∷ 8 ∷ []) ≡ bytes "NP\nNN\n" ++ (7 ∷ 8 ∷ [])
unfolding reads
example-names = refl

-- places
abbrev at : String → Place
at s = place query (bytes s)

pub places :
    (at "Q () <- NP ( x )\n.\r\t " ≡ legal)
    × (at "Q(x)<-C(x),N(x),F(x),Q(x),NE(x),NextSibling*(x,y),Following(y,x),Child (x,x)." ≡ legal)
    × (at "" ≡ bad 0)
    × (at " Q(x)" ≡ bad 0)
    × (at "Q(x) <- Chil(x,y)." ≡ bad 12)
    × (at "Q(x) <- Childs(x,y)." ≡ bad 13)
    × (at "Q(x) <- CHild(x,y)." ≡ bad 10)
    × (at "Q(x) <- Child(x)." ≡ bad 15)
    × (at "Q(x) <- NP(x,y)." ≡ bad 12)
    × (at "Q(x) <- Child +(x,y)." ≡ bad 14)
    × (at "Q(x) < - NP(x)." ≡ bad 6)
    × (at "Q(abcdefgh) <- NP(x)." ≡ legal)
    × (at "Q(abcdefghi) <- NP(x)." ≡ bad 10)
    × (at "Q() <- ABCDEFGHIJKLMNOP(x)." ≡ legal)
    × (at "Q() <- ABCDEFGHIJKLMNOPQ(x)." ≡ bad 23)
    × (at "Q(x) <- NP(x)" ≡ bad 13)
    × (at "Q(x) <- NP(x). x" ≡ bad 15)
unfolding placing
places = (refl, refl, refl, refl, refl, refl, refl, refl, refl, refl, refl, refl, refl, refl, refl, refl, refl)

-- refusals, in the order in which they are tried
abbrev told : String → ℕ → Told
told s m = told_query_text (reading (bytes s) m)

abbrev no : ℕ → ℕ → Told
no n p = record { number = n; place = p; values = [] }

pub refusals :
    (told "Q(x,y) <- NP(x), Child+(x,y), NN(y)." 6 ≡ record { number = 0; place = 0; values = 6 ∷ [] })
    × (told "Q(x,y) <- NP(x), Child+(x,y), NN(y)." 5 ≡ no 9 0)
    × (told "Q(y,x) <- NP(x)." 0 ≡ no 13 0)
    × (told "Q(x,x) <- NP(y)." 0 ≡ no 5 0)
    × (told "Q(x,x,x,x,x,x,x,x,x) <- NP(y)." 0 ≡ no 4 0)
    × (told "Q(x,x,x,x,x,x,x,x,x) <- NP(y)" 0 ≡ no 10 29)
unfolding reads
refusals = (refl, refl, refl, refl, refl, refl)
