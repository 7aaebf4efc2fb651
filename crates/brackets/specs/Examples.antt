-- Document 01's sentence and its names read to table D, and the places of texts at the edges of the rules, by computation. Assumes nothing.
use Rattle.std.specs.Prelude.{◌≡◌, refl, List, [], ◌∷◌, ◌++◌, map, ℕ, zero, suc, ◌≤◌, length, drop}
use Prim.Native.String.{String}
use Rattle.std.proofs.Common.{le-leb}
use Rattle.meaning.specs.Tests.{◌&◌, ◌or◌, non}
use Rattle.meaning.specs.Axes.{bytes}
use Rattle.meaning.specs.Names.{pick, onto, names_of, too_many, name_of, same, place_from, label_number}
use Rattle.meaning.specs.Sentences.{all, white, inner, token, size, posts, labels, tree_of, wrong_at, large_at, sentence_says, sentence_answer, posts_of, labels_of, sentence_leaves, SentenceRead}
use Rattle.brackets.specs.Reader.{then, skip, letters, past, blanks, empty, heads, closing, worded, bodied, labelled, limited, followed, read_tree, paired, reading, placed, reading_of}
use Rattle.brackets.specs.Numbers.{read}
use Rattle.brackets.specs.Whole.{reading_right}

-- every definition that a reading computes by
unfoldable pub computing : Unit {0}
unfolding ◌&◌ ◌or◌ non bytes pick onto names_of too_many name_of same place_from label_number all white inner token size posts labels tree_of sentence_says sentence_answer posts_of labels_of sentence_leaves then skip letters past blanks empty heads closing worded bodied labelled limited followed read_tree paired reading placed reading_of
computing = tt

unfoldable pub sentence_D : List ℕ
sentence_D = bytes "( (S (NP (DT a) (NN dog)) (VP (VBD ran) (PP (IN in) (NP (NN rain))))) )"

unfoldable pub names_D : List ℕ
names_D = bytes "NP" ++ 10 ∷ (bytes "NN" ++ 10 ∷ [])

unfoldable pub posts_D : List ℕ
posts_D = 9 ∷ 2 ∷ 0 ∷ 1 ∷ 8 ∷ 3 ∷ 7 ∷ 4 ∷ 6 ∷ 5 ∷ []

unfoldable pub labels_D : List ℕ
labels_D = 65535 ∷ 0 ∷ 65535 ∷ 1 ∷ 65535 ∷ 65535 ∷ 65535 ∷ 65535 ∷ 0 ∷ 1 ∷ []

-- read into any two columns that are long enough: ten rows, up to the end of the text
pub table_D : (post label : List ℕ) → 10 ≤ length post → 10 ≤ length label
    → SentenceRead sentence_D names_D post label (read 10 71) (posts_D ++ drop 10 post) (labels_D ++ drop 10 label)
unfolding computing sentence_D names_D posts_D labels_D
table_D post label h k =
    record {
      reading = reading_of sentence_D;
      is_reading = reading_right sentence_D;
      answered = rw (le-leb 10 (length post) h, le-leb 10 (length label) k);
      posts_left = refl;
      labels-left = refl;
    }

-- texts that are refused 11, with their places
unfoldable pub wrong_texts : List String
wrong_texts =
    "(S(NP x))" ∷ "( S x)" ∷ "(S ( NP x))" ∷ "(((A a)))" ∷ "( (A a) (B b) )" ∷ "()" ∷ "(NP)" ∷ "(NP )" ∷ "(A a b)" ∷ "" ∷ "(S" ∷ "(A (B b) c)" ∷ []

pub wrong_places : map (λ (t : String). reading_of (bytes t)) wrong_texts ≡ map wrong_at (2 ∷ 2 ∷ 4 ∷ 2 ∷ 8 ∷ 1 ∷ 3 ∷ 4 ∷ 5 ∷ 0 ∷ 2 ∷ 9 ∷ [])
unfolding computing wrong_texts
wrong_places = refl

-- 64 levels, and one more, also in a bare pair; 1,025 rows
unfoldable pub times : ℕ → List ℕ → List ℕ → List ℕ
times zero a s = s
times (suc n) a s = a ++ times n a s

pub deep_64 : reading_of (times 64 (bytes "(A ") []) ≡ wrong_at 192
unfolding computing times
deep_64 = refl

pub deep_65 : reading_of (times 65 (bytes "(A ") []) ≡ large_at 192
unfolding computing times
deep_65 = refl

pub deep_pair : reading_of (40 ∷ times 65 (bytes "(A ") []) ≡ large_at 193
unfolding computing times
deep_pair = refl

pub rows_1025 : reading_of (bytes "(A " ++ times 1024 (bytes "(A a)") []) ≡ large_at 5118
unfolding computing times
rows_1025 = refl

-- names: what is cut off, the first of equal names, a line that is not closed, the empty name
pub numbers : map (λ (t : String). label_number (bytes "NP" ++ 10 ∷ (bytes "S" ++ 10 ∷ (bytes "NP" ++ 10 ∷ 10 ∷ bytes "X"))) (bytes t)) ("NP-SBJ" ∷ "S=1" ∷ "X" ∷ "-A" ∷ "N" ∷ [])
    ≡ 0 ∷ 1 ∷ 65535 ∷ 3 ∷ 65535 ∷ []
unfolding computing
numbers = refl
