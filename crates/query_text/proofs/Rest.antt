-- What may still follow in each state of the machine. Assumes nothing.
use mathlib.Core.Path.{◌≡◌, refl, sym, ap, ◌∙◌, subst}
use mathlib.Core.Logic.{inl, inr, ⊎_elim}
use mathlib.Core.List.{List, [], ◌∷◌, ◌++◌}
use Prim.Native.Nat.{ℕ}
use lib.ListN.{drop}
use Rattle.meaning.specs.Tests.{Is, ◌&◌, ◌or◌}
use Rattle.meaning.specs.Axes.{bytes, axes}
use Rattle.meaning.specs.Texts.{pick, Form, none, empty, byte, ◌then◌, ◌∣◌, many, Has, just, word, up_to, any_of}
use Rattle.meaning.specs.Places.{some_byte, alive, place}
use Rattle.meaning.specs.Texts.{spelt}
use Rattle.meaning.specs.QueryTexts.{blank, lower, in_variable, upper, in_label, variable, label, axis, axis-names, blanks, ◌~◌, listed, head, condition, query}
use Rattle.query_text.proofs.PlaceLaws.{place_same, place_or, place_many, glue, glue-same, Same, itself, same_via, or_same}
use Rattle.query_text.specs.declared.machine.Now.{Now}
use Rattle.query_text.specs.declared.machine.Now.TheVariants.{Stop, Start, Asked, Opened, InHead, HeadComma, Closed, Less, Wants, NameC, NameN, NameF, Child, Sibling, Following, Signs, Signed, AxisOpened, From, Label, LastOpened, Last, Done, End}

abbrev pub B : Form → Form
B f = many (byte blank) then f

-- a list's further members, and what follows the list
abbrev pub members : Form → Form → Form
members f k = many (blanks then spelt "," ~ f) then B k

-- from the end of the text to its start
unfoldable pub k_stop : Form
k_stop = just 46 then B empty

unfoldable pub m_cond : Form
m_cond = members condition k_stop

unfoldable pub k_last : Form
k_last = just 41 then m_cond

unfoldable pub last : Form
last = byte lower then glue (up_to 7 (byte in_variable)) (B k_last)

unfoldable pub k_from : Form
k_from = just 44 then B last

unfoldable pub from : Form
from = byte lower then glue (up_to 7 (byte in_variable)) (B k_from)

unfoldable pub k_axis : Form
k_axis = just 40 then B from

unfoldable pub k_label : Form
k_label = just 40 then B last

unfoldable pub in_name : ℕ → Form
in_name n = glue (up_to n (byte in_label)) (B k_label)

unfoldable pub k_cond : Form
k_cond = (byte upper then in_name 15) ∣ glue axis (B k_axis)

unfoldable pub k_arrow : Form
k_arrow = just 60 then (just 45 then B k_cond)

unfoldable pub k_shut : Form
k_shut = just 41 then B k_arrow

unfoldable pub m_head : Form
m_head = members variable k_shut

unfoldable pub head-variable : Form
head-variable = byte lower then glue (up_to 7 (byte in_variable)) m_head

unfoldable pub k_first : Form
k_first = k_shut ∣ head-variable

unfoldable pub k_open : Form
k_open = just 40 then B k_first

unfoldable pub start : Form
start = just 81 then B k_open

-- a name that has begun, never ended
unfoldable pub spell : List ℕ → Form → Form
spell [] k = none
spell (c ∷ []) k = just c then k
spell (c ∷ d ∷ w) k = just c then spell (d ∷ w) k

unfoldable pub signs : Form
signs = B k_axis ∣ ((just 43 then B k_axis) ∣ (just 42 then B k_axis))

unfoldable pub rest : Now → Form
rest Stop = none
rest Start = start
rest Asked = B k_open
rest Opened = B k_first
rest (InHead n) = glue (up_to n (byte in_variable)) m_head
rest HeadComma = B head-variable
rest Closed = B k_arrow
rest Less = just 45 then B k_cond
rest Wants = B k_cond
rest NameC = in_name 15 ∣ spell (drop 1 (bytes "Child")) signs
rest NameN = in_name 15 ∣ spell (drop 1 (bytes "NextSibling")) signs
rest NameF = in_name 15 ∣ spell (drop 1 (bytes "Following")) (B k_axis)
rest (Child j) = spell (drop j (bytes "Child")) signs
rest (Sibling j) = spell (drop j (bytes "NextSibling")) signs
rest (Following j) = spell (drop j (bytes "Following")) (B k_axis)
rest Signs = signs
rest Signed = B k_axis
rest AxisOpened = B from
rest (From n) = glue (up_to n (byte in_variable)) (B k_from)
rest (Label n) = in_name n
rest LastOpened = B last
rest (Last n) = glue (up_to n (byte in_variable)) (B k_last)
rest Done = m_cond
rest End = B empty

-- what computes them
unfoldable pub opened : Unit {0}
unfolding k_stop m_cond k_last last k_from from k_axis k_label in_name k_cond k_arrow k_shut m_head head-variable k_first k_open start signs spell glue just word bytes up_to variable label spelt axis axis-names axes any_of blanks ◌~◌ listed head condition query blank lower in_variable upper in_label
opened = tt

-- the whole
query_is : glue query empty ≡ start
unfolding opened
query_is = refl

append_nil : (a : List ℕ) → a ++ [] ≡ a
append_nil [] = refl
append_nil (x ∷ a) = ap (λ (y : List ℕ). x ∷ y) (append_nil a)

whole : (f : Form) → Same f (f then empty)
unfolding Same Has
whole f s = (λ h. (s, [], sym (append_nil s), h, refl), λ t. subst (Has f) (sym (t.2 ∙ ap (λ (x : List ℕ). t.0 ++ x) t.4 ∙ append_nil t.0)) t.3)

pub place-start : (s : List ℕ) → place query s ≡ place start s
place-start s = place_same _ _ (same_via _ _ _ (whole query) (glue-same query empty)) s ∙ ap (λ (f : Form). place f s) query_is

-- the further members of a list
left_dist : (f g h : Form) → Same ((f then g) ∣ (f then h)) (f then (g ∣ h))
unfolding Same Has
left_dist f g h s = (
  ⊎_elim (λ t. (t.0, t.1, t.2, t.3, inl t.4)) (λ t. (t.0, t.1, t.2, t.3, inr t.4)),
  λ t. ⊎_elim (λ x. inl (t.0, t.1, t.2, t.3, x)) (λ x. inr (t.0, t.1, t.2, t.3, x)) t.4,
)

pub place-members : (f k : Form) (s : List ℕ) → place (members f k) s ≡ place (B (k ∣ (just 44 then B (glue f (members f k))))) s
unfolding glue spelt word bytes blanks ◌~◌ just
place-members f k s =
    place_many (blanks then spelt "," ~ f) (B k) s
    ∙ sym (place_or (B k) (B (just 44 then B (glue f (members f k)))) s)
    ∙ place_same _ _ (left_dist (many (byte blank)) k (just 44 then B (glue f (members f k)))) s

unfoldable pub k_head : Form
k_head = k_shut ∣ (just 44 then B head-variable)

pub place-head : (s : List ℕ) → place m_head s ≡ place (B k_head) s
unfolding m_head head-variable k_head variable glue
place-head s = place-members variable k_shut s

unfoldable pub k_more : Form
k_more = k_stop ∣ (just 44 then B k_cond)

conditions_are : glue condition m_cond ≡ k_cond
unfolding opened
conditions_are = refl

pub place_done : (s : List ℕ) → place m_cond s ≡ place (B k_more) s
unfolding m_cond k_more
place_done s = place-members condition k_stop s ∙ ap (λ (f : Form). place (B (k_stop ∣ (just 44 then B f))) s) conditions_are

-- the axes' names, those with the same letters together
shuffle : (f a b c x : Form) → Same ((f then a) ∣ ((f then b) ∣ ((f then c) ∣ x))) ((f then (a ∣ (b ∣ c))) ∣ x)
unfolding Same Has
shuffle f a b c x s = (
  ⊎_elim (λ t. inl (t.0, t.1, t.2, t.3, inl t.4))
      (⊎_elim (λ t. inl (t.0, t.1, t.2, t.3, inr (inl t.4)))
      (⊎_elim (λ t. inl (t.0, t.1, t.2, t.3, inr (inr t.4))) (λ t. inr t))),
  ⊎_elim (λ t. ⊎_elim (λ y. inl (t.0, t.1, t.2, t.3, y)) (⊎_elim (λ y. inr (inl (t.0, t.1, t.2, t.3, y))) (λ y. inr (inr (inl (t.0, t.1, t.2, t.3, y))))) t.4)
      (λ t. inr (inr (inr t))),
)

swapped : (f g : Form) → Same f g → Same g f
unfolding Same
swapped f g h s = ((h s).1, (h s).0)

three : (f a b c x : Form) → Same (glue f a ∣ (glue f b ∣ (glue f c ∣ x))) (glue f (a ∣ (b ∣ c)) ∣ x)
three f a b c x =
    same_via _ _ _
    (or_same _ _ _ _ (swapped _ _ (glue-same f a)) (or_same _ _ _ _ (swapped _ _ (glue-same f b)) (or_same _ _ _ _ (swapped _ _ (glue-same f c)) (itself x))))
    (same_via _ _ _ (shuffle f a b c x) (or_same _ _ _ _ (glue-same f (a ∣ (b ∣ c))) (itself x)))

unfoldable pub three_names : Form
three_names = spell (bytes "Child") signs ∣ (spell (bytes "NextSibling") signs ∣ spell (bytes "Following") (B k_axis))

abbrev plus : Form
plus = just 43 then B k_axis

abbrev star : Form
star = just 42 then B k_axis

abbrev siblings : Form
siblings = glue (spelt "NextSibling") (B k_axis ∣ (plus ∣ star)) ∣ glue (spelt "Following") (B k_axis)

seven : Form
seven = glue (spelt "Child") (B k_axis) ∣ (glue (spelt "Child") plus ∣ (glue (spelt "Child") star ∣
    (glue (spelt "NextSibling") (B k_axis) ∣ (glue (spelt "NextSibling") plus ∣ (glue (spelt "NextSibling") star ∣ glue (spelt "Following") (B k_axis))))))

seven_is : glue axis (B k_axis) ≡ seven
unfolding glue axis axis-names axes any_of spelt word bytes just seven
seven_is = refl

names_are : glue (spelt "Child") (B k_axis ∣ (plus ∣ star)) ∣ siblings ≡ three_names
unfolding glue spelt word bytes just three_names spell signs
names_are = refl

seven_same : Same seven (glue (spelt "Child") (B k_axis ∣ (plus ∣ star)) ∣ siblings)
unfolding seven
seven_same =
    same_via _ _ _ (three (spelt "Child") (B k_axis) plus star _)
    (or_same _ _ _ _ (itself _) (three (spelt "NextSibling") (B k_axis) plus star (glue (spelt "Following") (B k_axis))))

pub place-axis : (s : List ℕ) → place (glue axis (B k_axis)) s ≡ place three_names s
place-axis s = ap (λ (f : Form). place f s) seven_is ∙ place_same _ _ seven_same s ∙ ap (λ (f : Form). place f s) names_are

-- each form has texts
abbrev Alive : Form → Type 0
Alive f = Is (alive f)

pub record Facts : Type 0 where
  pub k_open_lem : Alive k_open
  pub k_first_lem : Alive k_first
  pub m_head_lem : Alive m_head
  pub k_arrow_lem : Alive k_arrow
  pub k_cond_lem : Alive k_cond
  pub k_axis_lem : Alive k_axis
  pub t_from : Alive from
  pub k_from_lem : Alive k_from
  pub k_label_lem : Alive k_label
  pub t_last : Alive last
  pub k_last_lem : Alive k_last
  pub t_head : Alive head-variable
  pub m_cond_lem : Alive m_cond
  pub t_signs : Alive signs
  pub k_head_lem : Alive k_head
  pub k_more_lem : Alive k_more

pub facts : Facts
unfolding opened alive some_byte pick ◌&◌ ◌or◌ k_head k_more
facts = record { k_open_lem = refl; k_first_lem = refl; m_head_lem = refl; k_arrow_lem = refl; k_cond_lem = refl; k_axis_lem = refl; t_from = refl; k_from_lem = refl; k_label_lem = refl; t_last = refl; k_last_lem = refl; t_head = refl; m_cond_lem = refl; t_signs = refl; k_head_lem = refl; k_more_lem = refl }

rotate : (x y z : Form) → Same (x ∣ (y ∣ z)) (y ∣ (z ∣ x))
unfolding Same Has
rotate x y z s = (
  ⊎_elim (λ t. inr (inr t)) (⊎_elim (λ t. inl t) (λ t. inr (inl t))),
  ⊎_elim (λ t. inr (inl t)) (⊎_elim (λ t. inr (inr t)) (λ t. inl t)),
)

pub place-signs : (s : List ℕ) → place signs s ≡ place ((just 43 then B k_axis) ∣ ((just 42 then B k_axis) ∣ B k_axis)) s
unfolding signs
place-signs s = place_same _ _ (rotate (B k_axis) _ _) s
