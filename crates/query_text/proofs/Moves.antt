-- The machine's step is the form's. Assumes nothing.
use mathlib.Core.Path.{◌≡◌, refl, sym, ap, ◌∙◌}
use mathlib.Core.Bool.{Bool, true, false}
use mathlib.Core.List.{List, [], ◌∷◌}
use Prim.Native.Nat.{ℕ, zero, suc, ◌-◌}
use native.Mathlib.Omega.{arith}
use lib.Dec.{eqb}
use lib.ListN.{drop, length}
use borrow.Author.Tests.{le-leb, eqb-true, eqb-false, eq-eqb, ne_eqb}
use Rattle.meaning.specs.Tests.{Is, ◌&◌, ◌or◌}
use Rattle.meaning.specs.Axes.{bytes}
use Rattle.meaning.specs.Texts.{pick, Range, ◌to◌, within, among, Form, none, empty, byte, ◌then◌, ◌∣◌, just, up_to, Place, legal, bad}
use Rattle.meaning.specs.Places.{ends, some_byte, alive, after, next, place}
use Rattle.meaning.specs.QueryTexts.{query, blank, lower, in_variable, upper, in_label, axis}
use Rattle.query_text.specs.Machine.{letter, more, in_a_label, step, stopped, finished}
use Rattle.query_text.proofs.After.{both, first}
use Rattle.query_text.proofs.PlaceLaws.{place_dead, place_or, place_byte, further_of, further_zero, zero_further, on_further, glue}
use Rattle.query_text.proofs.First.{apart, apart_from, starts, refused, place_either, place-any, place_up, among_one}
use Rattle.query_text.proofs.Rest.{B, k_stop, m_cond, k_last, last, k_from, from, k_axis, k_label, in_name, k_cond, k_arrow, k_shut, m_head, head-variable, k_first, k_open, start, signs, spell, rest, opened, k_head, k_more, three_names, place-head, place_done, place-axis, place-signs, place-start, facts}
use Rattle.query_text.specs.declared.machine.Now.{Now}
use Rattle.query_text.specs.declared.machine.Now.TheVariants.{Stop, Start, Asked, Opened, InHead, HeadComma, Closed, Less, Wants, NameC, NameN, NameF, Child, Sibling, Following, Signs, Signed, AxisOpened, From, Label, LastOpened, Last, Done, End}

-- the place, one byte on
unfoldable pub gone : Now → List ℕ → Place
gone q s = pick (stopped q) (bad 0) (next (place (rest q) s))

chosen : (z : Bool) (q r : Now) (s : List ℕ) (x y : Place) → x ≡ gone q s → y ≡ gone r s → pick z x y ≡ gone (pick z q r) s
unfolding pick ◌&◌ ◌or◌
chosen true q r s x y e d = e
chosen false q r s x y e d = d

stop : (s : List ℕ) → bad 0 ≡ gone Stop s
unfolding gone stopped pick ◌&◌ ◌or◌
stop s = refl

-- the forms' steps, in states
byte_then : (rs : List Range) (f : Form) → Is (alive f) → (b : ℕ) (s : List ℕ) (q : Now) → next (place f s) ≡ gone q s → place (byte rs then f) (b ∷ s) ≡ gone (pick (among rs b) q Stop) s
byte_then rs f a b s q e = place_byte rs f b s a ∙ chosen (among rs b) q Stop s _ _ e (stop s)

one_then : (c : ℕ) (f : Form) → Is (alive f) → (b : ℕ) (s : List ℕ) (q : Now) → next (place f s) ≡ gone q s → place (just c then f) (b ∷ s) ≡ gone (pick (eqb b c) q Stop) s
unfolding just
one_then c f a b s q e = byte_then _ f a b s q e ∙ ap (λ (z : Bool). gone (pick z q Stop) s) (among_one c b)

one_or : (c : ℕ) (f g : Form) → Is (alive f) → Is (apart ((c to c) ∷ []) (starts g)) → (b : ℕ) (s : List ℕ) (q r : Now)
    → next (place f s) ≡ gone q s → place g (b ∷ s) ≡ gone r s → place ((just c then f) ∣ g) (b ∷ s) ≡ gone (pick (eqb b c) q r) s
unfolding just
one_or c f g a p b s q r e d = place_either _ f g b s a p ∙ chosen _ q r s _ _ e d ∙ ap (λ (z : Bool). gone (pick z q r) s) (among_one c b)

or_one : (c : ℕ) (f g : Form) → Is (alive f) → Is (apart ((c to c) ∷ []) (starts g)) → (b : ℕ) (s : List ℕ) (q r : Now)
    → next (place f s) ≡ gone q s → place g (b ∷ s) ≡ gone r s → place (g ∣ (just c then f)) (b ∷ s) ≡ gone (pick (eqb b c) q r) s
unfolding just pick ◌&◌ ◌or◌
or_one c f g a p b s q r e d = place_or _ _ (b ∷ s) ∙ ap (further_of (place g (b ∷ s))) (place_byte _ f b s a) ∙ go (among ((c to c) ∷ []) b) refl ∙ ap (λ (z : Bool). gone (pick z q r) s) (among_one c b)
  where
    go : (z : Bool) → among ((c to c) ∷ []) b ≡ z → further_of (place g (b ∷ s)) (pick z (next (place f s)) (bad 0)) ≡ gone (pick z q r) s
    go true h = ap (λ (v : Place). further_of v (next (place f s))) (refused _ g b s p h) ∙ zero_further _ ∙ e
    go false h = further_zero _ ∙ d

blank-then : (f : Form) → Is (alive f) → Is (apart blank (starts f)) → (b : ℕ) (s : List ℕ) (q r : Now)
    → next (place (B f) s) ≡ gone q s → place f (b ∷ s) ≡ gone r s → place (B f) (b ∷ s) ≡ gone (pick (among blank b) q r) s
blank-then f a p b s q r e d = place-any blank f b s a p ∙ chosen _ q r s _ _ e d

up_then : (rs : List Range) (n : ℕ) (f : Form) → Is (alive f) → Is (apart rs (starts f)) → (b : ℕ) (s : List ℕ) (q r : Now)
    → next (place (glue (up_to (n - 1) (byte rs)) f) s) ≡ gone q s → place f (b ∷ s) ≡ gone r s
    → place (glue (up_to n (byte rs)) f) (b ∷ s) ≡ gone (pick (more n (among rs b)) q r) s
up_then rs n f a p b s q r e d = place_up rs n f b s a p ∙ chosen _ q r s _ _ e d

-- names
one_is : (c : ℕ) (f : Form) → Is (alive f) → (b : ℕ) (s : List ℕ) → place (just c then f) (b ∷ s) ≡ pick (eqb b c) (next (place f s)) (bad 0)
unfolding just
one_is c f a b s = place_byte _ f b s a ∙ ap (λ (z : Bool). pick z (next (place f s)) (bad 0)) (among_one c b)

alive-spell : (c : ℕ) (w : List ℕ) (k : Form) → Is (alive k) → Is (alive (spell (c ∷ w) k))
unfolding spell alive just some_byte
alive-spell c [] k a = both _ _ (first _ _ (le-leb c c (omega arith))) a
alive-spell c (d ∷ w) k a = both _ _ (first _ _ (le-leb c c (omega arith))) (alive-spell d w k a)

eqb-suc : (m n : ℕ) → eqb (suc m) (suc n) ≡ eqb m n
eqb-suc m n = go (eqb m n) refl
  where
    go : (z : Bool) → eqb m n ≡ z → eqb (suc m) (suc n) ≡ z
    go true e = let h = eqb-true m n e in eq-eqb (suc m) (suc n) (omega arith)
    go false e = let h = eqb-false m n e in ne_eqb (suc m) (suc n) (λ q. h (omega arith))

spell_is : (w : List ℕ) (k : Form) (j b : ℕ) (s : List ℕ) → Is (alive k)
    → place (spell (drop j w) k) (b ∷ s) ≡ pick (letter w j b) (next (place (pick (eqb (suc j) (length w)) k (spell (drop (suc j) w) k)) s)) (bad 0)
unfolding spell letter pick ◌&◌ ◌or◌ alive
spell_is [] k zero b s a = place_dead none refl (b ∷ s)
spell_is [] k (suc j) b s a = place_dead none refl (b ∷ s)
spell_is (c ∷ []) k zero b s a = one_is c k a b s
spell_is (c ∷ d ∷ w) k zero b s a =
    let e : eqb 1 (suc (suc (length w))) ≡ false = ne_eqb 1 (suc (suc (length w))) (λ q. omega arith) in
    one_is c (spell (d ∷ w) k) (alive-spell d w k a) b s
    ∙ ap (λ (z : Bool). pick (eqb b c) (next (place (pick z k (spell (d ∷ w) k)) s)) (bad 0)) (sym e)
spell_is (c ∷ w) k (suc j) b s a =
    spell_is w k j b s a
    ∙ ap (λ (z : Bool). pick (letter w j b) (next (place (pick z k (spell (drop (suc j) w) k)) s)) (bad 0)) (sym (eqb-suc (suc j) (length w)))

spell-then : (w : List ℕ) (k : Form) (j b : ℕ) (s : List ℕ) → Is (alive k) → (q r : Now)
    → next (place k s) ≡ gone q s → next (place (spell (drop (suc j) w) k) s) ≡ gone r s
    → place (spell (drop j w) k) (b ∷ s) ≡ gone (pick (letter w j b) (pick (eqb (suc j) (length w)) q r) Stop) s
unfolding pick ◌&◌ ◌or◌
spell-then w k j b s a q r e d = spell_is w k j b s a ∙ chosen (letter w j b) (pick (eqb (suc j) (length w)) q r) Stop s _ _ (go (eqb (suc j) (length w))) (stop s)
  where
    go : (z : Bool) → next (place (pick z k (spell (drop (suc j) w) k)) s) ≡ gone (pick z q r) s
    go true = e
    go false = d

-- which forms start apart
abbrev After : List Range → Form → Type 0
After rs f = Is (apart rs (starts f))

abbrev this : ℕ → List Range
this c = (c to c) ∷ []

record Aparts : Type 0 where
  k_open_lem : After blank k_open
  k_first_lem : After blank k_first
  k_head_lem : After blank k_head
  k_arrow_lem : After blank k_arrow
  k_cond_lem : After blank k_cond
  k_axis_lem : After blank k_axis
  t_from : After blank from
  k_from_lem : After blank k_from
  k_label_lem : After blank k_label
  t_last : After blank last
  k_last_lem : After blank k_last
  t_head : After blank head-variable
  k_more_lem : After blank k_more
  v_head : After in_variable m_head
  v_from : After in_variable (B k_from)
  v_last : After in_variable (B k_last)
  l_label : After in_label (B k_label)
  shut_1 : After (this 41) head-variable
  shut_2 : After (this 41) (just 44 then B head-variable)
  stop_1 : After (this 46) (just 44 then B k_cond)
  plus : After (this 43) ((just 42 then B k_axis) ∣ B k_axis)
  star : After (this 42) (B k_axis)
  c : After (this 67) (spell (bytes "NextSibling") signs ∣ spell (bytes "Following") (B k_axis))
  n : After (this 78) (spell (bytes "Following") (B k_axis))
  h : After (this 104) (in_name 15)
  e : After (this 101) (in_name 15)
  o : After (this 111) (in_name 15)

aparts : Aparts
unfolding opened pick ◌&◌ ◌or◌ starts ends apart apart_from three_names k_head k_more
aparts = record { k_open_lem = refl; k_first_lem = refl; k_head_lem = refl; k_arrow_lem = refl; k_cond_lem = refl; k_axis_lem = refl; t_from = refl; k_from_lem = refl; k_label_lem = refl; t_last = refl; k_last_lem = refl; t_head = refl; k_more_lem = refl; v_head = refl; v_from = refl; v_last = refl; l_label = refl; shut_1 = refl; shut_2 = refl; stop_1 = refl; plus = refl; star = refl; c = refl; n = refl; h = refl; e = refl; o = refl }

record Names : Type 0 where
  child : Is (alive (spell (drop 1 (bytes "Child")) signs))
  child2 : Is (alive (spell (drop 2 (bytes "Child")) signs))
  sibling : Is (alive (spell (drop 1 (bytes "NextSibling")) signs))
  sibling2 : Is (alive (spell (drop 2 (bytes "NextSibling")) signs))
  following : Is (alive (spell (drop 1 (bytes "Following")) (B k_axis)))
  following2 : Is (alive (spell (drop 2 (bytes "Following")) (B k_axis)))
  name : Is (alive (in_name 15))
  dash : Is (alive (just 45 then B k_cond))
  in_head : Is (alive (glue (up_to 7 (byte in_variable)) m_head))
  in_from : Is (alive (glue (up_to 7 (byte in_variable)) (B k_from)))
  in_last : Is (alive (glue (up_to 7 (byte in_variable)) (B k_last)))

names : Names
unfolding opened pick ◌&◌ ◌or◌ alive some_byte
names = record { child = refl; child2 = refl; sibling = refl; sibling2 = refl; following = refl; following2 = refl; name = refl; dash = refl; in_head = refl; in_from = refl; in_last = refl }

moves_label : (n b : ℕ) (s : List ℕ) → place (in_name n) (b ∷ s) ≡ gone (in_a_label n b) s
unfolding in_name in_a_label k_label alive pick ◌&◌ ◌or◌ gone stopped rest glue up_to
moves_label n b s =
    up_then in_label n (B k_label) facts.k_label_lem aparts.l_label b s (Label (n - 1)) _ refl
    (blank-then k_label facts.k_label_lem aparts.k_label_lem b s (Label 0) _ refl (one_then 40 (B last) facts.t_last b s LastOpened refl))

one_either : (c : ℕ) (f g : Form) → Is (alive f) → After (this c) g → (b : ℕ) (s : List ℕ)
    → place ((just c then f) ∣ g) (b ∷ s) ≡ pick (eqb b c) (next (place f s)) (place g (b ∷ s))
unfolding just
one_either c f g a p b s = place_either _ f g b s a p ∙ ap (λ (z : Bool). pick z (next (place f s)) (place g (b ∷ s))) (among_one c b)

no_more : (b : ℕ) (s : List ℕ) → place empty (b ∷ s) ≡ gone Stop s
unfolding place after alive pick ◌&◌ ◌or◌ gone stopped
no_more b s = refl

none_start : (rs : List Range) → After rs empty
unfolding apart apart_from starts pick ◌&◌ ◌or◌
none_start [] = refl
none_start ((a to z) ∷ rs) = none_start rs

-- the first letter of a name
unfoldable named : ℕ → Now
named b = pick (eqb b 67) NameC (pick (eqb b 78) NameN (pick (eqb b 70) NameF (pick (among upper b) (Label 15) Stop)))

moves_name : (b : ℕ) (s : List ℕ) → place k_cond (b ∷ s) ≡ gone (named b) s
unfolding k_cond named gone stopped rest pick ◌&◌ ◌or◌ three_names spell bytes among upper within
moves_name b s =
    place_or _ _ (b ∷ s)
    ∙ ap (λ (v : Place). further_of v (place (glue axis (B k_axis)) (b ∷ s))) (place_byte upper (in_name 15) b s names.name)
    ∙ ap (further_of (pick (among upper b) (next L) (bad 0))) (place-axis (b ∷ s) ∙ letters)
    ∙ go (eqb b 67) (eqb b 78) (eqb b 70) (among upper b) (λ q. ap (among upper) (eqb-true b 67 q)) (λ q. ap (among upper) (eqb-true b 78 q)) (λ q. ap (among upper) (eqb-true b 70 q))
  where
    L : Place
    L = place (in_name 15) s

    C : Place
    C = place (spell (drop 1 (bytes "Child")) signs) s

    N : Place
    N = place (spell (drop 1 (bytes "NextSibling")) signs) s

    F : Place
    F = place (spell (drop 1 (bytes "Following")) (B k_axis)) s

    letters : place three_names (b ∷ s) ≡ pick (eqb b 67) (next C) (pick (eqb b 78) (next N) (pick (eqb b 70) (next F) (bad 0)))
    letters =
        one_either 67 _ _ names.child aparts.c b s
        ∙ ap (pick (eqb b 67) (next C)) (one_either 78 _ _ names.sibling aparts.n b s ∙ ap (pick (eqb b 78) (next N)) (one_is 70 _ names.following b s))

    go : (x y z u : Bool) → (x ≡ true → u ≡ true) → (y ≡ true → u ≡ true) → (z ≡ true → u ≡ true)
        → further_of (pick u (next L) (bad 0)) (pick x (next C) (pick y (next N) (pick z (next F) (bad 0))))
        ≡ gone (pick x NameC (pick y NameN (pick z NameF (pick u (Label 15) Stop)))) s
    go true y z u p q r = rw (p refl) (sym (on_further L C) ∙ ap next (sym (place_or _ _ s)))
    go false true z u p q r = rw (q refl) (sym (on_further L N) ∙ ap next (sym (place_or _ _ s)))
    go false false true u p q r = rw (r refl) (sym (on_further L F) ∙ ap next (sym (place_or _ _ s)))
    go false false false true p q r = further_zero _
    go false false false false p q r = further_zero _

pub moves : (q : Now) (b : ℕ) (s : List ℕ) → place (rest q) (b ∷ s) ≡ gone (step q b) s
unfolding step alive pick ◌&◌ ◌or◌ gone stopped rest glue up_to start k_open k_first k_shut k_head head-variable k_arrow k_axis from k_from last k_last k_more k_stop spell named bytes
moves Stop b s = place_dead none refl (b ∷ s)
moves Start b s = one_then 81 (B k_open) facts.k_open_lem b s Asked refl
moves Asked b s = blank-then k_open facts.k_open_lem aparts.k_open_lem b s Asked _ refl (one_then 40 (B k_first) facts.k_first_lem b s Opened refl)
moves Opened b s =
    blank-then k_first facts.k_first_lem aparts.k_first_lem b s Opened _ refl
    (one_or 41 (B k_arrow) head-variable facts.k_arrow_lem aparts.shut_1 b s Closed _ refl (byte_then lower _ names.in_head b s (InHead 7) refl))
moves (InHead n) b s =
    up_then in_variable n m_head facts.m_head_lem aparts.v_head b s (InHead (n - 1)) _ refl
    (place-head (b ∷ s) ∙ blank-then k_head facts.k_head_lem aparts.k_head_lem b s (InHead 0) _ (ap next (sym (place-head s)))
    (one_or 41 (B k_arrow) (just 44 then B head-variable) facts.k_arrow_lem aparts.shut_2 b s Closed _ refl (one_then 44 (B head-variable) facts.t_head b s HeadComma refl)))
moves HeadComma b s = blank-then head-variable facts.t_head aparts.t_head b s HeadComma _ refl (byte_then lower _ names.in_head b s (InHead 7) refl)
moves Closed b s = blank-then k_arrow facts.k_arrow_lem aparts.k_arrow_lem b s Closed _ refl (one_then 60 (just 45 then B k_cond) names.dash b s Less refl)
moves Less b s = one_then 45 (B k_cond) facts.k_cond_lem b s Wants refl
moves Wants b s = blank-then k_cond facts.k_cond_lem aparts.k_cond_lem b s Wants (named b) refl (moves_name b s)
moves NameC b s = or_one 104 _ (in_name 15) names.child2 aparts.h b s (Child 2) _ refl (moves_label 15 b s)
moves NameN b s = or_one 101 _ (in_name 15) names.sibling2 aparts.e b s (Sibling 2) _ refl (moves_label 15 b s)
moves NameF b s = or_one 111 _ (in_name 15) names.following2 aparts.o b s (Following 2) _ refl (moves_label 15 b s)
moves (Child j) b s = spell-then (bytes "Child") signs j b s facts.t_signs Signs (Child (suc j)) refl refl
moves (Sibling j) b s = spell-then (bytes "NextSibling") signs j b s facts.t_signs Signs (Sibling (suc j)) refl refl
moves (Following j) b s = spell-then (bytes "Following") (B k_axis) j b s facts.k_axis_lem Signed (Following (suc j)) refl refl
moves Signs b s =
    place-signs (b ∷ s)
    ∙ one_or 43 (B k_axis) ((just 42 then B k_axis) ∣ B k_axis) facts.k_axis_lem aparts.plus b s Signed _ refl
    (one_or 42 (B k_axis) (B k_axis) facts.k_axis_lem aparts.star b s Signed _ refl
    (blank-then k_axis facts.k_axis_lem aparts.k_axis_lem b s Signed _ refl (one_then 40 (B from) facts.t_from b s AxisOpened refl)))
moves Signed b s = blank-then k_axis facts.k_axis_lem aparts.k_axis_lem b s Signed _ refl (one_then 40 (B from) facts.t_from b s AxisOpened refl)
moves AxisOpened b s = blank-then from facts.t_from aparts.t_from b s AxisOpened _ refl (byte_then lower _ names.in_from b s (From 7) refl)
moves (From n) b s =
    up_then in_variable n (B k_from) facts.k_from_lem aparts.v_from b s (From (n - 1)) _ refl
    (blank-then k_from facts.k_from_lem aparts.k_from_lem b s (From 0) _ refl (one_then 44 (B last) facts.t_last b s LastOpened refl))
moves (Label n) b s = moves_label n b s
moves LastOpened b s = blank-then last facts.t_last aparts.t_last b s LastOpened _ refl (byte_then lower _ names.in_last b s (Last 7) refl)
moves (Last n) b s =
    up_then in_variable n (B k_last) facts.k_last_lem aparts.v_last b s (Last (n - 1)) _ refl
    (blank-then k_last facts.k_last_lem aparts.k_last_lem b s (Last 0) _ refl (one_then 41 m_cond facts.m_cond_lem b s Done refl))
moves Done b s =
    place_done (b ∷ s)
    ∙ blank-then k_more facts.k_more_lem aparts.k_more_lem b s Done _ (ap next (sym (place_done s)))
    (one_or 46 (B empty) (just 44 then B k_cond) refl aparts.stop_1 b s End _ refl (one_then 44 (B k_cond) facts.k_cond_lem b s Wants refl))
moves End b s = blank-then empty refl (none_start blank) b s End _ refl (no_more b s)

place_nil : (f : Form) → place f [] ≡ pick (ends f) legal (bad 0)
unfolding place
place_nil f = refl

ends_up : (rs : List Range) (n : ℕ) (f : Form) → ends f ≡ false → ends (glue (up_to n (byte rs)) f) ≡ false
unfolding ends glue up_to pick ◌&◌ ◌or◌
ends_up rs zero f e = e
ends_up rs (suc n) f e = rw e refl

ends-spell : (w : List ℕ) (k : Form) → ends (spell w k) ≡ false
unfolding ends spell just pick ◌&◌ ◌or◌
ends-spell [] k = refl
ends-spell (c ∷ []) k = refl
ends-spell (c ∷ d ∷ w) k = refl

pub ends_is : (q : Now) → ends (rest q) ≡ finished q
unfolding opened rest ends pick ◌&◌ ◌or◌ finished
ends_is Stop = refl
ends_is Start = refl
ends_is Asked = refl
ends_is Opened = refl
ends_is (InHead n) = ends_up in_variable n m_head refl
ends_is HeadComma = refl
ends_is Closed = refl
ends_is Less = refl
ends_is Wants = refl
ends_is NameC = refl
ends_is NameN = refl
ends_is NameF = refl
ends_is (Child j) = ends-spell (drop j (bytes "Child")) signs
ends_is (Sibling j) = ends-spell (drop j (bytes "NextSibling")) signs
ends_is (Following j) = ends-spell (drop j (bytes "Following")) (B k_axis)
ends_is Signs = refl
ends_is Signed = refl
ends_is AxisOpened = refl
ends_is (From n) = ends_up in_variable n (B k_from) refl
ends_is (Label n) = ends_up in_label n (B k_label) refl
ends_is LastOpened = refl
ends_is (Last n) = ends_up in_variable n (B k_last) refl
ends_is Done = refl
ends_is End = refl

-- The machine, run: the place of the query.
unfoldable pub run : Now → List ℕ → Place
run q [] = pick (finished q) legal (bad 0)
run q (b ∷ s) = pick (stopped (step q b)) (bad 0) (next (run (step q b) s))

gone_is : (r : Now) (s : List ℕ) → place (rest r) s ≡ run r s → gone r s ≡ pick (stopped r) (bad 0) (next (run r s))
unfolding gone
gone_is r s e = ap (λ (v : Place). pick (stopped r) (bad 0) (next v)) e

pub run_is : (q : Now) (s : List ℕ) → place (rest q) s ≡ run q s
unfolding run
run_is q [] = place_nil (rest q) ∙ ap (λ (z : Bool). pick z legal (bad 0)) (ends_is q)
run_is q (b ∷ s) = moves q b s ∙ gone_is (step q b) s (run_is (step q b) s)

pub machine_is : (s : List ℕ) → place query s ≡ run Start s
unfolding rest
machine_is s = place-start s ∙ run_is Start s
