-- The machine's steps, state by state, as equations. Assumes nothing.
use Rattle.std.proofs.Common.{◌≡◌, ℕ, zero, suc, ◌-◌, ◌<◌, ◌≤◌, length, get_or, arith, Bool, true, false, ◌&&◌, List, [], ◌∷◌, refl}
use Rattle.std.proofs.Math.Dec.{ltb, eqb}
use Rattle.std.proofs.lemmas.Bool.Decides.{nat_tests}
use Rattle.meaning.specs.Axes.{bytes}
use Rattle.meaning.specs.Texts.{pick, among}
use Rattle.meaning.specs.QueryTexts.{blank, lower, upper, in_variable, in_label}
use Rattle.query_text.specs.Machine.{letter, more, in_a_label, step, stopped, finished}
use Rattle.query_text.specs.declared.machine.Now.{Now}
use Rattle.query_text.specs.declared.machine.Now.TheVariants.{Stop, Start, Asked, Opened, InHead, HeadComma, Closed, Less, Wants, NameC, NameN, NameF, Child, Sibling, Following, Signs, Signed, AxisOpened, From, Label, LastOpened, Last, Done, End}
use Rattle.query_text.proofs.ByteLaws.{both_is}

-- a test that was made
pub pick_true : {A : Type 0} (a b : A) → pick true a b ≡ a
unfolding pick
pick_true a b = refl

pub pick_false : {A : Type 0} (a b : A) → pick false a b ≡ b
unfolding pick
pick_false a b = refl

-- the machine, state by state
pub more_is : (n : ℕ) (z : Bool) → more n z ≡ (ltb 0 n && z)
unfolding more
more_is n z = both_is (ltb 0 n) z

pub step_stop : (b : ℕ) → step Stop b ≡ Stop
unfolding step
step_stop b = refl

pub step_start : (b : ℕ) → step Start b ≡ pick (eqb b 81) Asked Stop
unfolding step
step_start b = refl

pub step_asked : (b : ℕ) → step Asked b ≡ pick (among blank b) Asked (pick (eqb b 40) Opened Stop)
unfolding step
step_asked b = refl

pub step_opened : (b : ℕ) → step Opened b ≡ pick (among blank b) Opened (pick (eqb b 41) Closed (pick (among lower b) (InHead 7) Stop))
unfolding step
step_opened b = refl

pub step_in_head : (n b : ℕ) → step (InHead n) b ≡ pick (more n (among in_variable b)) (InHead (n - 1)) (pick (among blank b) (InHead 0) (pick (eqb b 41) Closed (pick (eqb b 44) HeadComma Stop)))
unfolding step
step_in_head n b = refl

pub step_head_comma : (b : ℕ) → step HeadComma b ≡ pick (among blank b) HeadComma (pick (among lower b) (InHead 7) Stop)
unfolding step
step_head_comma b = refl

pub step_closed : (b : ℕ) → step Closed b ≡ pick (among blank b) Closed (pick (eqb b 60) Less Stop)
unfolding step
step_closed b = refl

pub step_less : (b : ℕ) → step Less b ≡ pick (eqb b 45) Wants Stop
unfolding step
step_less b = refl

pub step_wants : (b : ℕ) → step Wants b ≡ pick (among blank b) Wants (pick (eqb b 67) NameC (pick (eqb b 78) NameN (pick (eqb b 70) NameF (pick (among upper b) (Label 15) Stop))))
unfolding step
step_wants b = refl

pub step_name_c : (b : ℕ) → step NameC b ≡ pick (eqb b 104) (Child 2) (in_a_label 15 b)
unfolding step
step_name_c b = refl

pub step_name_n : (b : ℕ) → step NameN b ≡ pick (eqb b 101) (Sibling 2) (in_a_label 15 b)
unfolding step
step_name_n b = refl

pub step_name_f : (b : ℕ) → step NameF b ≡ pick (eqb b 111) (Following 2) (in_a_label 15 b)
unfolding step
step_name_f b = refl

pub step_child : (j b : ℕ) → step (Child j) b ≡ pick (letter (67 ∷ 104 ∷ 105 ∷ 108 ∷ 100 ∷ []) j b) (pick (eqb (suc j) 5) Signs (Child (suc j))) Stop
unfolding step bytes
step_child j b = refl

pub step_sibling : (j b : ℕ) → step (Sibling j) b ≡ pick (letter (78 ∷ 101 ∷ 120 ∷ 116 ∷ 83 ∷ 105 ∷ 98 ∷ 108 ∷ 105 ∷ 110 ∷ 103 ∷ []) j b) (pick (eqb (suc j) 11) Signs (Sibling (suc j))) Stop
unfolding step bytes
step_sibling j b = refl

pub step_following : (j b : ℕ) → step (Following j) b ≡ pick (letter (70 ∷ 111 ∷ 108 ∷ 108 ∷ 111 ∷ 119 ∷ 105 ∷ 110 ∷ 103 ∷ []) j b) (pick (eqb (suc j) 9) Signed (Following (suc j))) Stop
unfolding step bytes
step_following j b = refl

pub step_signs : (b : ℕ) → step Signs b ≡ pick (eqb b 43) Signed (pick (eqb b 42) Signed (pick (among blank b) Signed (pick (eqb b 40) AxisOpened Stop)))
unfolding step
step_signs b = refl

pub step_signed : (b : ℕ) → step Signed b ≡ pick (among blank b) Signed (pick (eqb b 40) AxisOpened Stop)
unfolding step
step_signed b = refl

pub step_axis_opened : (b : ℕ) → step AxisOpened b ≡ pick (among blank b) AxisOpened (pick (among lower b) (From 7) Stop)
unfolding step
step_axis_opened b = refl

pub step_from : (n b : ℕ) → step (From n) b ≡ pick (more n (among in_variable b)) (From (n - 1)) (pick (among blank b) (From 0) (pick (eqb b 44) LastOpened Stop))
unfolding step
step_from n b = refl

pub step_label : (n b : ℕ) → step (Label n) b ≡ in_a_label n b
unfolding step
step_label n b = refl

pub step_last_opened : (b : ℕ) → step LastOpened b ≡ pick (among blank b) LastOpened (pick (among lower b) (Last 7) Stop)
unfolding step
step_last_opened b = refl

pub step_last : (n b : ℕ) → step (Last n) b ≡ pick (more n (among in_variable b)) (Last (n - 1)) (pick (among blank b) (Last 0) (pick (eqb b 41) Done Stop))
unfolding step
step_last n b = refl

pub step_done : (b : ℕ) → step Done b ≡ pick (among blank b) Done (pick (eqb b 46) End (pick (eqb b 44) Wants Stop))
unfolding step
step_done b = refl

pub step_end : (b : ℕ) → step End b ≡ pick (among blank b) End Stop
unfolding step
step_end b = refl

pub label_on : (n b : ℕ) → in_a_label n b ≡ pick (more n (among in_label b)) (Label (n - 1)) (pick (among blank b) (Label 0) (pick (eqb b 40) LastOpened Stop))
unfolding in_a_label
label_on n b = refl

pub letter_at : (w : List ℕ) (j b : ℕ) → j < length w → letter w j b ≡ eqb b (get_or w j 0)
unfolding letter
letter_at [] j b l = absurd (omega arith)
letter_at (c ∷ w) zero b l = refl
letter_at (c ∷ w) (suc j) b l = letter_at w j b (omega arith)

pub letter_past : (w : List ℕ) (j b : ℕ) → length w ≤ j → letter w j b ≡ false
unfolding letter
letter_past [] j b l = refl
letter_past (c ∷ w) zero b l = absurd (omega arith)
letter_past (c ∷ w) (suc j) b l = letter_past w j b (omega arith)

pub ruleset machine_steps = (pick_true, pick_false, more_is, label_on, letter_at, letter_past, step_stop, step_start, step_asked, step_opened, step_in_head, step_head_comma, step_closed, step_less, step_wants, step_name_c, step_name_n, step_name_f, step_child, step_sibling, step_following, step_signs, step_signed, step_axis_opened, step_from, step_label, step_last_opened, step_last, step_done, step_end, nat_tests)

pub not_stop : (q : Now) → (q ≡ Stop → ⊥) → false ≡ stopped q
unfolding stopped
not_stop Stop h = absurd (h refl)
not_stop Start h = refl
not_stop Asked h = refl
not_stop Opened h = refl
not_stop (InHead n) h = refl
not_stop HeadComma h = refl
not_stop Closed h = refl
not_stop Less h = refl
not_stop Wants h = refl
not_stop NameC h = refl
not_stop NameN h = refl
not_stop NameF h = refl
not_stop (Child n) h = refl
not_stop (Sibling n) h = refl
not_stop (Following n) h = refl
not_stop Signs h = refl
not_stop Signed h = refl
not_stop AxisOpened h = refl
not_stop (From n) h = refl
not_stop (Label n) h = refl
not_stop LastOpened h = refl
not_stop (Last n) h = refl
not_stop Done h = refl
not_stop End h = refl

pub not_end : (q : Now) → (q ≡ End → ⊥) → false ≡ finished q
unfolding finished
not_end Stop h = refl
not_end Start h = refl
not_end Asked h = refl
not_end Opened h = refl
not_end (InHead n) h = refl
not_end HeadComma h = refl
not_end Closed h = refl
not_end Less h = refl
not_end Wants h = refl
not_end NameC h = refl
not_end NameN h = refl
not_end NameF h = refl
not_end (Child n) h = refl
not_end (Sibling n) h = refl
not_end (Following n) h = refl
not_end Signs h = refl
not_end Signed h = refl
not_end AxisOpened h = refl
not_end (From n) h = refl
not_end (Label n) h = refl
not_end LastOpened h = refl
not_end (Last n) h = refl
not_end Done h = refl
not_end End h = absurd (h refl)
