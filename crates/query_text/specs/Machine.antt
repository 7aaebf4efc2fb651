-- A machine that reads query texts byte by byte. Assumes nothing: these are definitions.
use Rattle.std.specs.Prelude.{Result, Ok, Err, Bool, true, false, List, [], ◌∷◌, ℕ, zero, suc, ◌-◌, eqb, ltb}
use Rattle.meaning.specs.Tests.{◌&◌}
use Rattle.meaning.specs.Axes.{bytes}
use Rattle.meaning.specs.Texts.{pick, among, Place, legal, bad}
use Rattle.meaning.specs.QueryTexts.{blank, lower, upper, in_variable, in_label}
use Rattle.meaning.specs.declared.Refusal.{Refusal}
use Rattle.meaning.specs.declared.Refusal.TheVariants.{QueryText}
use Rattle.query_text.specs.declared.machine.Now.{Now}
use Rattle.query_text.specs.declared.machine.Now.TheVariants.{Stop, Start, Asked, Opened, InHead, HeadComma, Closed, Less, Wants, NameC, NameN, NameF, Child, Sibling, Following, Signs, Signed, AxisOpened, From, Label, LastOpened, Last, Done, End}

-- byte b is letter j of a name
unfoldable pub letter : List ℕ → ℕ → ℕ → Bool
letter [] j b = false
letter (c ∷ w) zero b = eqb b c
letter (c ∷ w) (suc j) b = letter w j b

-- n more bytes may follow, and b is one
unfoldable pub more : ℕ → Bool → Bool
more n b = ltb 0 n & b

unfoldable pub in_a_label : ℕ → ℕ → Now
in_a_label n b = pick (more n (among in_label b)) (Label (n - 1)) (pick (among blank b) (Label 0) (pick (eqb b 40) LastOpened Stop))

unfoldable pub step : Now → ℕ → Now
step Stop b = Stop
step Start b = pick (eqb b 81) Asked Stop
step Asked b = pick (among blank b) Asked (pick (eqb b 40) Opened Stop)
step Opened b = pick (among blank b) Opened (pick (eqb b 41) Closed (pick (among lower b) (InHead 7) Stop))
step (InHead n) b = pick (more n (among in_variable b)) (InHead (n - 1)) (pick (among blank b) (InHead 0) (pick (eqb b 41) Closed (pick (eqb b 44) HeadComma Stop)))
step HeadComma b = pick (among blank b) HeadComma (pick (among lower b) (InHead 7) Stop)
step Closed b = pick (among blank b) Closed (pick (eqb b 60) Less Stop)
step Less b = pick (eqb b 45) Wants Stop
step Wants b = pick (among blank b) Wants (pick (eqb b 67) NameC (pick (eqb b 78) NameN (pick (eqb b 70) NameF (pick (among upper b) (Label 15) Stop))))
step NameC b = pick (eqb b 104) (Child 2) (in_a_label 15 b)
step NameN b = pick (eqb b 101) (Sibling 2) (in_a_label 15 b)
step NameF b = pick (eqb b 111) (Following 2) (in_a_label 15 b)
step (Child j) b = pick (letter (bytes "Child") j b) (pick (eqb (suc j) 5) Signs (Child (suc j))) Stop
step (Sibling j) b = pick (letter (bytes "NextSibling") j b) (pick (eqb (suc j) 11) Signs (Sibling (suc j))) Stop
step (Following j) b = pick (letter (bytes "Following") j b) (pick (eqb (suc j) 9) Signed (Following (suc j))) Stop
step Signs b = pick (eqb b 43) Signed (pick (eqb b 42) Signed (pick (among blank b) Signed (pick (eqb b 40) AxisOpened Stop)))
step Signed b = pick (among blank b) Signed (pick (eqb b 40) AxisOpened Stop)
step AxisOpened b = pick (among blank b) AxisOpened (pick (among lower b) (From 7) Stop)
step (From n) b = pick (more n (among in_variable b)) (From (n - 1)) (pick (among blank b) (From 0) (pick (eqb b 44) LastOpened Stop))
step (Label n) b = in_a_label n b
step LastOpened b = pick (among blank b) LastOpened (pick (among lower b) (Last 7) Stop)
step (Last n) b = pick (more n (among in_variable b)) (Last (n - 1)) (pick (among blank b) (Last 0) (pick (eqb b 41) Done Stop))
step Done b = pick (among blank b) Done (pick (eqb b 46) End (pick (eqb b 44) Wants Stop))
step End b = pick (among blank b) End Stop

unfoldable pub stopped : Now → Bool
stopped Stop = true
stopped Start = false
stopped Asked = false
stopped Opened = false
stopped (InHead n) = false
stopped HeadComma = false
stopped Closed = false
stopped Less = false
stopped Wants = false
stopped NameC = false
stopped NameN = false
stopped NameF = false
stopped (Child j) = false
stopped (Sibling j) = false
stopped (Following j) = false
stopped Signs = false
stopped Signed = false
stopped AxisOpened = false
stopped (From n) = false
stopped (Label n) = false
stopped LastOpened = false
stopped (Last n) = false
stopped Done = false
stopped End = false

-- where the text ends
unfoldable pub finished : Now → Bool
finished Stop = false
finished Start = false
finished Asked = false
finished Opened = false
finished (InHead n) = false
finished HeadComma = false
finished Closed = false
finished Less = false
finished Wants = false
finished NameC = false
finished NameN = false
finished NameF = false
finished (Child j) = false
finished (Sibling j) = false
finished (Following j) = false
finished Signs = false
finished Signed = false
finished AxisOpened = false
finished (From n) = false
finished (Label n) = false
finished LastOpened = false
finished (Last n) = false
finished Done = false
finished End = true

-- what the first pass finds: whether the text is legal
unfoldable pub found : Place → Result (Unit {0}) Refusal
found legal = Ok tt
found (bad p) = Err (QueryText p)
