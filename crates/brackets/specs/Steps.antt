-- A machine that goes through a sentence byte by byte. Assumes nothing: these are definitions.
use Rattle.std.specs.Prelude.{Bool, true, false, List, [], ◌∷◌, ℕ, zero, suc, ltb, eqb}
use Rattle.meaning.specs.Tests.{◌&◌}
use Rattle.meaning.specs.Names.{pick}
use Rattle.meaning.specs.Sentences.{white, inner}

-- where it stands in a tree; the numbers count the bytes of a label or word
pub data Phase : Type 0 where
  in_label : ℕ → Phase
  in_gap : Phase
  in_word : ℕ → Phase
  after-word : Phase
  after_tree : Phase

-- before the first parenthesis, behind it, in a bare pair before its tree, in a tree (whether in a bare pair, where, below how many trees), behind a bare pair's tree
pub data State : Type 0 where
  start : State
  first : State
  inside-pair : State
  within : Bool → Phase → ℕ → State
  after-pair : State

pub data Move : Type 0 where
  to : State → Move
  ends : Move
  dies : Move

unfoldable pub closes : Bool → ℕ → Move
closes true zero = to after-pair
closes false zero = ends
closes b (suc d) = to (within b after_tree d)

-- white space keeps the state, a closing parenthesis moves, all else dies
unfoldable pub waiting : State → Move → ℕ → Move
waiting st m x = pick (white x) (to st) (pick (eqb x 41) m dies)

unfoldable pub step : State → ℕ → Move
step start x = pick (white x) (to start) (pick (eqb x 40) (to first) dies)
step first x = pick (inner x) (to (within false (in_label 1) 0)) (pick (white x) (to inside-pair) (pick (eqb x 40) (to (within true (in_label 0) 0)) dies))
step inside-pair x = pick (white x) (to inside-pair) (pick (eqb x 40) (to (within true (in_label 0) 0)) dies)
step after-pair x = waiting after-pair ends x
step (within b (in_label k) d) x = pick (inner x & ltb k 64) (to (within b (in_label (suc k)) d)) (pick (white x & ltb 0 k) (to (within b in_gap d)) dies)
step (within b in_gap d) x = pick (white x) (to (within b in_gap d)) (pick (eqb x 40) (to (within b (in_label 0) (suc d))) (pick (inner x) (to (within b (in_word 1) d)) dies))
step (within b (in_word k) d) x = pick (inner x & ltb k 64) (to (within b (in_word (suc k)) d)) (waiting (within b after-word d) (closes b d) x)
step (within b after-word d) x = waiting (within b after-word d) (closes b d) x
step (within b after_tree d) x = pick (eqb x 40) (to (within b (in_label 0) (suc d))) (waiting (within b after_tree d) (closes b d) x)

-- where it ends, or the rest from the byte at which it dies
pub data Stop : Type 0 where
  ended : List ℕ → Stop
  stopped : List ℕ → Stop

unfoldable pub move : Move → Stop → Stop → (State → Stop) → Stop
move (to st) e d k = k st
move ends e d k = e
move dies e d k = d

unfoldable pub run : List ℕ → State → Stop
run [] st = stopped []
run (x ∷ s) st = move (step st x) (ended s) (stopped (x ∷ s)) (run s)

unfoldable pub moved : Move → List ℕ → Stop
moved (to st) s = run s st
moved ends s = ended s
moved dies s = stopped s
