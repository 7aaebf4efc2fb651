-- The machine reads every legal sentence to its end; where it stops, no legal sentence goes on. Assumes nothing.
use Rattle.std.specs.Prelude.{◌≡◌, Bool, drop, leb}
use Rattle.std.proofs.Math.Path.{refl, ap}
use Rattle.std.proofs.Common.{sym, ◌∙◌, length-append}
use Rattle.std.proofs.Math.Bool.{true, false}
use mathlib.Core.List.{List, [], ◌∷◌, ◌++◌, append_assoc}
use Prim.Native.Nat.{ℕ, zero, suc, ◌+◌, ◌≤◌, ◌<◌}
use native.Mathlib.Omega.{arith}
use Rattle.std.proofs.Math.ListN.{length}
use Rattle.std.proofs.Math.Dec.{ltb}
use borrow.Author.Tests.{ltb-true, leb-true, lt-ltb}
use Rattle.meaning.specs.Tests.{Is, ◌&◌, ◌or◌, non}
use Rattle.meaning.specs.Names.{pick}
use Rattle.brackets.specs.Both.{and_l, and_r, and_in}
use Rattle.meaning.specs.Sentences.{all, white, inner, token, blank, gap, Tree, Trees, leaf, node, one, more, write, writes, good, goods, Sentence, plain, bare, spell, legal, Begins}
use Rattle.brackets.specs.Steps.{Phase, in_label, in_gap, in_word, after-word, after_tree, State, start, first, inside-pair, within, after-pair, Move, to, ends, dies, closes, waiting, step, ended, stopped, move, run, moved}
use Rattle.brackets.specs.Pieces.{inner_40, inner-white, white-inner, white_40, and_not_l}

pub goes : (x : ℕ) (s : List ℕ) (st st' : State) → step st x ≡ to st' → run (x ∷ s) st ≡ run s st'
unfolding run move
goes x s st st' e = ap (λ (m : Move). move m (ended s) (stopped (x ∷ s)) (run s)) e

pub stays : (x : ℕ) (s : List ℕ) (st : State) → step st x ≡ dies → run (x ∷ s) st ≡ stopped (x ∷ s)
unfolding run move
stays x s st e = ap (λ (m : Move). move m (ended s) (stopped (x ∷ s)) (run s)) e

pub finishes : (x : ℕ) (s : List ℕ) (st : State) → step st x ≡ ends → run (x ∷ s) st ≡ ended s
unfolding run move
finishes x s st e = ap (λ (m : Move). move m (ended s) (stopped (x ∷ s)) (run s)) e

pub shuts : (x : ℕ) (s : List ℕ) (st : State) (b : Bool) (d : ℕ) → step st x ≡ closes b d → run (x ∷ s) st ≡ moved (closes b d) s
unfolding run move closes moved
shuts x s st true zero e = goes x s st _ e
shuts x s st false zero e = finishes x s st e
shuts x s st b (suc d) e = goes x s st _ e

pub white-run : (a r : List ℕ) (st : State) → Is (blank a) → ((x : ℕ) → Is (white x) → step st x ≡ to st) → run (a ++ r) st ≡ run r st
unfolding blank all
white-run [] r st h k = refl
white-run (x ∷ a) r st h k = goes x (a ++ r) st st (k x (and_l _ _ h)) ∙ white-run a r st (and_r (white x) _ h) k

-- white space keeps these states
pub start-white : (x : ℕ) → Is (white x) → step start x ≡ to start
unfolding step pick
start-white x h = rw h

pub pair-white : (x : ℕ) → Is (white x) → step inside-pair x ≡ to inside-pair
unfolding step pick
pair-white x h = rw h

pub after-white : (x : ℕ) → Is (white x) → step after-pair x ≡ to after-pair
unfolding step waiting pick
after-white x h = rw h

module _ (b : Bool) (d : ℕ) where
  pub gap-white : (x : ℕ) → Is (white x) → step (within b in_gap d) x ≡ to (within b in_gap d)
  unfolding step pick
  gap-white x h = rw h

  pub word-white : (x : ℕ) → Is (white x) → step (within b after-word d) x ≡ to (within b after-word d)
  unfolding step waiting pick
  word-white x h = rw h

  pub tree_white : (x : ℕ) → Is (white x) → step (within b after_tree d) x ≡ to (within b after_tree d)
  unfolding step waiting pick
  tree_white x h = rw (white_40 x h, h)

  -- the bytes of a label or word, in a phase that counts them
  counted_run : (phase : ℕ → Phase) → ((k x : ℕ) → Is (inner x & ltb k 64) → step (within b (phase k) d) x ≡ to (within b (phase (suc k)) d))
      → (l r : List ℕ) (k : ℕ) → Is (all inner l) → k + length l ≤ 64 → run (l ++ r) (within b (phase k) d) ≡ run r (within b (phase (k + length l)) d)
  unfolding all
  counted_run phase on [] r k h m = ap (λ (j : ℕ). run r (within b (phase j) d)) (let e : k ≡ k + 0 = omega arith in e)
  counted_run phase on (x ∷ l) r k h m =
      goes x (l ++ r) _ (within b (phase (suc k)) d) (on k x (and_in _ _ (and_l _ _ h) (lt-ltb k 64 (omega arith))))
      ∙ counted_run phase on l r (suc k) (and_r (inner x) _ h) (omega arith)
      ∙ ap (λ (j : ℕ). run r (within b (phase j) d)) (let e : suc k + length l ≡ k + suc (length l) = omega arith in e)

  pub label-run : (l r : List ℕ) (k : ℕ) → Is (all inner l) → k + length l ≤ 64 → run (l ++ r) (within b (in_label k) d) ≡ run r (within b (in_label (k + length l)) d)
  unfolding step pick
  label-run = counted_run in_label (λ k x q. rw q)

  letter-run : (l r : List ℕ) (k : ℕ) → Is (all inner l) → k + length l ≤ 64 → run (l ++ r) (within b (in_word k) d) ≡ run r (within b (in_word (k + length l)) d)
  unfolding step pick
  letter-run = counted_run in_word (λ k x q. rw q)

  pub gap-run : (a r : List ℕ) (k : ℕ) → Is (gap a) → 0 < k → run (a ++ r) (within b (in_label k) d) ≡ run r (within b in_gap d)
  unfolding gap blank all step pick
  gap-run [] r k h m = absurd (let z = ltb-true 0 0 (and_r true _ h) in omega arith)
  gap-run (x ∷ a) r k h m =
      let w : Is (white x & all white a) = and_l _ _ h in
      let q : (inner x & ltb k 64) ≡ false = and_not_l _ _ (white-inner x (and_l _ _ w)) in
      let p : Is (white x & ltb 0 k) = and_in _ _ (and_l _ _ w) (lt-ltb 0 k m) in
      goes x (a ++ r) _ (within b in_gap d) (rw (q, p)) ∙ white-run a r _ (and_r (white x) _ w) gap-white

  pub word-run : (w r : List ℕ) → Is (token w) → run (w ++ r) (within b in_gap d) ≡ run r (within b (in_word (length w)) d)
  unfolding token all step pick
  word-run [] r h = absurd (let z = ltb-true 0 0 (and_l (ltb 0 0) (leb 0 64) (and_r true _ h)) in omega arith)
  word-run (x ∷ w) r h =
      let a : Is (inner x & all inner w) = and_l _ _ h in
      let i : Is (inner x) = and_l _ _ a in
      let m : suc (length w) ≤ 64 = leb-true _ _ (and_r (ltb 0 (suc (length w))) _ (and_r (inner x & all inner w) _ h)) in
      goes x (w ++ r) _ (within b (in_word 1) d) (rw (inner-white x i, inner_40 x i, i))
      ∙ letter-run w r 1 (and_r (inner x) _ a) (omega arith)
      ∙ ap (λ (j : ℕ). run r (within b (in_word j) d)) (let e : 1 + length w ≡ suc (length w) = omega arith in e)

  -- after the word
  pub rest-run : (a r : List ℕ) (k : ℕ) → Is (blank a) → run (a ++ 41 ∷ r) (within b (in_word k) d) ≡ moved (closes b d) r
  unfolding blank all step waiting pick white inner ◌&◌ ◌or◌ non
  rest-run [] r k h = shuts 41 r _ b d refl
  rest-run (x ∷ a) r k h =
      let q : (inner x & ltb k 64) ≡ false = and_not_l _ _ (white-inner x (and_l _ _ h)) in
      goes x (a ++ 41 ∷ r) _ (within b after-word d) (rw (q, and_l (white x) _ h))
      ∙ white-run a (41 ∷ r) _ (and_r (white x) _ h) word-white
      ∙ shuts 41 r _ b d refl

-- ---- trees and sentences
pub token-all : (l : List ℕ) → Is (token l) → Is (all inner l)
unfolding token
token-all l h = and_l _ _ h

pub token-some : (l : List ℕ) → Is (token l) → 0 < length l
unfolding token
token-some l h = ltb-true _ _ (and_l _ _ (and_r (all inner l) _ h))

pub token-few : (l : List ℕ) → Is (token l) → length l ≤ 64
unfolding token
token-few l h = leb-true _ _ (and_r (ltb 0 (length l)) _ (and_r (all inner l) _ h))

-- a label and its white space
pub head-run : (b : Bool) (d : ℕ) (l a r : List ℕ) → Is (token l) → Is (gap a) → run (l ++ (a ++ r)) (within b (in_label 0) d) ≡ run r (within b in_gap d)
head-run b d l a r h k =
    let n = token-some l h in
    let m = token-few l h in
    label-run b d l (a ++ r) 0 (token-all l h) (omega arith) ∙ gap-run b d a r (0 + length l) k (omega arith)

pub opened : (t : Tree) (r : List ℕ) → write t r ≡ 40 ∷ drop 1 (write t r)
unfolding write
opened (leaf l b w a) r = refl
opened (node l b ts) r = refl

pub openeds : (ts : Trees) (r : List ℕ) → writes ts r ≡ 40 ∷ drop 1 (writes ts r)
unfolding write
openeds (one t a) r = opened t (a ++ r)
openeds (more t a ts) r = opened t (a ++ writes ts r)

-- from the opening parenthesis
pub from : (u : List ℕ) (st st' : State) → u ≡ 40 ∷ drop 1 u → step st 40 ≡ to st' → run u st ≡ run (drop 1 u) st'
from u st st' e k = ap (λ (y : List ℕ). run y st) e ∙ goes 40 (drop 1 u) st st' k

pub gap_open : (b : Bool) (d : ℕ) → step (within b in_gap d) 40 ≡ to (within b (in_label 0) (suc d))
unfolding step pick white ◌or◌
gap_open b d = refl

pub tree_open : (b : Bool) (d : ℕ) → step (within b after_tree d) 40 ≡ to (within b (in_label 0) (suc d))
unfolding step pick
tree_open b d = refl

pub tree_shut : (b : Bool) (d : ℕ) → step (within b after_tree d) 41 ≡ closes b d
unfolding step pick waiting white ◌or◌
tree_shut b d = refl

pub closes_up : (b : Bool) (d : ℕ) (r : List ℕ) → moved (closes b (suc d)) r ≡ run r (within b after_tree d)
unfolding closes moved
closes_up b d r = refl

mutual
  unfolding write good

  pub tree_run : (t : Tree) → Is (good t) → (r : List ℕ) (b : Bool) (d : ℕ) → run (drop 1 (write t r)) (within b (in_label 0) d) ≡ moved (closes b d) r
  tree_run (leaf l a w z) h r b d =
      let h₂ = and_r (token l) _ h in
      let h₃ = and_r (gap a) _ h₂ in
      head-run b d l a (w ++ (z ++ 41 ∷ r)) (and_l _ _ h) (and_l _ _ h₂)
      ∙ word-run b d w (z ++ 41 ∷ r) (and_l _ _ h₃)
      ∙ rest-run b d z r (length w) (and_r (token w) _ h₃)
  tree_run (node l a ts) h r b d =
      let h₂ = and_r (token l) _ h in
      head-run b d l a (writes ts (41 ∷ r)) (and_l _ _ h) (and_l _ _ h₂)
      ∙ from (writes ts (41 ∷ r)) _ _ (openeds ts (41 ∷ r)) (gap_open b d)
      ∙ trees_run ts (and_r (gap a) _ h₂) (41 ∷ r) b d
      ∙ shuts 41 r _ b d (tree_shut b d)

  pub trees_run : (ts : Trees) → Is (goods ts) → (r : List ℕ) (b : Bool) (d : ℕ) → run (drop 1 (writes ts r)) (within b (in_label 0) (suc d)) ≡ run r (within b after_tree d)
  trees_run (one t a) h r b d =
      tree_run t (and_l _ _ h) (a ++ r) b (suc d) ∙ closes_up b d (a ++ r) ∙ white-run a r _ (and_r (good t) _ h) (tree_white b d)
  trees_run (more t a ts) h r b d =
      let h₂ = and_r (good t) _ h in
      tree_run t (and_l _ _ h) (a ++ writes ts r) b (suc d)
      ∙ closes_up b d (a ++ writes ts r)
      ∙ white-run a (writes ts r) _ (and_l _ _ h₂) (tree_white b d)
      ∙ from (writes ts r) _ _ (openeds ts r) (tree_open b d)
      ∙ trees_run ts (and_r (blank a) _ h₂) r b d

-- a first parenthesis with a label
pub first_label : (x : ℕ) (s : List ℕ) → Is (inner x) → run (x ∷ s) first ≡ run (x ∷ s) (within false (in_label 0) 0)
unfolding step pick
first_label x s h = goes x s first (within false (in_label 1) 0) (rw h) ∙ sym (goes x s (within false (in_label 0) 0) (within false (in_label 1) 0) (rw (and_in (inner x) (ltb 0 64) h refl)))

pub first_token : (l : List ℕ) → Is (token l) → (z : List ℕ) → run (l ++ z) first ≡ run (l ++ z) (within false (in_label 0) 0)
unfolding all
first_token [] h z = absurd (let n = token-some [] h in omega arith)
first_token (x ∷ l) h z = first_label x (l ++ z) (and_l _ _ (token-all (x ∷ l) h))

first_tree : (t : Tree) (r : List ℕ) → Is (good t) → run (drop 1 (write t r)) first ≡ run (drop 1 (write t r)) (within false (in_label 0) 0)
unfolding write good
first_tree (leaf l b w a) r h = first_token l (and_l _ _ h) _
first_tree (node l b ts) r h = first_token l (and_l _ _ h) _

pub start_open : step start 40 ≡ to first
unfolding step pick white ◌or◌
start_open = refl

pub pair_open : step inside-pair 40 ≡ to (within true (in_label 0) 0)
unfolding step pick white ◌or◌
pair_open = refl

-- the white space of a bare pair
pub pair-run : (v u : List ℕ) → Is (blank v) → u ≡ 40 ∷ drop 1 u → run (v ++ u) first ≡ run (drop 1 u) (within true (in_label 0) 0)
unfolding step pick white inner ◌or◌ ◌&◌ non blank all
pair-run [] u h e = from u first _ e refl
pair-run (x ∷ v) u h e =
    let w : Is (white x) = and_l (white x) (all white v) h in
    goes x (v ++ u) first inside-pair (one-white x w) ∙ white-run v u inside-pair (and_r (white x) _ h) pair-white ∙ from u inside-pair _ e pair_open
  where
    one-white : (x : ℕ) → Is (white x) → step first x ≡ to inside-pair
    one-white x w = rw (white-inner x w, w)

pub pair_shut : step after-pair 41 ≡ ends
unfolding step waiting pick white ◌or◌
pair_shut = refl

pub sentence_run : (x : Sentence) → Is (legal x) → (r : List ℕ) → run (spell x r) start ≡ ended r
unfolding spell legal closes moved
sentence_run (plain w t) h r =
    white-run w (write t r) start (and_l _ _ h) start-white ∙ from (write t r) start first (opened t r) start_open ∙ first_tree t r (and_r (blank w) _ h) ∙ tree_run t (and_r (blank w) _ h) r false 0
sentence_run (bare w v t a) h r =
    let h₂ = and_r (blank w) _ h in
    let h₃ = and_r (blank v) _ h₂ in
    white-run w _ start (and_l _ _ h) start-white
    ∙ goes 40 (v ++ write t (a ++ 41 ∷ r)) start first start_open
    ∙ pair-run v (write t (a ++ 41 ∷ r)) (and_l _ _ h₂) (opened t (a ++ 41 ∷ r))
    ∙ tree_run t (and_l _ _ h₃) (a ++ 41 ∷ r) true 0
    ∙ white-run a (41 ∷ r) after-pair (and_r (good t) _ h₃) after-white
    ∙ finishes 41 r after-pair pair_shut

-- ---- where the machine stops, whatever follows
ended_not : (s r : List ℕ) → ended s ≡ stopped r → ⊥
ended_not s r e = let z : ◌≡◌ {A = ℕ} 0 1 = cc in omega arith

stopped_is : (s r : List ℕ) → stopped s ≡ stopped r → s ≡ r
stopped_is s r e = cc

pub stop_short : (s : List ℕ) (st : State) (r : List ℕ) → run s st ≡ stopped r → length r ≤ length s
unfolding run move
stop_short [] st r e = omega (arith, ap length (stopped_is [] r e))
stop_short (x ∷ s) st r e = go (step st x) (λ st'. stop_short s st' r) e
  where
    go : (m : Move) → ((st' : State) → run s st' ≡ stopped r → length r ≤ length s) → move m (ended s) (stopped (x ∷ s)) (run s) ≡ stopped r → length r ≤ suc (length s)
    go (to st') k e = omega (arith, k st' e)
    go ends k e = absurd (ended_not _ _ e)
    go dies k e = omega (arith, ap length (stopped_is (x ∷ s) r e))

pub stop_same : (c : List ℕ) (x : ℕ) (r r' : List ℕ) (st : State) → run (c ++ x ∷ r) st ≡ stopped (x ∷ r) → run (c ++ x ∷ r') st ≡ stopped (x ∷ r')
unfolding run move
stop_same [] x r r' st e = go (step st x) e
  where
    go : (m : Move) → move m (ended r) (stopped (x ∷ r)) (run r) ≡ stopped (x ∷ r) → move m (ended r') (stopped (x ∷ r')) (run r') ≡ stopped (x ∷ r')
    go (to st') e = absurd (let n = stop_short r st' (x ∷ r) e in omega arith)
    go ends e = absurd (ended_not _ _ e)
    go dies e = refl
stop_same (y ∷ c) x r r' st e = go (step st y) (λ st'. stop_same c x r r' st') e
  where
    go : (m : Move) → ((st' : State) → run (c ++ x ∷ r) st' ≡ stopped (x ∷ r) → run (c ++ x ∷ r') st' ≡ stopped (x ∷ r'))
        → move m (ended (c ++ x ∷ r)) (stopped (y ∷ (c ++ x ∷ r))) (run (c ++ x ∷ r)) ≡ stopped (x ∷ r)
        → move m (ended (c ++ x ∷ r')) (stopped (y ∷ (c ++ x ∷ r'))) (run (c ++ x ∷ r')) ≡ stopped (x ∷ r')
    go (to st') k e = k st' e
    go ends k e = absurd (ended_not _ _ e)
    go dies k e = absurd (let n = ap length (stopped_is _ _ e) in let m = length-append c (x ∷ r) in omega arith)

-- no legal sentence goes on with a byte at which the machine stops
pub stop_ends : (c : List ℕ) (x : ℕ) (r : List ℕ) → run (c ++ x ∷ r) start ≡ stopped (x ∷ r) → Begins legal (c ++ x ∷ []) → ⊥
stop_ends c x r e B =
    let m = B.others in
    let q : c ++ x ∷ m ≡ spell B.sentence [] = sym (append_assoc c (x ∷ []) m) ∙ B.text in
    ended_not [] (x ∷ m) (sym (sentence_run B.sentence B.passes []) ∙ ap (λ (y : List ℕ). run y start) (sym q) ∙ stop_same c x r m start e)

-- and no sentence stands in front
pub stop_none : (s r : List ℕ) → run s start ≡ stopped r → (x : Sentence) (z : List ℕ) → Is (legal x) → s ≡ spell x z → ⊥
stop_none s r e x z h k = ended_not z r (sym (sentence_run x h z) ∙ ap (λ (y : List ℕ). run y start) (sym k) ∙ e)
