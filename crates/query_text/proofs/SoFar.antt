-- The reader's own notion of a text that goes on is the document's: what it has read so far some legal text continues, and
-- what it stops at none does. Assumes nothing.
use mathlib.Core.Path.{◌≡◌, refl, sym, ap, ◌∙◌, subst}
use mathlib.Core.Bool.{Bool, true, false, false≢true, true≢false}
use mathlib.Core.List.{List, [], ◌∷◌, append-nil}
use Prim.Native.Nat.{ℕ, suc, ◌≤◌, ◌<◌}
use native.Mathlib.Omega.{arith}
use lib.ListN.{length, take}
use lib.Seq.{take-length}
use Rattle.meaning.specs.Tests.{Is, ◌&◌, ◌or◌}
use Rattle.meaning.specs.Texts.{pick, Has, Begins, Place, legal, bad, IsPlace}
use Rattle.meaning.specs.Places.{alive, some_byte, next, place}
use Rattle.meaning.specs.QueryTexts.{query}
use Rattle.query_text.specs.Machine.{step, stopped, finished}
use Rattle.query_text.specs.declared.machine.Now.{Now}
use Rattle.query_text.specs.declared.machine.Now.TheVariants.{Stop, Start, Asked, Opened, InHead, HeadComma, Closed, Less, Wants, NameC, NameN, NameF, Child, Sibling, Following, Signs, Signed, AxisOpened, From, Label, LastOpened, Last, Done, End}
use Rattle.query_text.proofs.PlaceLaws.{place_is, begins_less}
use Rattle.query_text.proofs.Rest.{opened}
use Rattle.query_text.proofs.Moves.{run, machine_is}

pub query-alive : Is (alive query)
unfolding opened alive some_byte pick ◌&◌ ◌or◌
query-alive = refl

-- the state after a text
unfoldable pub steps : Now → List ℕ → Now
steps q [] = q
steps q (b ∷ s) = steps (step q b) s

stop_only : (q : Now) → stopped q ≡ true → q ≡ Stop
unfolding stopped
stop_only Stop e = refl
stop_only Start e = absurd (false≢true e)
stop_only Asked e = absurd (false≢true e)
stop_only Opened e = absurd (false≢true e)
stop_only (InHead n) e = absurd (false≢true e)
stop_only HeadComma e = absurd (false≢true e)
stop_only Closed e = absurd (false≢true e)
stop_only Less e = absurd (false≢true e)
stop_only Wants e = absurd (false≢true e)
stop_only NameC e = absurd (false≢true e)
stop_only NameN e = absurd (false≢true e)
stop_only NameF e = absurd (false≢true e)
stop_only (Child n) e = absurd (false≢true e)
stop_only (Sibling n) e = absurd (false≢true e)
stop_only (Following n) e = absurd (false≢true e)
stop_only Signs e = absurd (false≢true e)
stop_only Signed e = absurd (false≢true e)
stop_only AxisOpened e = absurd (false≢true e)
stop_only (From n) e = absurd (false≢true e)
stop_only (Label n) e = absurd (false≢true e)
stop_only LastOpened e = absurd (false≢true e)
stop_only (Last n) e = absurd (false≢true e)
stop_only Done e = absurd (false≢true e)
stop_only End e = absurd (false≢true e)

stop_stays : (s : List ℕ) → steps Stop s ≡ Stop
unfolding steps step
stop_stays [] = refl
stop_stays (b ∷ s) = stop_stays s

still_stopped : (q : Now) (s : List ℕ) → stopped q ≡ true → stopped (steps q s) ≡ true
unfolding stopped
still_stopped q s e = ap (λ (r : Now). stopped (steps r s)) (stop_only q e) ∙ ap stopped (stop_stays s)

next-legal : next legal ≡ legal
unfolding next
next-legal = refl

next_bad : (p : ℕ) → next (bad p) ≡ bad (suc p)
unfolding next
next_bad p = refl

pick_yes : (a b : Place) → pick true a b ≡ a
unfolding pick
pick_yes a b = refl

pick_no : (a b : Place) → pick false a b ≡ b
unfolding pick
pick_no a b = refl

pub is_legal : (s : List ℕ) → IsPlace query s legal → Has query s
unfolding IsPlace
is_legal s h = h

pub is_bad : (s : List ℕ) (p : ℕ) → IsPlace query s (bad p) → (Has query s → ⊥) × (p ≤ length s) × Begins query (take p s) × (p < length s → Begins query (take (suc p) s) → ⊥)
unfolding IsPlace
is_bad s p h = h

run_on : (q : Now) (s : List ℕ) → stopped (steps q s) ≡ false → run q s ≡ pick (finished (steps q s)) legal (bad (length s))
unfolding run steps pick
run_on q [] h = refl
run_on q (b ∷ s) h = go (stopped (step q b)) refl (run_on (step q b) s h)
  where
    further : (z : Bool) → next (pick z legal (bad (length s))) ≡ pick z legal (bad (suc (length s)))
    further true = next-legal
    further false = next_bad (length s)

    go : (z : Bool) → stopped (step q b) ≡ z → run (step q b) s ≡ pick (finished (steps (step q b) s)) legal (bad (length s))
        → pick z (bad 0) (next (run (step q b) s)) ≡ pick (finished (steps (step q b) s)) legal (bad (suc (length s)))
    go true e r = absurd (true≢false (sym (still_stopped (step q b) s e) ∙ h))
    go false e r = pick_no (bad 0) (next (run (step q b) s)) ∙ ap next r ∙ further (finished (steps (step q b) s))

run_stops : (q : Now) (s : List ℕ) → stopped q ≡ false → stopped (steps q s) ≡ true → (p : ℕ) × (run q s ≡ bad p) × (p < length s)
unfolding run steps pick
run_stops q [] l h = absurd (false≢true (sym l ∙ h))
run_stops q (b ∷ s) l h = go (stopped (step q b)) refl (run_stops (step q b) s)
  where
    go : (z : Bool) → stopped (step q b) ≡ z → (stopped (step q b) ≡ false → stopped (steps (step q b) s) ≡ true → (p : ℕ) × (run (step q b) s ≡ bad p) × (p < length s))
        → (p : ℕ) × (pick z (bad 0) (next (run (step q b) s)) ≡ bad p) × (p < suc (length s))
    go true e r = (0, pick_yes (bad 0) (next (run (step q b) s)), omega arith)
    go false e r = let t = r e h in (suc t.0, pick_no (bad 0) (next (run (step q b) s)) ∙ ap next t.1 ∙ next_bad t.0, (let k = t.2 in omega arith))

at-start : stopped Start ≡ false
unfolding stopped
at-start = refl

-- what was read so far: some legal text begins so
pub goes_on : (s : List ℕ) → stopped (steps Start s) ≡ false → Begins query s
goes_on s h = go (finished (steps Start s)) (machine_is s ∙ run_on Start s h)
  where
    go : (z : Bool) → place query s ≡ pick z legal (bad (length s)) → Begins query s
    go true e = ([], subst (Has query) (sym (append-nil s)) (is_legal s (subst (IsPlace query s) (e ∙ pick_yes legal (bad (length s))) (place_is query s query-alive))))
    go false e = subst (Begins query) (take-length s) (is_bad s (length s) (subst (IsPlace query s) (e ∙ pick_no legal (bad (length s))) (place_is query s query-alive))).2

-- what is stopped at: no legal text begins so
pub goes_no_further : (s : List ℕ) → stopped (steps Start s) ≡ true → Begins query s → ⊥
goes_no_further s h b =
    let r = run_stops Start s at-start h in
    let i = is_bad s r.0 (subst (IsPlace query s) (machine_is s ∙ r.1) (place_is query s query-alive)) in
    i.3 r.2 (begins_less query (suc r.0) (length s) s r.2 (subst (Begins query) (sym (take-length s)) b))
