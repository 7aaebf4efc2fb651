-- The place: what it is, that it is one, and how it goes by the form. Assumes nothing.
use mathlib.Core.Path.{◌≡◌, refl, sym, ap, ◌∙◌, subst}
use mathlib.Core.Bool.{Bool, true, false, false≢true}
use mathlib.Core.Logic.{inl, inr, ⊎_elim}
use mathlib.Core.List.{List, [], ◌∷◌, ◌++◌}
use Prim.Native.Nat.{ℕ, zero, suc, ◌≤◌}
use native.Mathlib.Nat.{not-suc-le-zero}
use native.Mathlib.Omega.{arith}
use lib.Dec.{leb, ltb}
use lib.ListN.{take}
use borrow.Author.Tests.{leb-true, leb-false, le-leb, lt-leb, ltb-true, ltb-false}
use Rattle.meaning.specs.Tests.{Is, ◌&◌, ◌or◌}
use Rattle.meaning.specs.Texts.{pick, Range, among, Form, none, empty, byte, ◌then◌, ◌∣◌, many, Has, Times, Place, legal, bad}
use Rattle.meaning.specs.Texts.{Begins, IsPlace}
use Rattle.meaning.specs.Places.{ends, alive, is_none, is_empty, cat, alt, after, next, place}
use Rattle.query_text.proofs.After.{ends_in, ends_out, alive_in, alive_out, after_in, after_out, alt_in, alt_out}

-- 1. The computed place is the place.
further : (f : Form) (b : ℕ) (s : List ℕ) (v : Place) → IsPlace (after b f) s v → IsPlace f (b ∷ s) (next v)
unfolding IsPlace next
further f b s legal h = after_out f b s h
further f b s (bad p) h = (
  λ k. h.0 (after_in f b (b ∷ s) s refl k),
  (let l = h.1 in omega arith),
  (h.2.0, after_out f b (take p s ++ h.2.0) h.2.1),
  λ l k. h.3 (omega arith) (k.0, after_in f b (b ∷ (take (suc p) s ++ k.0)) (take (suc p) s ++ k.0) refl k.1),
)

pub place_is : (f : Form) (s : List ℕ) → Is (alive f) → IsPlace f s (place f s)
unfolding IsPlace place pick
place_is f [] a = go (ends f) refl
  where
    go : (z : Bool) → ends f ≡ z → IsPlace f [] (pick z legal (bad 0))
    go true e = ends_out f e
    go false e = (λ k. false≢true (sym e ∙ ends_in f [] refl k), omega arith, alive_out f a, λ l k. not-suc-le-zero l)
place_is f (b ∷ s) a = go (alive (after b f)) refl (place_is (after b f) s)
  where
    go : (z : Bool) → alive (after b f) ≡ z → (Is (alive (after b f)) → IsPlace (after b f) s (place (after b f) s)) → IsPlace f (b ∷ s) (pick z (next (place (after b f) s)) (bad 0))
    go true e ih = further f b s (place (after b f) s) (ih e)
    go false e ih = (
      λ k. false≢true (sym e ∙ alive_in _ s (after_in f b (b ∷ s) s refl k)),
      omega arith,
      alive_out f a,
      λ l k. false≢true (sym e ∙ alive_in _ k.0 (after_in f b (b ∷ k.0) k.0 refl k.1)),
    )

-- 2. There is but one place.
shorter : (p q : ℕ) (s : List ℕ) → p ≤ q → (r : List ℕ) × (take q s ≡ take p s ++ r)
shorter zero q s l = (take q s, refl)
shorter (suc p) zero s l = absurd (not-suc-le-zero l)
shorter (suc p) (suc q) [] l = ([], refl)
shorter (suc p) (suc q) (b ∷ s) l = let t = shorter p q s (omega arith) in (t.0, ap (λ (x : List ℕ). b ∷ x) t.1)

pub append_assoc : (a b c : List ℕ) → (a ++ b) ++ c ≡ a ++ (b ++ c)
append_assoc [] b c = refl
append_assoc (x ∷ a) b c = ap (λ (y : List ℕ). x ∷ y) (append_assoc a b c)

pub begins_less : (f : Form) (p q : ℕ) (s : List ℕ) → p ≤ q → Begins f (take q s) → Begins f (take p s)
begins_less f p q s l h =
    let t = shorter p q s l in
    (t.0 ++ h.0, subst (Has f) (ap (λ (x : List ℕ). x ++ h.0) t.1 ∙ append_assoc (take p s) t.0 h.0) h.1)

pub place-one : (f : Form) (s : List ℕ) (v w : Place) → IsPlace f s v → IsPlace f s w → v ≡ w
unfolding IsPlace
place-one f s legal legal h k = refl
place-one f s legal (bad q) h k = absurd (k.0 h)
place-one f s (bad p) legal h k = absurd (h.0 k)
place-one f s (bad p) (bad q) h k = ap bad (go (ltb p q) (ltb q p) refl refl)
  where
    go : (x y : Bool) → ltb p q ≡ x → ltb q p ≡ y → p ≡ q
    go true y e d = let l = ltb-true p q e in let m = k.1 in absurd (h.3 (omega arith) (begins_less f (suc p) q s (omega arith) k.2))
    go false true e d = let l = ltb-true q p d in let m = h.1 in absurd (k.3 (omega arith) (begins_less f (suc q) p s (omega arith) h.2))
    go false false e d = let l = ltb-false p q e in let m = ltb-false q p d in omega arith

-- 3. Forms with the same texts have the same places.
unfoldable pub Same : Form → Form → Type 0
Same f g = (s : List ℕ) → (Has f s → Has g s) × (Has g s → Has f s)

alike : (a b : Bool) → (Is a → Is b) → (Is b → Is a) → a ≡ b
alike true b h k = sym (h refl)
alike false true h k = k refl
alike false false h k = refl

pub alive-same : (f g : Form) → Same f g → alive f ≡ alive g
unfolding Same
alive-same f g h = alike _ _ (λ a. let t = alive_out f a in alive_in g t.0 ((h t.0).0 t.1)) (λ a. let t = alive_out g a in alive_in f t.0 ((h t.0).1 t.1))

ends_same : (f g : Form) → Same f g → ends f ≡ ends g
unfolding Same
ends_same f g h = alike _ _ (λ a. ends_in g [] refl ((h []).0 (ends_out f a))) (λ a. ends_in f [] refl ((h []).1 (ends_out g a)))

after_same : (f g : Form) (b : ℕ) → Same f g → Same (after b f) (after b g)
unfolding Same
after_same f g b h s = (λ k. after_in g b (b ∷ s) s refl ((h (b ∷ s)).0 (after_out f b s k)), λ k. after_in f b (b ∷ s) s refl ((h (b ∷ s)).1 (after_out g b s k)))

pub place_same : (f g : Form) → Same f g → (s : List ℕ) → place f s ≡ place g s
unfolding place
place_same f g h [] = rw (ends_same f g h)
place_same f g h (b ∷ s) =
    let k = after_same f g b h in
    ap (λ (z : Bool). pick z (next (place (after b f) s)) (bad 0)) (alive-same (after b f) (after b g) k)
    ∙ ap (λ (v : Place). pick (alive (after b g)) (next v) (bad 0)) (place_same (after b f) (after b g) k s)

-- 4. Of one form or another, the further place.
unfoldable pub further_of : Place → Place → Place
further_of legal w = legal
further_of (bad p) legal = legal
further_of (bad p) (bad q) = bad (pick (leb p q) q p)

pub place_dead : (f : Form) → alive f ≡ false → (s : List ℕ) → place f s ≡ bad 0
unfolding place pick
place_dead f e [] = go (ends f) refl
  where
    go : (z : Bool) → ends f ≡ z → pick z legal (bad 0) ≡ bad 0
    go true d = absurd (false≢true (sym e ∙ alive_in f [] (ends_out f d)))
    go false d = refl
place_dead f e (b ∷ s) = go (alive (after b f)) refl
  where
    go : (z : Bool) → alive (after b f) ≡ z → pick z (next (place (after b f) s)) (bad 0) ≡ bad 0
    go true d = let t = alive_out (after b f) d in absurd (false≢true (sym e ∙ alive_in f (b ∷ t.0) (after_out f b t.0 t.1)))
    go false d = refl

alt-same : (f g : Form) → Same (alt f g) (f ∣ g)
unfolding Same Has
alt-same f g s = (alt_out f g s, alt_in f g s)

leb-zero : (p : ℕ) → leb p 0 ≡ true → p ≡ 0
leb-zero p e = let l = leb-true p 0 e in omega arith

pub further_zero : (v : Place) → further_of v (bad 0) ≡ v
unfolding further_of pick
further_zero legal = refl
further_zero (bad p) = go (leb p 0) refl
  where
    go : (z : Bool) → leb p 0 ≡ z → bad (pick z 0 p) ≡ bad p
    go true e = ap bad (sym (leb-zero p e))
    go false e = refl

pub zero_further : (v : Place) → further_of (bad 0) v ≡ v
unfolding further_of pick
zero_further legal = refl
zero_further (bad p) = let e : leb 0 p ≡ true = le-leb 0 p (omega arith) in rw e

pub on_further : (v w : Place) → next (further_of v w) ≡ further_of (next v) (next w)
unfolding further_of next pick
on_further legal w = refl
on_further (bad p) legal = refl
on_further (bad p) (bad q) = go (leb p q) refl
  where
    go : (z : Bool) → leb p q ≡ z → bad (suc (pick z q p)) ≡ bad (pick (leb (suc p) (suc q)) (suc q) (suc p))
    go true e = let l = leb-true p q e in let d : leb (suc p) (suc q) ≡ true = le-leb (suc p) (suc q) (omega arith) in rw d
    go false e = let l = leb-false p q e in let d : leb (suc p) (suc q) ≡ false = lt-leb (suc p) (suc q) (omega arith) in rw d

pub place_or : (f g : Form) (s : List ℕ) → place (f ∣ g) s ≡ further_of (place f s) (place g s)
unfolding place after ends pick further_of alive ◌or◌
place_or f g [] = go (ends f) (ends g)
  where
    go : (x y : Bool) → pick (x or y) legal (bad 0) ≡ further_of (pick x legal (bad 0)) (pick y legal (bad 0))
    go true y = refl
    go false true = refl
    go false false = refl
place_or f g (b ∷ s) =
    ap (λ (z : Bool). pick z (next (place (alt F G) s)) (bad 0)) (alive-same _ _ (alt-same F G))
    ∙ go (alive F) (alive G) refl refl (place_same _ _ (alt-same F G) s ∙ place_or F G s)
  where
    F : Form
    F = after b f

    G : Form
    G = after b g

    go : (x y : Bool) → alive F ≡ x → alive G ≡ y → place (alt F G) s ≡ further_of (place F s) (place G s)
        → pick (x or y) (next (place (alt F G) s)) (bad 0) ≡ further_of (pick x (next (place F s)) (bad 0)) (pick y (next (place G s)) (bad 0))
    go true true p q ih = ap next ih ∙ on_further _ _
    go true false p q ih = ap next (ih ∙ ap (further_of (place F s)) (place_dead G q s) ∙ further_zero _) ∙ sym (further_zero _)
    go false true p q ih = ap next (ih ∙ ap (λ (v : Place). further_of v (place G s)) (place_dead F p s) ∙ zero_further _) ∙ sym (zero_further _)
    go false false p q ih = refl

-- 5. A byte and what follows it.
pub place_byte : (rs : List Range) (k : Form) (b : ℕ) (s : List ℕ) → Is (alive k) → place (byte rs then k) (b ∷ s) ≡ pick (among rs b) (next (place k s)) (bad 0)
unfolding place after ends pick cat is_none is_empty alive ◌&◌
place_byte rs k b s a = go (among rs b)
  where
    go : (z : Bool) → (let g = cat (pick z empty none) k in pick (alive g) (next (place g s)) (bad 0)) ≡ pick z (next (place k s)) (bad 0)
    go true = rw a
    go false = refl

-- 6. Sequences, sums and repetitions, one after another.
unfoldable pub glue : Form → Form → Form
glue none k = none
glue empty k = k
glue (byte rs) k = byte rs then k
glue (f then g) k = glue f (glue g k)
glue (f ∣ g) k = glue f k ∣ glue g k
glue (many f) k = many f then k

pub then_same : (f g k : Form) → Same g k → Same (f then g) (f then k)
unfolding Same Has
then_same f g k h s = (λ t. (t.0, t.1, t.2, t.3, (h t.1).0 t.4), λ t. (t.0, t.1, t.2, t.3, (h t.1).1 t.4))

pub or_same : (f f' g g' : Form) → Same f f' → Same g g' → Same (f ∣ g) (f' ∣ g')
unfolding Same Has
or_same f f' g g' h k s = (⊎_elim (λ x. inl ((h s).0 x)) (λ x. inr ((k s).0 x)), ⊎_elim (λ x. inl ((h s).1 x)) (λ x. inr ((k s).1 x)))

pub same_via : (f g h : Form) → Same f g → Same g h → Same f h
unfolding Same
same_via f g h p q s = (λ x. (q s).0 ((p s).0 x), λ x. (p s).1 ((q s).1 x))

pub assoc_same : (f g k : Form) → Same ((f then g) then k) (f then (g then k))
unfolding Same Has
assoc_same f g k s = (
  λ t. let u = t.3 in (u.0, u.1 ++ t.1, t.2 ∙ ap (λ (x : List ℕ). x ++ t.1) u.2 ∙ append_assoc u.0 u.1 t.1, u.3, (u.1, t.1, refl, u.4, t.4)),
  λ t. let u = t.4 in (t.0 ++ u.0, u.1, t.2 ∙ ap (λ (x : List ℕ). t.0 ++ x) u.2 ∙ sym (append_assoc t.0 u.0 u.1), (t.0, u.0, refl, t.3, u.3), u.4),
)

pub dist_same : (f g k : Form) → Same ((f ∣ g) then k) ((f then k) ∣ (g then k))
unfolding Same Has
dist_same f g k s = (
  λ t. ⊎_elim (λ x. inl (t.0, t.1, t.2, x, t.4)) (λ x. inr (t.0, t.1, t.2, x, t.4)) t.3,
  ⊎_elim (λ t. (t.0, t.1, t.2, inl t.3, t.4)) (λ t. (t.0, t.1, t.2, inr t.3, t.4)),
)

pub itself : (f : Form) → Same f f
unfolding Same
itself f s = (λ t. t, λ t. t)

none_same : (k : Form) → Same (none then k) none
unfolding Same Has
none_same k s = (λ t. t.3, λ t. absurd t)

pub empty-same : (k : Form) → Same (empty then k) k
unfolding Same Has
empty-same k s = (λ t. subst (Has k) (sym (t.2 ∙ ap (λ (x : List ℕ). x ++ t.1) t.3)) t.4, λ t. ([], s, refl, refl, t))

pub glue-same : (f k : Form) → Same (f then k) (glue f k)
unfolding glue
glue-same none k = none_same k
glue-same empty k = empty-same k
glue-same (byte rs) k = itself _
glue-same (f then g) k = same_via _ _ _ (assoc_same f g k) (same_via _ _ _ (then_same f _ _ (glue-same g k)) (glue-same f (glue g k)))
glue-same (f ∣ g) k = same_via _ _ _ (dist_same f g k) (or_same _ _ _ _ (glue-same f k) (glue-same g k))
glue-same (many f) k = itself _

-- any number: none, or one and any number
many_same : (f k : Form) → Same (many f then k) (k ∣ (f then (many f then k)))
unfolding Same Has Times
many_same f k s = (
  λ t. go t.0 t.1 t.2 t.3.0 t.3.1 t.4,
  ⊎_elim (λ h. ([], s, refl, (0, refl), h))
      (λ t. let u = t.4 in (t.0 ++ u.0, u.1, t.2 ∙ ap (λ (x : List ℕ). t.0 ++ x) u.2 ∙ sym (append_assoc t.0 u.0 u.1), (suc u.3.0, (t.0, u.0, refl, t.3, u.3.1)), u.4)),
)
  where
    go : (a b : List ℕ) → s ≡ a ++ b → (n : ℕ) → Times (Has f) n a → Has k b → Has (k ∣ (f then (many f then k))) s
    go a b e zero h l = inl (subst (Has k) (sym (e ∙ ap (λ (x : List ℕ). x ++ b) h)) l)
    go a b e (suc n) h l =
        inr (h.0, h.1 ++ b, e ∙ ap (λ (x : List ℕ). x ++ b) h.2 ∙ append_assoc h.0 h.1 b, h.3, (h.1, b, refl, (n, h.4), l))

pub place_many : (f k : Form) (s : List ℕ) → place (many f then k) s ≡ further_of (place k s) (place (glue f (many f then k)) s)
place_many f k s =
    place_same _ _ (same_via _ _ _ (many_same f k) (or_same _ _ _ _ (itself k) (glue-same f (many f then k)))) s ∙ place_or _ _ s
