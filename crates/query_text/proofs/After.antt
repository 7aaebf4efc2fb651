-- What may follow a byte, and the place: that they are what they say. Assumes nothing.
use mathlib.Core.Path.{◌≡◌, refl, sym, ap, ◌∙◌, subst}
use mathlib.Core.Bool.{Bool, true, false, false≢true}
use mathlib.Core.Logic.{◌⊎◌, inl, inr, ⊎_elim}
use mathlib.Core.List.{List, [], ◌∷◌, ◌++◌}
use Prim.Native.Nat.{ℕ, zero, suc}
use native.Mathlib.Omega.{arith}
use lib.ListN.{length}
use borrow.Author.Tests.{leb-true, le-leb}
use Rattle.meaning.specs.Tests.{Is, ◌&◌, ◌or◌}
use Rattle.meaning.specs.Texts.{pick, Range, ◌to◌, within, among, Form, none, empty, byte, ◌then◌, ◌∣◌, many, Has, Times}
use Rattle.meaning.specs.Places.{ends, some_byte, alive, is_none, is_empty, cat, alt, after}

-- two tests
pub both : (a b : Bool) → Is a → Is b → Is (a & b)
unfolding ◌&◌
both a b p q = rw (p, q)

pub both_l : (a b : Bool) → Is (a & b) → Is a
unfolding ◌&◌
both_l true b h = refl
both_l false b h = absurd (false≢true h)

pub both_r : (a b : Bool) → Is (a & b) → Is b
unfolding ◌&◌
both_r true b h = h
both_r false b h = absurd (false≢true h)

pub first : (a b : Bool) → Is a → Is (a or b)
unfolding ◌or◌
first a b h = rw h

pub second : (a b : Bool) → Is b → Is (a or b)
unfolding ◌or◌
second true b h = refl
second false b h = h

pub either : (a b : Bool) → Is (a or b) → Is a ⊎ Is b
unfolding ◌or◌
either true b h = inl refl
either false b h = inr h

-- a byte in front
pub no_byte : (b : ℕ) (s : List ℕ) → b ∷ s ≡ [] → ⊥
no_byte b s e = let q : suc (length s) ≡ 0 = ap length e in omega (arith, q)

pub same_byte : (b c : ℕ) (s t : List ℕ) → b ∷ s ≡ c ∷ t → (b ≡ c) × (s ≡ t)
same_byte b c s t e = (cc, cc)

-- `cat` and `alt` are `then` and `or`
pub cat_in : (f g : Form) (s : List ℕ) → Has (f then g) s → Has (cat f g) s
unfolding cat is_none is_empty pick Has
cat_in none g s h = absurd h.3
cat_in empty g s h = subst (Has g) (sym (h.2 ∙ ap (λ (a : List ℕ). a ++ h.1) h.3)) h.4
cat_in (byte rs) g s h = h
cat_in (f then f') g s h = h
cat_in (f ∣ f') g s h = h
cat_in (many f) g s h = h

pub cat_out : (f g : Form) (s : List ℕ) → Has (cat f g) s → Has (f then g) s
unfolding cat is_none is_empty pick Has
cat_out none g s h = absurd h
cat_out empty g s h = ([], s, refl, refl, h)
cat_out (byte rs) g s h = h
cat_out (f then f') g s h = h
cat_out (f ∣ f') g s h = h
cat_out (many f) g s h = h

nothing : (f : Form) (s : List ℕ) → Is (is_none f) → Has f s → ⊥
unfolding is_none Has
nothing none s e h = h
nothing empty s e h = false≢true e
nothing (byte rs) s e h = false≢true e
nothing (f then g) s e h = false≢true e
nothing (f ∣ g) s e h = false≢true e
nothing (many f) s e h = false≢true e

pub alt_in : (f g : Form) (s : List ℕ) → Has f s ⊎ Has g s → Has (alt f g) s
unfolding alt pick Has
alt_in f g s h = go (is_none f) (is_none g) refl refl
  where
    go : (x y : Bool) → is_none f ≡ x → is_none g ≡ y → Has (pick x g (pick y f (f ∣ g))) s
    go true y e d = ⊎_elim (λ k. absurd (nothing f s e k)) (λ k. k) h
    go false true e d = ⊎_elim (λ k. k) (λ k. absurd (nothing g s d k)) h
    go false false e d = h

pub alt_out : (f g : Form) (s : List ℕ) → Has (alt f g) s → Has f s ⊎ Has g s
unfolding alt pick Has
alt_out f g s = go (is_none f) (is_none g)
  where
    go : (x y : Bool) → Has (pick x g (pick y f (f ∣ g))) s → Has f s ⊎ Has g s
    go true y h = inr h
    go false true h = inl h
    go false false h = h

-- the empty text
pub ends_in : (f : Form) (s : List ℕ) → s ≡ [] → Has f s → Is (ends f)
unfolding ends Has
ends_in none s e h = absurd h
ends_in empty s e h = refl
ends_in (byte rs) s e h = absurd (no_byte h.0 [] (sym h.1 ∙ e))
ends_in (f then g) s e h = go h.0 h.1 (sym h.2 ∙ e) (ends_in f h.0) (ends_in g h.1) h.3 h.4
  where
    go : (a b : List ℕ) → a ++ b ≡ [] → (a ≡ [] → Has f a → Is (ends f)) → (b ≡ [] → Has g b → Is (ends g)) → Has f a → Has g b → Is (ends f & ends g)
    go [] b q p r k l = both _ _ (p refl k) (r q l)
    go (x ∷ a) b q p r k l = absurd (no_byte x (a ++ b) q)
ends_in (f ∣ g) s e h = ⊎_elim (λ k. first _ _ (ends_in f s e k)) (λ k. second _ _ (ends_in g s e k)) h
ends_in (many f) s e h = refl

pub ends_out : (f : Form) → Is (ends f) → Has f []
unfolding ends Has Times
ends_out none h = absurd (false≢true h)
ends_out empty h = refl
ends_out (byte rs) h = absurd (false≢true h)
ends_out (f then g) h = ([], [], refl, ends_out f (both_l _ _ h), ends_out g (both_r _ _ h))
ends_out (f ∣ g) h = ⊎_elim (λ k. inl (ends_out f k)) (λ k. inr (ends_out g k)) (either _ _ h)
ends_out (many f) h = (0, refl)

-- some text
some_in : (rs : List Range) (b : ℕ) → Is (among rs b) → Is (some_byte rs)
unfolding some_byte among within
some_in [] b h = h
some_in ((a to z) ∷ rs) b h =
    ⊎_elim
    (λ k. first _ _ (le-leb a z (let p = leb-true a b (both_l _ _ k) in let q = leb-true b z (both_r _ _ k) in omega arith)))
    (λ k. second _ _ (some_in rs b k))
    (either _ _ h)

some_out : (rs : List Range) → Is (some_byte rs) → (b : ℕ) × Is (among rs b)
unfolding some_byte among within
some_out [] h = absurd (false≢true h)
some_out ((a to z) ∷ rs) h =
    ⊎_elim
    (λ k. (a, first _ _ (both _ _ (le-leb a a (omega arith)) k)))
    (λ k. let t = some_out rs k in (t.0, second _ _ t.1))
    (either _ _ h)

pub alive_in : (f : Form) (s : List ℕ) → Has f s → Is (alive f)
unfolding alive Has
alive_in none s h = absurd h
alive_in empty s h = refl
alive_in (byte rs) s h = some_in rs h.0 h.2
alive_in (f then g) s h = both _ _ (alive_in f h.0 h.3) (alive_in g h.1 h.4)
alive_in (f ∣ g) s h = ⊎_elim (λ k. first _ _ (alive_in f s k)) (λ k. second _ _ (alive_in g s k)) h
alive_in (many f) s h = refl

pub alive_out : (f : Form) → Is (alive f) → (s : List ℕ) × Has f s
unfolding alive Has Times
alive_out none h = absurd (false≢true h)
alive_out empty h = ([], refl)
alive_out (byte rs) h = let t = some_out rs h in (t.0 ∷ [], (t.0, refl, t.1))
alive_out (f then g) h = let t = alive_out f (both_l _ _ h) in let u = alive_out g (both_r _ _ h) in (t.0 ++ u.0, (t.0, u.0, refl, t.1, u.1))
alive_out (f ∣ g) h = ⊎_elim (λ k. let t = alive_out f k in (t.0, inl t.1)) (λ k. let t = alive_out g k in (t.0, inr t.1)) (either _ _ h)
alive_out (many f) h = ([], (0, refl))

-- what may follow a byte
pub times_in : (f : Form) (b : ℕ) (n : ℕ) (t s : List ℕ) → t ≡ b ∷ s → Times (Has f) n t → (a : List ℕ) × (c : List ℕ) × (s ≡ a ++ c) × Has f (b ∷ a) × Has (many f) c
unfolding Times Has
times_in f b zero t s e h = absurd (no_byte b s (sym e ∙ h))
times_in f b (suc n) t s e h = go h.0 h.1 (sym h.2 ∙ e) h.3 h.4 (times_in f b n h.1 s)
  where
    go : (a c : List ℕ) → a ++ c ≡ b ∷ s → Has f a → Times (Has f) n c → (c ≡ b ∷ s → Times (Has f) n c → (a : List ℕ) × (c : List ℕ) × (s ≡ a ++ c) × Has f (b ∷ a) × Has (many f) c)
        → (a : List ℕ) × (c : List ℕ) × (s ≡ a ++ c) × Has f (b ∷ a) × Has (many f) c
    go [] c q k l r = r q l
    go (x ∷ a) c q k l r = let y = same_byte x b (a ++ c) s q in (a, c, sym y.1, subst (λ (z : ℕ). Has f (z ∷ a)) y.0 k, (n, l))

pub after_in : (f : Form) (b : ℕ) (t s : List ℕ) → t ≡ b ∷ s → Has f t → Has (after b f) s
unfolding after Has pick
after_in none b t s e h = h
after_in empty b t s e h = absurd (no_byte b s (sym e ∙ h))
after_in (byte rs) b t s e h =
    let y = same_byte h.0 b [] s (sym h.1 ∙ e) in
    let a : among rs b ≡ true = ap (among rs) (sym y.0) ∙ h.2 in
    rw a (sym y.1)
after_in (f then g) b t s e h = go h.0 h.1 (sym h.2 ∙ e) h.3 h.4 (λ t s. after_in f b t s) (λ t s. after_in g b t s)
  where
    F : Form
    F = cat (after b f) g

    front : (z : Bool) → Has F s → Has (pick z (alt F (after b g)) F) s
    front true k = alt_in _ _ s (inl k)
    front false k = k

    go : (a c : List ℕ) → a ++ c ≡ b ∷ s → Has f a → Has g c
        → ((t s : List ℕ) → t ≡ b ∷ s → Has f t → Has (after b f) s) → ((t s : List ℕ) → t ≡ b ∷ s → Has g t → Has (after b g) s)
        → Has (pick (ends f) (alt F (after b g)) F) s
    go [] c q k l p r = rw (ends_in f [] refl k) (alt_in _ _ s (inr (r c s q l)))
    go (x ∷ a) c q k l p r =
        let y = same_byte x b (a ++ c) s q in
        front (ends f) (cat_in _ _ s (a, c, sym y.1, p (x ∷ a) a (ap (λ (z : ℕ). z ∷ a) y.0) k, l))
after_in (f ∣ g) b t s e h = alt_in _ _ s (⊎_elim (λ k. inl (after_in f b t s e k)) (λ k. inr (after_in g b t s e k)) h)
after_in (many f) b t s e h =
    let y = times_in f b h.0 t s e h.1 in
    cat_in _ _ s (y.0, y.1, y.2, after_in f b (b ∷ y.0) y.0 refl y.3, y.4)

pub after_out : (f : Form) (b : ℕ) (s : List ℕ) → Has (after b f) s → Has f (b ∷ s)
unfolding after Has pick Times
after_out none b s h = h
after_out empty b s h = absurd h
after_out (byte rs) b s h = go (among rs b) refl h
  where
    go : (z : Bool) → among rs b ≡ z → Has (pick z empty none) s → (c : ℕ) × (b ∷ s ≡ c ∷ []) × Is (among rs c)
    go true e h = (b, ap (λ (l : List ℕ). b ∷ l) h, e)
    go false e h = absurd h
after_out (f then g) b s h = go (ends f) refl (after_out f b) (after_out g b) h
  where
    F : Form
    F = cat (after b f) g

    front : ((s : List ℕ) → Has (after b f) s → Has f (b ∷ s)) → Has F s → Has (f then g) (b ∷ s)
    front p h = let y = cat_out _ _ s h in (b ∷ y.0, y.1, ap (λ (l : List ℕ). b ∷ l) y.2, p y.0 y.3, y.4)

    go : (z : Bool) → ends f ≡ z → ((s : List ℕ) → Has (after b f) s → Has f (b ∷ s)) → ((s : List ℕ) → Has (after b g) s → Has g (b ∷ s))
        → Has (pick z (alt F (after b g)) F) s → Has (f then g) (b ∷ s)
    go true e p r h = ⊎_elim (front p) (λ k. ([], b ∷ s, refl, ends_out f e, r s k)) (alt_out _ _ s h)
    go false e p r h = front p h
after_out (f ∣ g) b s h = ⊎_elim (λ k. inl (after_out f b s k)) (λ k. inr (after_out g b s k)) (alt_out _ _ s h)
after_out (many f) b s h =
    let y = cat_out _ _ s h in
    (suc y.4.0, (b ∷ y.0, y.1, ap (λ (l : List ℕ). b ∷ l) y.2, after_out f b y.0 y.3, y.4.1))
