-- Labels, words and white space, as they are read and as they are written. Assumes nothing.
use Rattle.std.specs.Prelude.{◌≡◌, refl, Bool, true, false, List, [], ◌∷◌, ◌++◌, ℕ, zero, suc, ◌≤◌, ◌<◌, length, get_or, drop, ltb, eqb}
use Rattle.std.proofs.Common.{sym, ap, ◌∙◌, arith}
use Rattle.std.proofs.Math.Bool.{false≢true}
use borrow.Author.Tests.{ltb-true, eqb-true, lt-ltb, le-leb, ne_eqb}
use Rattle.meaning.specs.Tests.{Is, ◌&◌, ◌or◌, non}
use Rattle.meaning.specs.Names.{pick}
use Rattle.brackets.specs.Both.{and_l, and_r, and_in}
use Rattle.meaning.specs.Sentences.{all, white, inner, token, blank, gap}
use Rattle.brackets.specs.Reader.{skip, letters, past, blanks, empty, heads}

-- ---- bytes
or_not : (a b : Bool) → a ≡ false → b ≡ false → (a or b) ≡ false
unfolding ◌or◌
or_not a b h k = rw (h, k)

pub and_not_l : (a b : Bool) → a ≡ false → (a & b) ≡ false
unfolding ◌&◌
and_not_l a b h = rw h

pub and_not_r : (a b : Bool) → b ≡ false → (a & b) ≡ false
unfolding ◌&◌
and_not_r true b h = h
and_not_r false b h = refl

non_false : (a : Bool) → Is (non a) → a ≡ false
unfolding non
non_false true h = absurd (false≢true h)
non_false false h = refl

pub false_is : (a : Bool) → (Is a → ⊥) → a ≡ false
false_is true h = absurd (h refl)
false_is false h = refl

module _ (x : ℕ) (h : Is (inner x)) where
  pub inner-above : 32 < x
  unfolding inner
  inner-above = ltb-true 32 x (and_l _ _ h)

  pub inner_40 : eqb x 40 ≡ false
  unfolding inner
  inner_40 = non_false _ (and_l _ _ (and_r (ltb 32 x) _ h))

  pub inner_41 : eqb x 41 ≡ false
  unfolding inner
  inner_41 = non_false _ (and_r (non (eqb x 40)) _ (and_r (ltb 32 x) _ h))

  pub inner-white : white x ≡ false
  unfolding white
  inner-white =
      let a = inner-above in
      or_not _ _ (ne_eqb x 32 (λ e. omega arith)) (or_not _ _ (ne_eqb x 9 (λ e. omega arith)) (or_not _ _ (ne_eqb x 10 (λ e. omega arith)) (ne_eqb x 13 (λ e. omega arith))))

module _ (x : ℕ) (h : Is (white x)) where
  pub white-inner : inner x ≡ false
  white-inner = false_is _ (λ k. false≢true (sym (inner-white x k) ∙ h))

  pub white_40 : eqb x 40 ≡ false
  unfolding white ◌or◌
  white_40 = false_is _ (λ k. let e : x ≡ 40 = eqb-true x 40 k in false≢true (ap white (sym e) ∙ h))

  pub white_41 : eqb x 41 ≡ false
  unfolding white ◌or◌
  white_41 = false_is _ (λ k. let e : x ≡ 41 = eqb-true x 41 k in false≢true (ap white (sym e) ∙ h))

-- ---- what is read
pub letters-past : (n : ℕ) (s : List ℕ) → letters n s ++ past n s ≡ s
unfolding letters past pick
letters-past zero s = refl
letters-past (suc n) [] = refl
letters-past (suc n) (x ∷ s) = go (inner x) (letters-past n s)
  where
    go : (b : Bool) → letters n s ++ past n s ≡ s → pick b (x ∷ letters n s) [] ++ pick b (past n s) (x ∷ s) ≡ x ∷ s
    go true e = ap (λ (y : List ℕ). x ∷ y) e
    go false e = refl

pub letters-all : (n : ℕ) (s : List ℕ) → Is (all inner (letters n s))
unfolding letters all pick
letters-all zero s = refl
letters-all (suc n) [] = refl
letters-all (suc n) (x ∷ s) = go (inner x) refl (letters-all n s)
  where
    go : (b : Bool) → inner x ≡ b → Is (all inner (letters n s)) → Is (all inner (pick b (x ∷ letters n s) []))
    go true e h = and_in _ _ e h
    go false e h = refl

pub letters-few : (n : ℕ) (s : List ℕ) → length (letters n s) ≤ n
unfolding letters pick
letters-few zero s = omega arith
letters-few (suc n) [] = omega arith
letters-few (suc n) (x ∷ s) = go (inner x) (letters-few n s)
  where
    go : (b : Bool) → length (letters n s) ≤ n → length (pick b (x ∷ letters n s) []) ≤ suc n
    go true h = omega arith
    go false h = omega arith

-- where the letters stop
pub past_stops : (n : ℕ) (s : List ℕ) (x : ℕ) (v : List ℕ) → past n s ≡ x ∷ v → Is (inner x) → length (letters n s) ≡ n
unfolding letters past pick
past_stops zero s x v e h = refl
past_stops (suc n) [] x v e h = absurd (let z : 0 ≡ suc (length v) = ap length e in omega arith)
past_stops (suc n) (y ∷ s) x v e h = go (inner y) refl (past_stops n s x v) e
  where
    go : (b : Bool) → inner y ≡ b → (past n s ≡ x ∷ v → Is (inner x) → length (letters n s) ≡ n) → pick b (past n s) (y ∷ s) ≡ x ∷ v → length (pick b (y ∷ letters n s) []) ≡ suc n
    go true q k e = ap suc (k e h)
    go false q k e = absurd (let z : y ≡ x = cc in false≢true (sym q ∙ ap inner z ∙ h))

pub blanks-skip : (s : List ℕ) → blanks s ++ skip s ≡ s
unfolding blanks skip pick
blanks-skip [] = refl
blanks-skip (x ∷ s) = go (white x) (blanks-skip s)
  where
    go : (b : Bool) → blanks s ++ skip s ≡ s → pick b (x ∷ blanks s) [] ++ pick b (skip s) (x ∷ s) ≡ x ∷ s
    go true e = ap (λ (y : List ℕ). x ∷ y) e
    go false e = refl

pub blanks-all : (s : List ℕ) → Is (blank (blanks s))
unfolding blanks blank all pick
blanks-all [] = refl
blanks-all (x ∷ s) = go (white x) refl (blanks-all s)
  where
    go : (b : Bool) → white x ≡ b → Is (all white (blanks s)) → Is (all white (pick b (x ∷ blanks s) []))
    go true e h = and_in _ _ e h
    go false e h = refl

-- a text that does not begin with white space
pub record Bare (s : List ℕ) : Type 0 where
  pub not_white : (x : ℕ) (v : List ℕ) → s ≡ x ∷ v → white x ≡ false

pub skip_bare : (s : List ℕ) → Bare (skip s)
unfolding skip pick
skip_bare [] = record { not_white = λ x v e. absurd (let z : 0 ≡ suc (length v) = ap length e in omega arith) }
skip_bare (y ∷ s) = go (white y) refl (skip_bare s)
  where
    go : (b : Bool) → white y ≡ b → Bare (skip s) → Bare (pick b (skip s) (y ∷ s))
    go true q h = h
    go false q h = record { not_white = λ x v e. let z : y ≡ x = cc in ap white (sym z) ∙ q }

pub no-blanks : (s : List ℕ) → empty (blanks s) ≡ true → Bare s
unfolding blanks empty pick
no-blanks [] h = record { not_white = λ x v e. absurd (let z : 0 ≡ suc (length v) = ap length e in omega arith) }
no-blanks (y ∷ s) h = record { not_white = λ x v e. let z : y ≡ x = cc in ap white (sym z) ∙ go (white y) h }
  where
    go : (b : Bool) → empty (pick b (y ∷ blanks s) []) ≡ true → b ≡ false
    go true k = absurd (false≢true k)
    go false k = refl

pub filled : (l : List ℕ) → empty l ≡ false → 0 < length l
unfolding empty
filled [] h = absurd (false≢true (sym h))
filled (x ∷ l) h = omega arith

pub unfilled : (l : List ℕ) → empty l ≡ true → l ≡ []
unfolding empty
unfilled [] h = refl
unfilled (x ∷ l) h = absurd (false≢true h)

pub letters-token : (s : List ℕ) → empty (letters 64 s) ≡ false → Is (token (letters 64 s))
unfolding token
letters-token s h = and_in _ _ (letters-all 64 s) (and_in _ _ (lt-ltb _ _ (filled _ h)) (le-leb _ _ (letters-few 64 s)))

pub blanks-gap : (s : List ℕ) → empty (blanks s) ≡ false → Is (gap (blanks s))
unfolding gap blank
blanks-gap s h = and_in _ _ (blanks-all s) (lt-ltb _ _ (filled _ h))

pub headed : (c : ℕ) (s : List ℕ) → heads (suc c) s ≡ true → s ≡ suc c ∷ drop 1 s
unfolding heads
headed c [] h = absurd (let e : 0 ≡ suc c = eqb-true 0 (suc c) h in omega arith)
headed c (x ∷ s) h = ap (λ (y : ℕ). y ∷ s) (eqb-true x (suc c) h)

pub not_headed : (c : ℕ) (s : List ℕ) → heads c s ≡ false → (x : ℕ) (v : List ℕ) → s ≡ x ∷ v → eqb x c ≡ false
unfolding heads
not_headed c s h x v e = ap (λ (y : List ℕ). eqb (get_or y 0 0) c) (sym e) ∙ h

pub not_lettered : (n : ℕ) (s : List ℕ) → empty (letters (suc n) s) ≡ true → (x : ℕ) (v : List ℕ) → s ≡ x ∷ v → inner x ≡ false
unfolding letters empty pick
not_lettered n s h x v e = go (inner x) (ap (λ (y : List ℕ). empty (letters (suc n) y)) (sym e) ∙ h)
  where
    go : (b : Bool) → empty (pick b (x ∷ letters n v) []) ≡ true → b ≡ false
    go true k = absurd (false≢true k)
    go false k = refl
