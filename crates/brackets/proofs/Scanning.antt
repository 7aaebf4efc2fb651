-- The functions on bytes and on white space, step by step. Assumes nothing.
use Rattle.std.proofs.Common.{◌≡◌, refl, sym, ap, ◌∙◌, false, List, ℕ, zero, suc, ◌+◌, ◌-◌, ◌≤◌, ◌<◌, add-one, arith, length, get_or, drop, drop_of_length-le, drop-cons, le-ltb, ne_eqb}
use mathlib.Core.Bool.{false≢true}
use native.Mathlib.Decide.{dec_lt}
use lib.ListN.{get_or-eq_default}
use Rattle.brackets.specs.Texts.{inside}
use Rattle.meaning.specs.Tests.{Is, ◌&◌, ◌or◌, non}
use Rattle.meaning.specs.Names.{pick}
use Rattle.meaning.specs.Sentences.{white, inner}
use Rattle.brackets.specs.Reader.{skip, past}
use Rattle.brackets.specs.Meets.{Letters}

-- ---- bytes
pub white-no : (b : ℕ) → (b ≡ 32 → ⊥) → (b ≡ 9 → ⊥) → (b ≡ 10 → ⊥) → (b ≡ 13 → ⊥) → false ≡ white b
unfolding white ◌or◌
white-no b h i j k = rw (ne_eqb b 32 h, ne_eqb b 9 i, ne_eqb b 10 j, ne_eqb b 13 k)

pub inner_low : (b : ℕ) → b ≤ 32 → false ≡ inner b
unfolding inner ◌&◌
inner_low b h = rw (le-ltb 32 b h)

inner-no_41 : (b : ℕ) → b ≡ 41 → false ≡ inner b
unfolding inner ◌&◌ non
inner-no_41 b e = rw e

-- ---- scanning
pub white-inside : (s : List ℕ) (i : ℕ) → Is (white (get_or s i 0)) → i < length s
unfolding white ◌or◌
white-inside s i h = inside s i (λ e. false≢true (ap white (sym e) ∙ h))

pub inner-inside : (s : List ℕ) (i : ℕ) → Is (inner (get_or s i 0)) → i < length s
unfolding inner ◌&◌
inner-inside s i h = inside s i (λ e. false≢true (ap inner (sym e) ∙ h))

pub skip-on : (s : List ℕ) (i : ℕ) → Is (white (get_or s i 0)) → skip (drop (i + 1) s) ≡ skip (drop i s)
unfolding skip pick
skip-on s i h = rw (drop-cons s i 0 (white-inside s i h), h, add-one)

pub skip_here : (s : List ℕ) (i : ℕ) → white (get_or s i 0) ≡ false → skip (drop i s) ≡ drop i s
unfolding skip pick
skip_here s i h = go (dec_lt i (length s))
  where
    go : Dec (i < length s) → skip (drop i s) ≡ drop i s
    go (yes k) = rw (drop-cons s i 0 k, h)
    go (no k) = rw (drop_of_length-le s {i = i} (omega arith))

pub skip_end : (s : List ℕ) (i : ℕ) → length s ≤ i → skip (drop i s) ≡ drop i s
unfolding skip
skip_end s i h = rw (drop_of_length-le s {i = i} h)

pub past-on : (s : List ℕ) (i n : ℕ) → Is (inner (get_or s i 0)) → past n (drop (i + 1) s) ≡ past (suc n) (drop i s)
unfolding past pick
past-on s i n h = rw (drop-cons s i 0 (inner-inside s i h), h, add-one)

pub past_here : (s : List ℕ) (i n : ℕ) → inner (get_or s i 0) ≡ false → past n (drop i s) ≡ drop i s
unfolding past pick
past_here s i zero h = refl
past_here s i (suc n) h = go (dec_lt i (length s))
  where
    go : Dec (i < length s) → past (suc n) (drop i s) ≡ drop i s
    go (yes k) = rw (drop-cons s i 0 k, h)
    go (no k) = rw (drop_of_length-le s {i = i} (omega arith))

pub inner-end : (s : List ℕ) (i : ℕ) → length s ≤ i → inner (get_or s i 0) ≡ false
unfolding inner ◌&◌
inner-end s i h = ap inner (get_or-eq_default s 0 {n = i} h)

pub inner_not_white : (b : ℕ) → Is (inner b) → white b ≡ false
inner_not_white b h = sym (white-no b (λ e. not_low (omega arith)) (λ e. not_low (omega arith)) (λ e. not_low (omega arith)) (λ e. not_low (omega arith)))
  where
    not_low : b ≤ 32 → ⊥
    not_low k = false≢true (inner_low b k ∙ h)

pub inner_not_41 : (b : ℕ) → Is (inner b) → b ≡ 41 → ⊥
inner_not_41 b h e = false≢true (inner-no_41 b e ∙ h)

-- ---- letters
-- past n letters
past_all : (s : List ℕ) (at n : ℕ) → ((k : ℕ) → at ≤ k → k < at + n → Is (inner (get_or s k 0))) → past n (drop at s) ≡ drop (at + n) s
unfolding past
past_all s at zero h = ap (λ (j : ℕ). drop j s) (let e : at ≡ at + 0 = omega arith in e)
past_all s at (suc n) h =
    sym (past-on s at n (h at (omega arith) (omega arith)))
    ∙ past_all s (at + 1) n (λ k a b. h k (omega arith) (omega arith))
    ∙ ap (λ (j : ℕ). drop j s) (let e : at + 1 + n ≡ at + suc n = omega arith in e)

-- past m letters that none follows, where m + n would be passed
past_stop : (s : List ℕ) (at m n : ℕ) → ((k : ℕ) → at ≤ k → k < at + m → Is (inner (get_or s k 0))) → inner (get_or s (at + m) 0) ≡ false → past (m + n) (drop at s) ≡ drop (at + m) s
past_stop s at zero n h q =
    let z : at + 0 ≡ at = omega arith in
    ap (λ (j : ℕ). past j (drop at s)) (let e : 0 + n ≡ n = omega arith in e)
    ∙ past_here s at n (ap (λ (j : ℕ). inner (get_or s j 0)) (sym z) ∙ q)
    ∙ ap (λ (j : ℕ). drop j s) (sym z)
past_stop s at (suc m) n h q =
    let z : at + 1 + m ≡ at + suc m = omega arith in
    ap (λ (j : ℕ). past j (drop at s)) (let e : suc m + n ≡ suc (m + n) = omega arith in e)
    ∙ sym (past-on s at (m + n) (h at (omega arith) (omega arith)))
    ∙ past_stop s (at + 1) m n (λ k a b. h k (omega arith) (omega arith)) (ap (λ (j : ℕ). inner (get_or s j 0)) z ∙ q)
    ∙ ap (λ (j : ℕ). drop j s) z

module _ (s : List ℕ) (at e : ℕ) (L : Letters s at e) where
  pub letters-short : e - at ≤ 64 → drop e s ≡ past 64 (drop at s)
  letters-short k =
      let z : at + (e - at) ≡ e = omega (arith, L.begins) in
      sym
      (ap (λ (j : ℕ). past j (drop at s)) (let q : 64 ≡ (e - at) + (64 - (e - at)) = omega arith in q)
      ∙ past_stop s at (e - at) (64 - (e - at)) (λ j a b. L.are j a (omega (arith, z))) (ap (λ (j : ℕ). inner (get_or s j 0)) z ∙ L.stop)
      ∙ ap (λ (j : ℕ). drop j s) z)

  pub letters_long : 64 < e - at → (drop (at + 64) s ≡ past 64 (drop at s)) × Is (inner (get_or s (at + 64) 0))
  letters_long k = (sym (past_all s at 64 (λ j a b. L.are j a (omega arith))), L.are (at + 64) (omega arith) (omega arith))
