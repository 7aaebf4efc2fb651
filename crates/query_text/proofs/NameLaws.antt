-- The names in a buffer, each closed by a line feed. Assumes nothing.
use Rattle.std.proofs.Common.{◌≡◌, ℕ, zero, suc, ◌+◌, ◌-◌, ◌<◌, ◌≤◌, List, [], ◌∷◌, ◌++◌, length, get_or, take, drop, set, Bor, refl, sym, ap, ◌∙◌, arith, length-append, append_assoc, length-take, length-drop, Some, None}
use Rattle.std.proofs.lemmas.List.{drop-drop, drop-set-lt}
use Rattle.std.proofs.lemmas.Slice.{take-put_mid, drop-put_mid}
use Rattle.std.proofs.Math.Seq.{take-suc-set}
use borrow.Rule.Slice.PartMut.{put_mid, same_len_mid}
use lib.Seq.{sets}
use borrow.Author.Tests.{lt-ltb, le-ltb}
use Rattle.meaning.specs.Texts.{pick}
use Rattle.meaning.specs.QueryTexts.{closed}
use Rattle.query_text.specs.Room.{room_of}
use Rattle.query_text.proofs.PlaceOf.{words_of}

-- the bytes of the first i names
abbrev pub bytes_of : List (Bor (List ℕ)) → ℕ → List ℕ
bytes_of ns i = closed (words_of (take i ns))

abbrev pub name_at : List (Bor (List ℕ)) → ℕ → List ℕ
name_at ns i = (get_or ns i (record { ref_ptr = (0, 0); now = [] })).now

bytes_next : (ns : List (Bor (List ℕ))) (i : ℕ) → i < length ns → bytes_of ns (suc i) ≡ bytes_of ns i ++ (name_at ns i ++ (10 ∷ []))
unfolding closed
bytes_next [] i l = absurd (omega arith)
bytes_next (x ∷ ns) zero l = refl
bytes_next (x ∷ ns) (suc i) l =
    ap (λ (s : List ℕ). x.now ++ (10 ∷ s)) (bytes_next ns i (omega arith)) ∙ sym (append_assoc x.now (10 ∷ bytes_of ns i) (name_at ns i ++ (10 ∷ [])))

pub bytes_more : (ns : List (Bor (List ℕ))) (i : ℕ) → i < length ns → bytes_of ns (i + 1) ≡ bytes_of ns i ++ (name_at ns i ++ (10 ∷ []))
bytes_more ns i l = (let e : i + 1 ≡ suc i = omega arith in ap (bytes_of ns) e) ∙ bytes_next ns i l

pub bytes_grow : (ns : List (Bor (List ℕ))) (i : ℕ) → i < length ns → length (bytes_of ns (i + 1)) ≡ length (bytes_of ns i) + length (name_at ns i) + 1
bytes_grow ns i l =
    let e = ap length (bytes_more ns i l) in
    let a = length-append (bytes_of ns i) (name_at ns i ++ (10 ∷ [])) in
    let b = length-append (name_at ns i) (10 ∷ []) in
    omega arith

pub bytes_less : (ns : List (Bor (List ℕ))) (i : ℕ) → length (bytes_of ns i) ≤ length (closed (words_of ns))
unfolding closed
bytes_less ns zero = omega arith
bytes_less [] (suc i) = omega arith
bytes_less (x ∷ ns) (suc i) =
    let h = bytes_less ns i in
    let a = length-append x.now (10 ∷ bytes_of ns i) in
    let b = length-append x.now (10 ∷ closed (words_of ns)) in
    omega arith

pub bytes_all : (ns : List (Bor (List ℕ))) (i : ℕ) → length ns ≤ i → bytes_of ns i ≡ closed (words_of ns)
unfolding closed
bytes_all [] zero l = refl
bytes_all [] (suc i) l = refl
bytes_all (x ∷ ns) zero l = absurd (omega arith)
bytes_all (x ∷ ns) (suc i) l = ap (λ (s : List ℕ). x.now ++ (10 ∷ s)) (bytes_all ns i (omega arith))

pub room_short : (t have : ℕ) → have < t → None ≡ room_of t have
unfolding room_of pick
room_short t have l = rw (lt-ltb have t l)

pub room_enough : (t have n : ℕ) → t ≤ have → n ≡ t → Some n ≡ room_of t have
unfolding room_of pick
room_enough t have n l e = rw (le-ltb have t l) (ap (λ (k : ℕ). Some k) e)

-- one name and a line feed more: what stands in front of them, and what behind
module _ (b₀ b m n C : List ℕ) (at : ℕ) (inside : at + length n < length b) (p : m ≡ n) (front : take at b ≡ C) (behind : drop at b ≡ drop at b₀) where
  abbrev pub end : ℕ
  end = at + length n

  abbrev pub put : List ℕ
  put = put_mid at (end - at) b m

  pub put_length : length put ≡ length b
  put_length = same_len_mid at (end - at) b m (let e = ap length p in let x = length-take (end - at) (drop at b) in let y = length-drop at b in omega arith)

  pub write_front : take (end + 1) (set put end 10) ≡ C ++ (n ++ (10 ∷ []))
  write_front =
      let l = put_length in
      let e : end + 1 ≡ suc end = omega arith in
      let d = ap length p in
      ap (λ (k : ℕ). take k (set put end 10)) e ∙ take-suc-set put end 10 (omega arith)
      ∙ ap (λ (s : List ℕ). s ++ (10 ∷ [])) (take-put_mid at (end - at) b m end (omega arith) (omega arith))
      ∙ ap (λ (s : List ℕ). (s ++ m) ++ (10 ∷ [])) front ∙ ap (λ (s : List ℕ). (C ++ s) ++ (10 ∷ [])) p ∙ append_assoc C n (10 ∷ [])

  pub write_behind : drop (end + 1) (set put end 10) ≡ drop (end + 1) b₀
  write_behind =
      let d = ap length p in
      let e : end + 1 ≡ at + (length n + 1) = omega arith in
      drop-set-lt (end + 1) put end 10 (omega arith) ∙ drop-put_mid at (end - at) b m (end + 1) (omega arith) (omega arith) (omega arith)
      ∙ ap (λ (k : ℕ). drop k b) e ∙ sym (drop-drop (length n + 1) at b) ∙ ap (drop (length n + 1)) behind ∙ drop-drop (length n + 1) at b₀ ∙ ap (λ (k : ℕ). drop k b₀) (sym e)

-- one run of stores behind another; proofs of crate search use it
pub sets_append : (u v l : List ℕ) (i : ℕ) → sets l i (u ++ v) ≡ sets (sets l i u) (i + length u) v
sets_append [] v l i = let e : i ≡ i + 0 = omega arith in ap (λ (k : ℕ). sets l k v) e
sets_append (b ∷ u) v l i = sets_append u v (set l i b) (suc i) ∙ ap (λ (k : ℕ). sets (sets (set l i b) (suc i) u) k v) (let e : suc i + length u ≡ i + suc (length u) = omega arith in e)
