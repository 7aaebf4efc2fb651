-- Stores of lines, part after part, and the tuples of a buffer. Assumes nothing.
use mathlib.Core.Path.{◌≡◌, refl, sym, ap, subst, ◌∙◌}
use mathlib.Core.List.{List, [], ◌∷◌, ◌++◌, map, append_assoc, append-nil}
use Prim.Native.Nat.{ℕ, zero, suc, ◌+◌, ◌*◌, ◌≤◌, ◌<◌}
use native.Mathlib.Omega.{arith}
use native.Mathlib.Nat.{mul-le-mul_right, mul-le-mul_left, mul_assoc, add-mul, one-mul}
use lib.ListN.{length, get_or, set, take, drop, length-append}
use lib.Seq.{sets, length-sets, take-suc, drop-drop}
use borrow.Rule.Slice.PartMut.{put_mid}
use Rattle.std.proofs.lemmas.Slice.{put_mid-paste}
use Rattle.std.proofs.Math.Seq.{take-length}
use Rattle.std.proofs.lemmas.List.Edits.{sets-eq}
use Rattle.query_text.proofs.NameLaws.{sets_append}
use Rattle.meaning.specs.Axes.{bytes}
use Rattle.meaning.specs.Told.{number, place}
use Rattle.meaning.specs.declared.Refusal.{Refusal}
use Rattle.meaning.specs.declared.Ending.{Ending}
use Rattle.meaning.specs.Run.{decimal, spaced, line, tuple_lines, word, ending_line, refusal_line}
use Rattle.search.specs.Wrote.{Wrote, rows_spaced, chunks}

-- 1. One part behind another.
pub wrote_on : (b₀ : List ℕ) (at m m' : ℕ) (u v b₁ b₂ : List ℕ) (r₁ r₂ : ℕ) → Wrote b₀ at m u b₁ r₁ → Wrote b₁ r₁ m' v b₂ r₂ → Wrote b₀ at (m + m') (u ++ v) b₂ r₂
wrote_on b₀ at m m' u v b₁ b₂ r₁ r₂ W X = record {
  behind = let l = length-append u v in omega (arith, l, W.behind, X.behind);
  few = let l = length-append u v in omega (arith, l, W.few, X.few);
  stored = X.stored ∙ ap (λ (b : List ℕ). sets b r₁ v) W.stored ∙ ap (λ (k : ℕ). sets (sets b₀ at u) k v) W.behind ∙ sym (sets_append u v b₀ at);
}

pub wrote_within : (b₀ : List ℕ) (at m m' : ℕ) (u b₁ : List ℕ) (r : ℕ) → m ≤ m' → Wrote b₀ at m u b₁ r → Wrote b₀ at m' u b₁ r
wrote_within b₀ at m m' u b₁ r h W = record { behind = W.behind; few = omega (arith, h, W.few); stored = W.stored }

pub wrote_as : (b₀ : List ℕ) (at m : ℕ) (u v b₁ : List ℕ) (r : ℕ) → u ≡ v → Wrote b₀ at m u b₁ r → Wrote b₀ at m v b₁ r
wrote_as b₀ at m u v b₁ r e W = record { behind = W.behind ∙ ap (λ (x : List ℕ). at + length x) e; few = let l = ap length e in omega (arith, l, W.few); stored = W.stored ∙ ap (sets b₀ at) e }

pub wrote_nothing : (b : List ℕ) (at m : ℕ) → Wrote b at m [] b at
wrote_nothing b at m = record { behind = omega arith; few = omega arith; stored = refl }

pub wrote_length : (b₀ : List ℕ) (at m : ℕ) (u b₁ : List ℕ) (r : ℕ) → Wrote b₀ at m u b₁ r → length b₁ ≡ length b₀
wrote_length b₀ at m u b₁ r W = ap length W.stored ∙ length-sets b₀ at u

pub wrote_byte : (b : List ℕ) (at x : ℕ) → Wrote b at 1 (x ∷ []) (set b at x) (at + 1)
wrote_byte b at x = record { behind = refl; few = omega arith; stored = refl }

-- 2. A word, copied to its place.
pub wrote_copied : (w b new : List ℕ) (at k : ℕ) → at + length w ≤ length b → new ≡ w → length w ≡ k → Wrote b at (length w) w (put_mid at k b new) (at + length w)
wrote_copied w b new at k h e l = record {
  behind = refl;
  few = omega arith;
  stored = put_mid-paste at k b new w (length w) e l refl ∙ ap (λ (x : List ℕ). take at b ++ x ++ drop (at + length w) b) (take-length w) ∙ sym (sets-eq w b at h);
}

-- 3. The rows of a tuple.
rows_behind : (rs : List ℕ) (r : ℕ) → rows_spaced (rs ++ (r ∷ [])) ≡ rows_spaced rs ++ (32 ∷ decimal r)
unfolding rows_spaced
rows_behind [] r = ap (λ (x : List ℕ). 32 ∷ x) (append-nil (decimal r))
rows_behind (q ∷ rs) r = ap (λ (x : List ℕ). 32 ∷ (decimal q ++ x)) (rows_behind rs r) ∙ ap (λ (x : List ℕ). 32 ∷ x) (sym (append_assoc (decimal q) (rows_spaced rs) (32 ∷ decimal r)))

row_next : (rs : List ℕ) (i : ℕ) → i < length rs → rows_spaced (take (i + 1) rs) ≡ rows_spaced (take i rs) ++ (32 ∷ decimal (get_or rs i 0))
row_next rs i h =
    let f : i + 1 ≡ suc i = omega arith in
    ap (λ (k : ℕ). rows_spaced (take k rs)) f ∙ ap rows_spaced (take-suc rs i 0 h) ∙ rows_behind (take i rs) (get_or rs i 0)

rows_line : (rs : List ℕ) → rows_spaced rs ++ (10 ∷ []) ≡ spaced (map decimal rs)
unfolding rows_spaced spaced
rows_line [] = refl
rows_line (r ∷ rs) = ap (λ (x : List ℕ). 32 ∷ x) (append_assoc (decimal r) (rows_spaced rs) (10 ∷ []) ∙ ap (λ (x : List ℕ). decimal r ++ x) (rows_line rs))

pub rows_start : (b : List ℕ) (at : ℕ) (rs : List ℕ) → Wrote b at (0 * 21) (rows_spaced (take 0 rs)) b at
unfolding rows_spaced
rows_start b at rs = wrote_nothing b at (0 * 21)

pub rows_more : (b₀ : List ℕ) (at : ℕ) (rs : List ℕ) (i : ℕ) (b₁ b₂ : List ℕ) (r₁ r₂ : ℕ) → i < length rs
    → Wrote b₀ at (i * 21) (rows_spaced (take i rs)) b₁ r₁ → Wrote b₁ r₁ 21 (32 ∷ decimal (get_or rs i 0)) b₂ r₂
    → Wrote b₀ at ((i + 1) * 21) (rows_spaced (take (i + 1) rs)) b₂ r₂
rows_more b₀ at rs i b₁ b₂ r₁ r₂ h W X = wrote_within b₀ at (i * 21 + 21) ((i + 1) * 21) _ b₂ r₂ (omega arith) (wrote_as b₀ at (i * 21 + 21) _ _ b₂ r₂ (sym (row_next rs i h)) (wrote_on b₀ at (i * 21) 21 _ _ b₁ b₂ r₁ r₂ W X))

pub rows_all : (b₀ : List ℕ) (at : ℕ) (rs : List ℕ) (i : ℕ) (b₁ : List ℕ) (r₁ : ℕ) → i ≡ length rs → Wrote b₀ at (i * 21) (rows_spaced (take i rs)) b₁ r₁ → Wrote b₀ at (length rs * 21) (rows_spaced rs) b₁ r₁
rows_all b₀ at rs i b₁ r₁ e W = wrote_as b₀ at (length rs * 21) _ _ b₁ r₁ (ap rows_spaced (take-length rs)) (subst (λ (k : ℕ). Wrote b₀ at (k * 21) (rows_spaced (take k rs)) b₁ r₁) e W)

-- j of n parts, each of size l, and one more
pub one_more : (j n l : ℕ) → j < n → j * l + l ≤ n * l
one_more j n l h =
    let e : (j + 1) * l ≡ j * l + l = add-mul j 1 l ∙ ap (λ (k : ℕ). j * l + k) (one-mul l) in
    omega (arith, e, mul-le-mul_right l (let m : j + 1 ≤ n = omega arith in m))

pub tuple_line : (k : ℕ) (rs : List ℕ) → decimal k ++ (rows_spaced rs ++ (10 ∷ [])) ≡ line k (map decimal rs)
unfolding line
tuple_line k rs = ap (λ (x : List ℕ). decimal k ++ x) (rows_line rs)

-- 4. Tuple after tuple.
chunk_next : (k n : ℕ) (s : List ℕ) → chunks k (suc n) s ≡ chunks k n s ++ (take k (drop (n * k) s) ∷ [])
unfolding chunks
chunk_next k zero s = let e : 0 * k ≡ 0 = omega arith in ap (λ (i : ℕ). take k (drop i s) ∷ []) (sym e)
chunk_next k (suc n) s =
    ap (λ (x : List (List ℕ)). take k s ∷ x) (chunk_next k n (drop k s))
    ∙ ap (λ (x : List ℕ). take k s ∷ (chunks k n (drop k s) ++ (take k x ∷ []))) (drop-drop (n * k) k s ∙ ap (λ (i : ℕ). drop i s) (let e : k + n * k ≡ suc n * k = omega arith in e))

lines_behind : (k : ℕ) (ts : List (List ℕ)) (t : List ℕ) → tuple_lines k (ts ++ (t ∷ [])) ≡ tuple_lines k ts ++ line k (map decimal t)
unfolding tuple_lines
lines_behind k [] t = append-nil (line k (map decimal t))
lines_behind k (s ∷ ts) t = ap (λ (x : List ℕ). line k (map decimal s) ++ x) (lines_behind k ts t) ∙ sym (append_assoc (line k (map decimal s)) (tuple_lines k ts) (line k (map decimal t)))

pub tuple_next : (s k j : ℕ) (found : List ℕ) → tuple_lines s (chunks k (j + 1) found) ≡ tuple_lines s (chunks k j found) ++ line s (map decimal (take k (drop (j * k) found)))
tuple_next s k j found =
    let f : j + 1 ≡ suc j = omega arith in
    ap (λ (i : ℕ). tuple_lines s (chunks k i found)) f ∙ ap (tuple_lines s) (chunk_next k j found) ∙ lines_behind s (chunks k j found) (take k (drop (j * k) found))

pub tuples-start : (s k : ℕ) (found b : List ℕ) → Wrote b 0 (0 * ((k + 1) * 21)) (tuple_lines s (chunks k 0 found)) b 0
unfolding chunks tuple_lines
tuples-start s k found b = wrote_nothing b 0 (0 * ((k + 1) * 21))

pub tuples-more : (s k j : ℕ) (found b₀ b₁ b₂ : List ℕ) (r₁ r₂ : ℕ) → Wrote b₀ 0 (j * ((k + 1) * 21)) (tuple_lines s (chunks k j found)) b₁ r₁
    → Wrote b₁ r₁ ((k + 1) * 21) (line s (map decimal (take k (drop (j * k) found)))) b₂ r₂ → Wrote b₀ 0 ((j + 1) * ((k + 1) * 21)) (tuple_lines s (chunks k (j + 1) found)) b₂ r₂
tuples-more s k j found b₀ b₁ b₂ r₁ r₂ W X =
    let l : ℕ = (k + 1) * 21 in
    let e : (j + 1) * l ≡ j * l + l = add-mul j 1 l ∙ ap (λ (i : ℕ). j * l + i) (one-mul l) in
    wrote_within b₀ 0 (j * l + l) ((j + 1) * l) _ b₂ r₂ (omega (arith, e)) (wrote_as b₀ 0 (j * l + l) _ _ b₂ r₂ (sym (tuple_next s k j found)) (wrote_on b₀ 0 (j * l) l _ _ b₁ b₂ r₁ r₂ W X))

-- 5. Whole lines, from their parts.
pub tuple_wrote : (s k at : ℕ) (rs b₀ b₁ b₂ b₃ : List ℕ) (r₁ r₂ r₃ : ℕ) → Wrote b₀ at 20 (decimal s) b₁ r₁ → Wrote b₁ r₁ (k * 21) (rows_spaced rs) b₂ r₂ → Wrote b₂ r₂ 1 (10 ∷ []) b₃ r₃
    → Wrote b₀ at ((k + 1) * 21) (line s (map decimal rs)) b₃ r₃
tuple_wrote s k at rs b₀ b₁ b₂ b₃ r₁ r₂ r₃ W X Y =
    wrote_within b₀ at (20 + (k * 21 + 1)) ((k + 1) * 21) _ b₃ r₃ (omega arith) (wrote_as b₀ at (20 + (k * 21 + 1)) _ _ b₃ r₃ (tuple_line s rs) (wrote_on b₀ at 20 (k * 21 + 1) _ _ b₁ b₃ r₁ r₃ W (wrote_on b₁ r₁ (k * 21) 1 _ _ b₂ b₃ r₂ r₃ X Y)))

-- the sentence number, a word, two numbers and the line feed
words_wrote : (at m : ℕ) (d w u v b₀ b₁ b₂ b₃ b₄ b₅ : List ℕ) (r₁ r₂ r₃ r₄ r₅ : ℕ) → Wrote b₀ at 20 d b₁ r₁ → Wrote b₁ r₁ m (32 ∷ w) b₂ r₂ → Wrote b₂ r₂ 21 (32 ∷ u) b₃ r₃ → Wrote b₃ r₃ 21 (32 ∷ v) b₄ r₄ → Wrote b₄ r₄ 1 (10 ∷ []) b₅ r₅
    → Wrote b₀ at (20 + (m + (21 + (21 + 1)))) (d ++ spaced (w ∷ u ∷ v ∷ [])) b₅ r₅
unfolding spaced
words_wrote at m d w u v b₀ b₁ b₂ b₃ b₄ b₅ r₁ r₂ r₃ r₄ r₅ A B C D E =
    wrote_on b₀ at 20 (m + (21 + (21 + 1))) _ _ b₁ b₅ r₁ r₅ A (wrote_on b₁ r₁ m (21 + (21 + 1)) _ _ b₂ b₅ r₂ r₅ B (wrote_on b₂ r₂ 21 (21 + 1) _ _ b₃ b₅ r₃ r₅ C (wrote_on b₃ r₃ 21 1 _ _ b₄ b₅ r₄ r₅ D E)))

pub ending_wrote : (s at : ℕ) (e : Ending) (tuples used : ℕ) (b₀ b₁ b₂ b₃ b₄ b₅ : List ℕ) (r₁ r₂ r₃ r₄ r₅ : ℕ) → Wrote b₀ at 20 (decimal s) b₁ r₁ → Wrote b₁ r₁ 9 (32 ∷ word e) b₂ r₂ → Wrote b₂ r₂ 21 (32 ∷ decimal tuples) b₃ r₃
    → Wrote b₃ r₃ 21 (32 ∷ decimal used) b₄ r₄ → Wrote b₄ r₄ 1 (10 ∷ []) b₅ r₅ → Wrote b₀ at 72 (ending_line s e tuples used) b₅ r₅
unfolding ending_line line
ending_wrote s at e tuples used b₀ b₁ b₂ b₃ b₄ b₅ r₁ r₂ r₃ r₄ r₅ A B C D E = words_wrote at 9 (decimal s) (word e) (decimal tuples) (decimal used) b₀ b₁ b₂ b₃ b₄ b₅ r₁ r₂ r₃ r₄ r₅ A B C D E

pub refusal_wrote : (s : ℕ) (r : Refusal) (n at : ℕ) (b₀ b₁ b₂ b₃ b₄ b₅ : List ℕ) (r₁ r₂ r₃ r₄ r₅ : ℕ) → n ≡ number r → at ≡ place r → Wrote b₀ 0 20 (decimal s) b₁ r₁ → Wrote b₁ r₁ 8 (32 ∷ bytes "refused") b₂ r₂
    → Wrote b₂ r₂ 21 (32 ∷ decimal n) b₃ r₃ → Wrote b₃ r₃ 21 (32 ∷ decimal at) b₄ r₄ → Wrote b₄ r₄ 1 (10 ∷ []) b₅ r₅ → Wrote b₀ 0 72 (refusal_line s r) b₅ r₅
unfolding refusal_line line
refusal_wrote s r n at b₀ b₁ b₂ b₃ b₄ b₅ r₁ r₂ r₃ r₄ r₅ e f A B C D E =
    let c = wrote_as b₂ r₂ 21 _ _ b₃ r₃ (ap (λ (x : ℕ). 32 ∷ decimal x) e) C in
    let d = wrote_as b₃ r₃ 21 _ _ b₄ r₄ (ap (λ (x : ℕ). 32 ∷ decimal x) f) D in
    wrote_within b₀ 0 71 72 _ b₅ r₅ (omega arith) (words_wrote 0 8 (decimal s) (bytes "refused") (decimal (number r)) (decimal (place r)) b₀ b₁ b₂ b₃ b₄ b₅ r₁ r₂ r₃ r₄ r₅ A B c d E)

-- the lines of tuples of k rows: every row and the sentence number of every line take at most 21 bytes
pub lines_most : (n k : ℕ) → 1 ≤ k → n * k ≤ 4096 → n * ((k + 1) * 21) ≤ 172032
lines_most n k h m =
    let a : (k + 1) * 21 ≤ k * 42 = omega arith in
    let b = mul-le-mul_left n a in
    let c = mul_assoc n k 42 in
    omega (arith, b, c, m)
