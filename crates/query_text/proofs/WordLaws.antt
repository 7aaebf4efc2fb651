-- The words of a text, one after another. Assumes nothing.
use Rattle.std.proofs.Common.{◌≡◌, ℕ, zero, suc, ◌<◌, ◌≤◌, Bool, true, false, List, [], ◌∷◌, ◌++◌, length, get_or, take, drop, refl, sym, ap, ◌∙◌, append_assoc, append-nil, arith, length-drop, length-take}
use Rattle.meaning.specs.Texts.{pick, among}
use Rattle.meaning.specs.QueryTexts.{in_word, words, put}
use Rattle.query_text.specs.Tables.{Front, Next}

-- bytes outside words are passed over
skip : (n : ℕ) (s : List ℕ) → n ≤ length s → ((k : ℕ) → k < n → among in_word (get_or s k 0) ≡ false) → words [] s ≡ words [] (drop n s)
unfolding words pick put
skip zero s l h = refl
skip (suc n) [] l h = absurd (omega arith)
skip (suc n) (b ∷ s) l h = rw (h 0 (omega arith)) (skip n s (omega arith) (λ k d. h (suc k) (omega arith)))

-- bytes of a word are read into it
along : (n : ℕ) (w s : List ℕ) → n ≤ length s → ((k : ℕ) → k < n → among in_word (get_or s k 0) ≡ true) → words w s ≡ words (w ++ take n s) (drop n s)
unfolding words pick
along zero w s l h = ap (λ (v : List ℕ). words v s) (sym (append-nil w))
along (suc n) w [] l h = absurd (omega arith)
along (suc n) w (b ∷ s) l h =
    rw (h 0 (omega arith)) (along n (w ++ (b ∷ [])) s (omega arith) (λ k d. h (suc k) (omega arith))
    ∙ ap (λ (v : List ℕ). words v (drop n s)) (append_assoc w (b ∷ []) (take n s)))

-- a word ends where no byte of it follows
closed_by : (w s : List ℕ) → (0 < length s → ¬ (among in_word (get_or s 0 0) ≡ true)) → words w s ≡ put w (words [] s)
unfolding words pick put
closed_by w [] h = refl
closed_by w (b ∷ s) h = go (among in_word b) refl
  where
    go : (z : Bool) → among in_word b ≡ z → words w (b ∷ s) ≡ put w (words [] (b ∷ s))
    go true e = absurd (h (omega arith) e)
    go false e = rw e

put_some : (w : List ℕ) (ws : List (List ℕ)) → 0 < length w → put w ws ≡ w ∷ ws
unfolding put
put_some [] ws l = absurd (omega arith)
put_some (b ∷ w) ws l = refl

pub no_word : (s t : List ℕ) (n : ℕ) → Front s false n → t ≡ drop n s → length t ≡ 0 → words [] s ≡ []
unfolding words put
no_word s t n f h e = skip n s f.within f.alike ∙ ap (words []) (sym h ∙ go t e)
  where
    go : (t : List ℕ) → length t ≡ 0 → t ≡ []
    go [] e = refl
    go (b ∷ t) e = absurd (omega arith)

at_drop : (s : List ℕ) (n : ℕ) → get_or (drop n s) 0 0 ≡ get_or s n 0
at_drop s zero = refl
at_drop [] (suc n) = refl
at_drop (b ∷ s) (suc n) = at_drop s n

pub next_is : (s t : List ℕ) (n m : ℕ) → Front s false n → t ≡ drop n s → ¬ (length t ≡ 0) → Front t true m → Next s (take m t) (drop m t)
next_is s t n m f h l g =
    let hl = ap length h in
    let ln = length-drop n s in
    let lm = length-drop m t in
    let lt = length-take m t in
    let some : 0 < m = begun m refl in
    let full : 0 < length (take m t) = omega arith in
    record {
      all = skip n s f.within f.alike ∙ ap (words []) (sym h) ∙ along m [] t g.within g.alike
          ∙ closed_by (take m t) (drop m t) (λ d e. g.stops (omega arith) (ap (among in_word) (sym (at_drop t m)) ∙ e))
          ∙ put_some (take m t) (words [] (drop m t)) full;
      less = omega arith;
    }
  where
    clash : (z : Bool) → among in_word (get_or s n 0) ≡ z → m ≡ 0 → ⊥
    clash false d e = f.stops (let ln = length-drop n s in let hl = ap length h in omega arith) d
    clash true d e = g.stops (omega arith) (ap (λ (k : ℕ). among in_word (get_or t k 0)) e ∙ ap (λ (u : List ℕ). among in_word (get_or u 0 0)) h ∙ ap (among in_word) (at_drop s n) ∙ d)

    begun : (k : ℕ) → m ≡ k → 0 < k
    begun zero e = absurd (clash (among in_word (get_or s n 0)) refl e)
    begun (suc k) e = omega arith
