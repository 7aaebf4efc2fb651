-- A text is written by one sentence only: two legal sentences with the same text, whatever follows, are the same. Assumes nothing.
use Rattle.std.specs.Prelude.{◌≡◌, refl, true, false, List, [], ◌∷◌, ◌++◌, ℕ, zero, suc, ◌≤◌, length, get_or, drop, ltb}
use Rattle.std.proofs.Common.{sym, ap, ap₂, ◌∙◌, append_assoc, arith}
use Rattle.std.proofs.lemmas.Bool.{false≢true}
use Rattle.meaning.specs.Tests.{Is, ◌&◌, ◌or◌, non}
use Rattle.meaning.specs.Names.{pick}
use Rattle.meaning.specs.Sentences.{all, white, inner, token, blank, gap, Tree, Trees, leaf, node, one, more, write, writes, good, goods, Sentence, plain, bare, spell, legal}
use Rattle.brackets.specs.Both.{and_l, and_r}
use Rattle.brackets.specs.Reader.{skip, letters, past, blanks}
use Rattle.brackets.specs.Pieces.{inner-white, white-inner}
use Rattle.brackets.specs.Machine.{token-all, token-some, token-few, opened, openeds}
use Rattle.brackets.specs.Right.{write_on}

pub spell-on : (x : Sentence) (r : List ℕ) → spell x [] ++ r ≡ spell x r
unfolding spell
spell-on (plain w t) r = append_assoc w (write t []) r ∙ ap (λ (y : List ℕ). w ++ y) (write_on t [] r)
spell-on (bare w v t a) r =
    append_assoc w (40 ∷ (v ++ write t (a ++ 41 ∷ []))) r
    ∙ ap (λ (y : List ℕ). w ++ 40 ∷ y) (append_assoc v (write t (a ++ 41 ∷ [])) r ∙ ap (λ (y : List ℕ). v ++ y) (write_on t (a ++ 41 ∷ []) r ∙ ap (write t) (append_assoc a (41 ∷ []) r)))

-- ---- one tree to a text
pub letters_of : (n : ℕ) (l z : List ℕ) → Is (all inner l) → length l ≤ n → inner (get_or z 0 0) ≡ false → (letters n (l ++ z) ≡ l) × (past n (l ++ z) ≡ z)
unfolding letters past pick all
letters_of zero [] z h m k = (refl, refl)
letters_of zero (x ∷ l) z h m k = absurd (omega arith)
letters_of (suc n) [] [] h m k = (refl, refl)
letters_of (suc n) [] (y ∷ z) h m k = rw k (refl, refl)
letters_of (suc n) (x ∷ l) z h m k =
    let e = letters_of n l z (and_r (inner x) _ h) (omega arith) k in
    rw (and_l (inner x) _ h) (ap (λ (q : List ℕ). x ∷ q) e.0, e.1)

pub blanks_of : (a z : List ℕ) → Is (blank a) → white (get_or z 0 0) ≡ false → (blanks (a ++ z) ≡ a) × (skip (a ++ z) ≡ z)
unfolding blanks skip pick blank all
blanks_of [] [] h k = (refl, refl)
blanks_of [] (y ∷ z) h k = rw k (refl, refl)
blanks_of (x ∷ a) z h k =
    let e = blanks_of a z (and_r (white x) _ h) k in
    rw (and_l (white x) _ h) (ap (λ (q : List ℕ). x ∷ q) e.0, e.1)

gap-blank : (a : List ℕ) → Is (gap a) → Is (blank a)
unfolding gap blank
gap-blank a h = and_l _ _ h

gap_first : (a z : List ℕ) → Is (gap a) → Is (white (get_or (a ++ z) 0 0))
unfolding gap all
gap_first [] z h = absurd (false≢true (and_r true (ltb 0 0) h))
gap_first (x ∷ a) z h = and_l (white x) (all white a) (and_l _ _ h)

token_first : (w z : List ℕ) → Is (token w) → Is (inner (get_or (w ++ z) 0 0))
unfolding all
token_first [] z h = absurd (let n = token-some [] h in omega arith)
token_first (x ∷ w) z h = and_l (inner x) (all inner w) (token-all (x ∷ w) h)

-- white space and then no white space
cut_white : (a z a' z' : List ℕ) → Is (blank a) → Is (blank a') → white (get_or z 0 0) ≡ false → white (get_or z' 0 0) ≡ false → a ++ z ≡ a' ++ z' → (a ≡ a') × (z ≡ z')
cut_white a z a' z' h h' k k' e =
    (sym (blanks_of a z h k).0 ∙ ap blanks e ∙ (blanks_of a' z' h' k').0, sym (blanks_of a z h k).1 ∙ ap skip e ∙ (blanks_of a' z' h' k').1)

cut_token : (l z l' z' : List ℕ) → Is (token l) → Is (token l') → inner (get_or z 0 0) ≡ false → inner (get_or z' 0 0) ≡ false → l ++ z ≡ l' ++ z' → (l ≡ l') × (z ≡ z')
cut_token l z l' z' h h' k k' e =
    let f = letters_of 64 l z (token-all l h) (token-few l h) k in
    let f' = letters_of 64 l' z' (token-all l' h') (token-few l' h') k' in
    (sym f.0 ∙ ap (letters 64) e ∙ f'.0, sym f.1 ∙ ap (past 64) e ∙ f'.1)

-- a label, its white space, and a body that does not begin with white space
cut_head : (l a y l' a' y' : List ℕ) → Is (token l) → Is (token l') → Is (gap a) → Is (gap a') → white (get_or y 0 0) ≡ false → white (get_or y' 0 0) ≡ false
    → l ++ (a ++ y) ≡ l' ++ (a' ++ y') → (l ≡ l') × (a ≡ a') × (y ≡ y')
cut_head l a y l' a' y' h h' g g' k k' e =
    let c = cut_token l (a ++ y) l' (a' ++ y') h h' (white-inner _ (gap_first a y g)) (white-inner _ (gap_first a' y' g')) e in
    let d = cut_white a y a' y' (gap-blank a g) (gap-blank a' g') k k' c.1 in
    (c.0, d.0, d.1)

pub white_of_40 : (u : List ℕ) → u ≡ 40 ∷ drop 1 u → white (get_or u 0 0) ≡ false
unfolding white ◌or◌
white_of_40 u e = ap (λ (y : List ℕ). white (get_or y 0 0)) e

white_41 : white 41 ≡ false
unfolding white ◌or◌
white_41 = refl

inner_of_rest : (a r : List ℕ) → Is (blank a) → inner (get_or (a ++ 41 ∷ r) 0 0) ≡ false
unfolding blank all inner ◌&◌ non
inner_of_rest [] r h = refl
inner_of_rest (x ∷ a) r h = white-inner x (and_l (white x) (all white a) h)

word_not_40 : (w z u : List ℕ) → Is (token w) → u ≡ 40 ∷ drop 1 u → w ++ z ≡ u → ⊥
unfolding inner ◌&◌ non
word_not_40 w z u h e k =
    let i : Is (inner (get_or u 0 0)) = ap (λ (y : List ℕ). inner (get_or y 0 0)) (sym k) ∙ token_first w z h in
    false≢true (ap (λ (y : List ℕ). inner (get_or y 0 0)) (sym e) ∙ i)

not_41_40 : (r u : List ℕ) → u ≡ 40 ∷ drop 1 u → 41 ∷ r ≡ u → ⊥
not_41_40 r u e k = let q : ◌≡◌ {A = ℕ} 41 40 = ap (λ (y : List ℕ). get_or y 0 0) (k ∙ e) in omega arith

mutual
  unfolding write good

  pub one_tree : (t t' : Tree) (r r' : List ℕ) → Is (good t) → Is (good t') → write t r ≡ write t' r' → (t ≡ t') × (r ≡ r')
  one_tree (leaf l a w c) (leaf l' a' w' c') r r' h h' e =
      let h₂ = and_r (token l) _ h in
      let h₂' = and_r (token l') _ h' in
      let h₃ = and_r (gap a) _ h₂ in
      let h₃' = and_r (gap a') _ h₂' in
      let d = cut_head l a (w ++ (c ++ 41 ∷ r)) l' a' (w' ++ (c' ++ 41 ∷ r')) (and_l _ _ h) (and_l _ _ h') (and_l _ _ h₂) (and_l _ _ h₂')
      (inner-white _ (token_first w (c ++ 41 ∷ r) (and_l _ _ h₃))) (inner-white _ (token_first w' (c' ++ 41 ∷ r') (and_l _ _ h₃'))) (ap (drop 1) e) in
      let f = cut_token w (c ++ 41 ∷ r) w' (c' ++ 41 ∷ r') (and_l _ _ h₃) (and_l _ _ h₃') (inner_of_rest c r (and_r (token w) _ h₃)) (inner_of_rest c' r' (and_r (token w') _ h₃')) d.2 in
      let g = cut_white c (41 ∷ r) c' (41 ∷ r') (and_r (token w) _ h₃) (and_r (token w') _ h₃') white_41 white_41 f.1 in
      (ap₂ (λ (p q : List ℕ). leaf p q w c) d.0 d.1 ∙ ap₂ (λ (p q : List ℕ). leaf l' a' p q) f.0 g.0, ap (drop 1) g.1)
  one_tree (leaf l a w c) (node l' a' ts') r r' h h' e =
      let h₂ = and_r (token l) _ h in
      let h₂' = and_r (token l') _ h' in
      let h₃ = and_r (gap a) _ h₂ in
      let d = cut_head l a (w ++ (c ++ 41 ∷ r)) l' a' (writes ts' (41 ∷ r')) (and_l _ _ h) (and_l _ _ h') (and_l _ _ h₂) (and_l _ _ h₂')
      (inner-white _ (token_first w (c ++ 41 ∷ r) (and_l _ _ h₃))) (white_of_40 _ (openeds ts' (41 ∷ r'))) (ap (drop 1) e) in
      absurd (word_not_40 w (c ++ 41 ∷ r) _ (and_l _ _ h₃) (openeds ts' (41 ∷ r')) d.2)
  one_tree (node l a ts) (leaf l' a' w' c') r r' h h' e =
      let h₂ = and_r (token l) _ h in
      let h₂' = and_r (token l') _ h' in
      let h₃' = and_r (gap a') _ h₂' in
      let d = cut_head l a (writes ts (41 ∷ r)) l' a' (w' ++ (c' ++ 41 ∷ r')) (and_l _ _ h) (and_l _ _ h') (and_l _ _ h₂) (and_l _ _ h₂')
      (white_of_40 _ (openeds ts (41 ∷ r))) (inner-white _ (token_first w' (c' ++ 41 ∷ r') (and_l _ _ h₃'))) (ap (drop 1) e) in
      absurd (word_not_40 w' (c' ++ 41 ∷ r') _ (and_l _ _ h₃') (openeds ts (41 ∷ r)) (sym d.2))
  one_tree (node l a ts) (node l' a' ts') r r' h h' e =
      let h₂ = and_r (token l) _ h in
      let h₂' = and_r (token l') _ h' in
      let d = cut_head l a (writes ts (41 ∷ r)) l' a' (writes ts' (41 ∷ r')) (and_l _ _ h) (and_l _ _ h') (and_l _ _ h₂) (and_l _ _ h₂')
      (white_of_40 _ (openeds ts (41 ∷ r))) (white_of_40 _ (openeds ts' (41 ∷ r'))) (ap (drop 1) e) in
      let f = one_list ts ts' r r' (and_r (gap a) _ h₂) (and_r (gap a') _ h₂') d.2 in
      (ap₂ (λ (p q : List ℕ). node p q ts) d.0 d.1 ∙ ap (node l' a') f.0, f.1)

  pub one_list : (ts ts' : Trees) (r r' : List ℕ) → Is (goods ts) → Is (goods ts') → writes ts (41 ∷ r) ≡ writes ts' (41 ∷ r') → (ts ≡ ts') × (r ≡ r')
  one_list (one t a) (one t' a') r r' h h' e =
      let d = one_tree t t' _ _ (and_l _ _ h) (and_l _ _ h') e in
      let f = cut_white a (41 ∷ r) a' (41 ∷ r') (and_r (good t) _ h) (and_r (good t') _ h') white_41 white_41 d.1 in
      (ap₂ one d.0 f.0, ap (drop 1) f.1)
  one_list (one t a) (more t' a' ts') r r' h h' e =
      let d = one_tree t t' _ _ (and_l _ _ h) (and_l _ _ h') e in
      let f = cut_white a (41 ∷ r) a' (writes ts' (41 ∷ r')) (and_r (good t) _ h) (and_l _ _ (and_r (good t') _ h')) white_41 (white_of_40 _ (openeds ts' (41 ∷ r'))) d.1 in
      absurd (not_41_40 r _ (openeds ts' (41 ∷ r')) f.1)
  one_list (more t a ts) (one t' a') r r' h h' e =
      let d = one_tree t t' _ _ (and_l _ _ h) (and_l _ _ h') e in
      let f = cut_white a (writes ts (41 ∷ r)) a' (41 ∷ r') (and_l _ _ (and_r (good t) _ h)) (and_r (good t') _ h') (white_of_40 _ (openeds ts (41 ∷ r))) white_41 d.1 in
      absurd (not_41_40 r' _ (openeds ts (41 ∷ r)) (sym f.1))
  one_list (more t a ts) (more t' a' ts') r r' h h' e =
      let d = one_tree t t' _ _ (and_l _ _ h) (and_l _ _ h') e in
      let k = and_r (good t) _ h in
      let k' = and_r (good t') _ h' in
      let f = cut_white a (writes ts (41 ∷ r)) a' (writes ts' (41 ∷ r')) (and_l _ _ k) (and_l _ _ k') (white_of_40 _ (openeds ts (41 ∷ r))) (white_of_40 _ (openeds ts' (41 ∷ r'))) d.1 in
      let g = one_list ts ts' r r' (and_r (blank a) _ k) (and_r (blank a') _ k') f.1 in
      (ap₂ (λ (p : Tree) (q : List ℕ). more p q ts) d.0 f.0 ∙ ap (more t' a') g.0, g.1)

-- ---- one sentence to a text
-- behind the first parenthesis: a label, or none
pub tree_label : (t : Tree) (r : List ℕ) → Is (good t) → Is (inner (get_or (drop 1 (write t r)) 0 0))
unfolding write good
tree_label (leaf l b w a) r h = token_first l _ (and_l _ _ h)
tree_label (node l b ts) r h = token_first l _ (and_l _ _ h)

pub no_label : (v u : List ℕ) → Is (blank v) → u ≡ 40 ∷ drop 1 u → inner (get_or (v ++ u) 0 0) ≡ false
unfolding blank all inner ◌&◌ non
no_label [] u h e = ap (λ (y : List ℕ). inner (get_or y 0 0)) e
no_label (x ∷ v) u h e = white-inner x (and_l (white x) (all white v) h)

pub white_40_not : white 40 ≡ false
unfolding white ◌or◌
white_40_not = refl

pub one_sentence : (x x' : Sentence) (r r' : List ℕ) → Is (legal x) → Is (legal x') → spell x r ≡ spell x' r' → (x ≡ x') × (r ≡ r')
unfolding spell legal
one_sentence (plain w t) (plain w' t') r r' h h' e =
    let c = cut_white w (write t r) w' (write t' r') (and_l _ _ h) (and_l _ _ h') (white_of_40 _ (opened t r)) (white_of_40 _ (opened t' r')) e in
    let d = one_tree t t' r r' (and_r (blank w) _ h) (and_r (blank w') _ h') c.1 in
    (ap₂ plain c.0 d.0, d.1)
one_sentence (plain w t) (bare w' v' t' a') r r' h h' e =
    let h₂ = and_r (blank w') _ h' in
    let c = cut_white w (write t r) w' (40 ∷ (v' ++ write t' (a' ++ 41 ∷ r'))) (and_l _ _ h) (and_l _ _ h') (white_of_40 _ (opened t r)) white_40_not e in
    absurd (false≢true (sym (no_label v' (write t' (a' ++ 41 ∷ r')) (and_l _ _ h₂) (opened t' _)) ∙ ap (λ (y : List ℕ). inner (get_or (drop 1 y) 0 0)) (sym c.1) ∙ tree_label t r (and_r (blank w) _ h)))
one_sentence (bare w v t a) (plain w' t') r r' h h' e =
    let h₂ = and_r (blank w) _ h in
    let c = cut_white w (40 ∷ (v ++ write t (a ++ 41 ∷ r))) w' (write t' r') (and_l _ _ h) (and_l _ _ h') white_40_not (white_of_40 _ (opened t' r')) e in
    absurd (false≢true (sym (no_label v (write t (a ++ 41 ∷ r)) (and_l _ _ h₂) (opened t _)) ∙ ap (λ (y : List ℕ). inner (get_or (drop 1 y) 0 0)) c.1 ∙ tree_label t' r' (and_r (blank w') _ h')))
one_sentence (bare w v t a) (bare w' v' t' a') r r' h h' e =
    let h₂ = and_r (blank w) _ h in
    let h₂' = and_r (blank w') _ h' in
    let h₃ = and_r (blank v) _ h₂ in
    let h₃' = and_r (blank v') _ h₂' in
    let c = cut_white w (40 ∷ (v ++ write t (a ++ 41 ∷ r))) w' (40 ∷ (v' ++ write t' (a' ++ 41 ∷ r'))) (and_l _ _ h) (and_l _ _ h') white_40_not white_40_not e in
    let d = cut_white v (write t (a ++ 41 ∷ r)) v' (write t' (a' ++ 41 ∷ r')) (and_l _ _ h₂) (and_l _ _ h₂') (white_of_40 _ (opened t _)) (white_of_40 _ (opened t' _)) (ap (drop 1) c.1) in
    let f = one_tree t t' _ _ (and_l _ _ h₃) (and_l _ _ h₃') d.1 in
    let g = cut_white a (41 ∷ r) a' (41 ∷ r') (and_r (good t) _ h₃) (and_r (good t') _ h₃') white_41 white_41 f.1 in
    (ap₂ (λ (p q : List ℕ). bare p q t a) c.0 d.0 ∙ ap₂ (λ (p : Tree) (q : List ℕ). bare w' v' p q) f.0 g.0, ap (drop 1) g.1)
