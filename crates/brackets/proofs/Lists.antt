-- The functions on parts, lines and names, step by step. Assumes nothing.
use Rattle.std.proofs.Common.{◌≡◌, refl, sym, ap, ap₂, ◌∙◌, subst, Bool, true, false, List, [], ◌∷◌, ◌++◌, ℕ, zero, suc, ◌+◌, ◌-◌, ◌≤◌, ◌<◌, add-one, arith, length, get_or, take, drop, length-drop, drop_of_length-le, set, length-set, replicate, drop-cons, get_or-set_same, get_or-set_other, ltb, eqb, eq-eqb, ne_eqb, lt-ltb, le-ltb, ltb-true, ltb-false, unwrap_or, ◌&&◌, ◌||◌, ◌==◌, cond, Some, None, not, one-add, length-append, take_all}
use mathlib.Core.Bool.{false≢true}
use native.Mathlib.Decide.{ℕ_discrete}
use lib.ListN.{length-replicate}
use lib.Pointwise.{pointwise}
use Rattle.brackets.specs.Texts.{take_front}
use Rattle.meaning.specs.Tests.{◌&◌, ◌or◌}
use Rattle.meaning.specs.Names.{pick, onto, names_of, too_many, name_of, same, place_from, label_number}
use Rattle.brackets.specs.Reader.{letters, past}
use Rattle.brackets.specs.Pieces.{letters-past}
use Rattle.brackets.specs.Lines.{part, ahead, MarkedTo, Marked, NoneBegins, NotedBytes}
use Rattle.std.specs.List.{position, position_or_len}

-- ---- lines
pub ahead_here : (s : List ℕ) (i : ℕ) → i < length s → get_or s i 0 ≡ 10 → length (ahead (drop i s)) ≡ 0
unfolding ahead pick
ahead_here s i h e = rw (drop-cons s i 0 h, eq-eqb _ _ e)

pub ahead-on : (s : List ℕ) (i : ℕ) → i < length s → (get_or s i 0 ≡ 10 → ⊥) → length (ahead (drop i s)) ≡ suc (length (ahead (drop (i + 1) s)))
unfolding ahead pick
ahead-on s i h n = rw (drop-cons s i 0 h) (rw (ne_eqb _ _ n, add-one))

pub ahead-few : (u : List ℕ) → length (ahead u) ≤ length u
unfolding ahead pick
ahead-few [] = omega arith
ahead-few (x ∷ u) = go (eqb x 10) (ahead-few u)
  where
    go : (b : Bool) → length (ahead u) ≤ length u → length (pick b [] (x ∷ ahead u)) ≤ suc (length u)
    go true h = omega arith
    go false h = omega arith

-- a line that is not closed is no name
names_open : (u : List ℕ) → length u ≤ length (ahead u) → names_of u ≡ []
unfolding ahead names_of onto pick
names_open [] h = refl
names_open (x ∷ u) h = go (eqb x 10) (names_open u) h
  where
    go : (b : Bool) → (length u ≤ length (ahead u) → names_of u ≡ []) → suc (length u) ≤ length (pick b [] (x ∷ ahead u)) → pick b ([] ∷ names_of u) (onto x (names_of u)) ≡ []
    go true k h = absurd (omega arith)
    go false k h = ap (onto x) (k (omega arith))

names-closed : (u : List ℕ) → length (ahead u) < length u → names_of u ≡ take (length (ahead u)) u ∷ names_of (drop (suc (length (ahead u))) u)
unfolding ahead names_of onto pick
names-closed [] h = absurd (omega arith)
names-closed (x ∷ u) h = go (eqb x 10) (names-closed u) h
  where
    go : (b : Bool) → (length (ahead u) < length u → names_of u ≡ take (length (ahead u)) u ∷ names_of (drop (suc (length (ahead u))) u))
        → length (pick b [] (x ∷ ahead u)) < suc (length u)
        → pick b ([] ∷ names_of u) (onto x (names_of u)) ≡ take (length (pick b [] (x ∷ ahead u))) (x ∷ u) ∷ names_of (drop (suc (length (pick b [] (x ∷ ahead u)))) (x ∷ u))
    go true k h = refl
    go false k h = ap (onto x) (k (omega arith))

drop-drop : (s : List ℕ) (i j : ℕ) → drop j (drop i s) ≡ drop (i + j) s
drop-drop s zero j = ap (λ (k : ℕ). drop k s) (let e : j ≡ 0 + j = omega arith in e)
drop-drop [] (suc i) j = nothing j ∙ sym (nothing (suc i + j))
  where
    nothing : (k : ℕ) → drop {A = ℕ} k [] ≡ []
    nothing zero = refl
    nothing (suc k) = refl
drop-drop (x ∷ s) (suc i) j = drop-drop s i j ∙ ap (λ (k : ℕ). drop k (x ∷ s)) (let e : suc (i + j) ≡ suc i + j = omega arith in e)

module _ (s : List ℕ) (i e : ℕ) (h : e ≡ i + length (ahead (drop i s))) where
  pub line_none : length s ≤ e → names_of (drop i s) ≡ []
  line_none k = names_open (drop i s) (omega (arith, length-drop i s))

  pub line-more : i ≤ length s → e < length s → names_of (drop i s) ≡ part i e s ∷ names_of (drop (e + 1) s)
  unfolding part
  line-more a k =
      names-closed (drop i s) (omega (arith, length-drop i s))
      ∙ ap₂ (λ (n : ℕ) (u : List ℕ). take n (drop i s) ∷ names_of u) (let q : length (ahead (drop i s)) ≡ e - i = omega arith in q)
      (drop-drop s i (suc (length (ahead (drop i s)))) ∙ ap (λ (n : ℕ). drop n s) (let q : i + suc (length (ahead (drop i s))) ≡ e + 1 = omega arith in q))

pub line-end : (s : List ℕ) (i : ℕ) → length s ≤ i → names_of (drop i s) ≡ []
unfolding names_of
line-end s i h = ap names_of (drop_of_length-le s {i = i} h)

-- ---- where the names end
marked_more : (list : List ℕ) (a : ℕ) (ends : List ℕ) (i e : ℕ) → MarkedTo list a ends i → e ≡ i + length (ahead (drop i list)) → e < length list → MarkedTo list a (ends ++ e ∷ []) (e + 1)
unfolding MarkedTo
marked_more list a [] i e m h k = (h ∙ ap (λ (j : ℕ). j + length (ahead (drop j list))) (sym m), k, refl)
marked_more list a (x ∷ ends) i e m h k = (m.0, m.1, marked_more list (x + 1) ends i e m.2 h k)

marked_all : (list : List ℕ) (a : ℕ) (ends : List ℕ) (i : ℕ) → MarkedTo list a ends i → names_of (drop i list) ≡ [] → Marked list a ends
unfolding MarkedTo Marked
marked_all list a [] i m h = ap (λ (j : ℕ). names_of (drop j list)) m ∙ h
marked_all list a (x ∷ ends) i m h = (m.0, m.1, marked_all list (x + 1) ends i m.2 h)

-- as many as there are names
marked_to_count : (list : List ℕ) (a : ℕ) (ends : List ℕ) (i : ℕ) → MarkedTo list a ends i → length (names_of (drop a list)) ≡ length ends + length (names_of (drop i list))
unfolding MarkedTo
marked_to_count list a [] i m = omega (arith, ap (λ (j : ℕ). length (names_of (drop j list))) m)
marked_to_count list a (x ∷ ends) i m =
    let k = m.1 in
    let z = ap length (line-more list a x m.0 (omega (arith, m.0)) m.1) in
    omega (arith, z, marked_to_count list (x + 1) ends i m.2)

marked_count : (list : List ℕ) (a : ℕ) (ends : List ℕ) → Marked list a ends → length (names_of (drop a list)) ≡ length ends
unfolding Marked
marked_count list a [] m = ap length m
marked_count list a (x ∷ ends) m =
    let z = ap length (line-more list a x m.0 (omega (arith, m.0, m.1)) m.1) in
    omega (arith, z, marked_count list (x + 1) ends m.2)

-- the next end, and the last, of ends that are handed out as `shown`
module _ (list : List ℕ) (i : ℕ) (ends shown : List ℕ) (e : shown ≡ ends) (k : ℕ) (m : Marked list i (drop k ends)) where
  pub marked_at : k < length shown → (get_or shown k 0 ≡ i + length (ahead (drop i list))) × (get_or shown k 0 < length list) × Marked list (get_or shown k 0 + 1) (drop (k + 1) ends)
  unfolding Marked
  marked_at h =
      let q = subst (Marked list i) (drop-cons ends k 0 (omega (arith, ap length e))) m in
      rw e (q.0, q.1, subst (λ (j : ℕ). Marked list (get_or ends k 0 + 1) (drop j ends)) (sym (add-one k)) q.2)

  pub marked_end : length shown ≤ k → names_of (drop i list) ≡ []
  unfolding Marked
  marked_end h = subst (Marked list i) (drop_of_length-le ends {i = k} (omega (arith, ap length e))) m

-- ---- the place of a name
module _ (name : List ℕ) (s : List ℕ) (k i e : ℕ) (q : place_from k name (names_of (drop i s)) ≡ place_from 0 name (names_of s)) (h : e ≡ i + length (ahead (drop i s))) where
  place-next : i ≤ length s → e < length s → pick (same name (part i e s)) k (place_from (suc k) name (names_of (drop (e + 1) s))) ≡ place_from 0 name (names_of s)
  unfolding place_from
  place-next a l = ap (place_from k name) (sym (line-more s i e h a l)) ∙ q

  pub place_here : i ≤ length s → e < length s → same name (part i e s) ≡ true → k ≡ place_from 0 name (names_of s)
  unfolding pick
  place_here a l t = sym (ap (λ (b : Bool). pick b k (place_from (suc k) name (names_of (drop (e + 1) s)))) t) ∙ place-next a l

  pub place-more : i ≤ length s → e < length s → same name (part i e s) ≡ false → place_from (k + 1) name (names_of (drop (e + 1) s)) ≡ place_from 0 name (names_of s)
  unfolding pick
  place-more a l t =
      ap (λ (j : ℕ). place_from j name (names_of (drop (e + 1) s))) (add-one k)
      ∙ sym (ap (λ (b : Bool). pick b k (place_from (suc k) name (names_of (drop (e + 1) s)))) t) ∙ place-next a l

pub place_end : (name s : List ℕ) (k i : ℕ) → place_from k name (names_of (drop i s)) ≡ place_from 0 name (names_of s) → names_of (drop i s) ≡ [] → 65535 ≡ place_from 0 name (names_of s)
unfolding place_from
place_end name s k i q h = ap (place_from k name) (sym h) ∙ q

-- ---- parts
part_cons : (s : List ℕ) (a b : ℕ) → a < b → b ≤ length s → part a b s ≡ get_or s a 0 ∷ part (a + 1) b s
unfolding part
part_cons s a b h k =
    ap₂ (λ (n : ℕ) (u : List ℕ). take n u) (let e : b - a ≡ suc (b - (a + 1)) = omega arith in e) (drop-cons s a 0 (omega arith))
    ∙ ap (λ (j : ℕ). get_or s a 0 ∷ take (b - (a + 1)) (drop j s)) (sym (add-one a))

part_none : (s : List ℕ) (a b : ℕ) → b ≤ a → part a b s ≡ []
unfolding part
part_none s a b h = ap (λ (n : ℕ). take n (drop a s)) (let e : b - a ≡ 0 = omega arith in e)

-- ---- the same bytes
pub equal_same : (x y : List ℕ) → pointwise eqb x y ≡ same x y
unfolding same ◌&◌
equal_same [] [] = refl
equal_same [] (b ∷ y) = refl
equal_same (a ∷ x) [] = refl
equal_same (a ∷ x) (b ∷ y) = go (eqb a b) (equal_same x y)
  where
    go : (t : Bool) → pointwise eqb x y ≡ same x y → (t && pointwise eqb x y) ≡ (t & same x y)
    go true h = h
    go false h = refl

-- ---- a label's name
abbrev pub ends_name : ℕ → Bool
ends_name b = (b == 45) || (b == 61)

name_front : (l : List ℕ) → take (position_or_len ends_name l) l ≡ name_of l
unfolding name_of pick ◌or◌
name_front [] = refl
name_front (x ∷ l) = go (eqb x 45) (eqb x 61) (name_front l)
  where
    go : (s t : Bool) → take (position_or_len ends_name l) l ≡ name_of l → take (cond (not (s || t)) (1 + position_or_len ends_name l) 0) (x ∷ l) ≡ pick (s or t) [] (x ∷ name_of l)
    go true t h = refl
    go false true h = refl
    go false false h = ap (λ (k : ℕ). take k (x ∷ l)) (one-add (position_or_len ends_name l)) ∙ ap (λ (y : List ℕ). x ∷ y) h

pub name_is : (l : List ℕ) → take (unwrap_or (position ends_name l) (length l)) l ≡ name_of l
name_is l = go (ltb (position_or_len ends_name l) (length l)) refl
  where
    go : (b : Bool) → ltb (position_or_len ends_name l) (length l) ≡ b → take (unwrap_or (cond b (Some (position_or_len ends_name l)) None) (length l)) l ≡ name_of l
    go true e = name_front l
    go false e = take_all (length l) l (omega arith) ∙ sym (take_all (position_or_len ends_name l) l (ltb-false _ _ e)) ∙ name_front l

pub number_of : (list label name : List ℕ) (r : ℕ) → name ≡ name_of label → r ≡ place_from 0 name (names_of list) → r ≡ label_number list label
unfolding label_number
number_of list label name r e q = q ∙ ap (λ (n : List ℕ). place_from 0 n (names_of list)) e

-- ---- a label in the text
pub label-part : (s : List ℕ) (at e : ℕ) → length (letters 64 (drop at s)) ≡ e - at → take (e - at) (drop at s) ≡ letters 64 (drop at s)
label-part s at e h =
    ap₂ (λ (n : ℕ) (u : List ℕ). take n u) (sym h) (sym (letters-past 64 (drop at s))) ∙ take_front (letters 64 (drop at s)) (past 64 (drop at s))

-- ---- bytes that no name begins with
none_place : (b : ℕ) (rest : List ℕ) (names : List (List ℕ)) (k : ℕ) → NoneBegins b names → 65535 ≡ place_from k (b ∷ rest) names
unfolding place_from NoneBegins same ◌&◌ pick
none_place b rest [] k h = refl
none_place b rest ([] ∷ names) k h = none_place b rest names (suc k) h
none_place b rest ((y ∷ n) ∷ names) k h = none_place b rest names (suc k) h.1 ∙ ap (λ (z : Bool). pick (z & same rest n) k (place_from (suc k) (b ∷ rest) names)) (sym (ne_eqb b y h.0))

-- a label that begins with such a byte has no number
pub number_none : (list label : List ℕ) → 0 < length label → (get_or label 0 0 ≡ 45 → ⊥) → (get_or label 0 0 ≡ 61 → ⊥) → NoneBegins (get_or label 0 0) (names_of list) → 65535 ≡ label_number list label
unfolding label_number name_of ◌or◌ pick
number_none list [] l dash equal none = absurd (omega arith)
number_none list (x ∷ label) l dash equal none = rw (ne_eqb x 45 dash, ne_eqb x 61 equal) (none_place x _ (names_of list) 0 none)

-- a byte begins no name from i on where it is not the byte at i and begins no name behind the line's end e
begins_more : (list : List ℕ) (i e b : ℕ) → e ≡ i + length (ahead (drop i list)) → i < length list → (b ≡ get_or list i 0 → ⊥) → NoneBegins b (names_of (drop (e + 1) list)) → NoneBegins b (names_of (drop i list))
unfolding NoneBegins
begins_more list i e b h l ne r = go (ltb e (length list)) refl (ltb i e) refl
  where
    go : (closed : Bool) → ltb e (length list) ≡ closed → (long : Bool) → ltb i e ≡ long → NoneBegins b (names_of (drop i list))
    go false c long m = rw (line_none list i e h (ltb-false e (length list) c)) tt
    go true c true m =
        let k : e < length list = ltb-true e (length list) c in
        rw (line-more list i e h (omega arith) k, part_cons list i e (ltb-true i e m) (omega (arith, k))) (ne, r)
    go true c false m =
        let k : e < length list = ltb-true e (length list) c in
        rw (line-more list i e h (omega arith) k, part_none list i e (ltb-false i e m)) r

-- the first bytes of the names up to i are noted: a byte that is not noted begins no name if it begins none from i on
pub record NotedTo (list : List ℕ) (i : ℕ) (noted : List Bool) : Type 0 where
  pub size : length noted ≡ 256
  pub missing : (b : ℕ) → b < 256 → get_or noted b false ≡ false → (b ≡ 45 → ⊥) × (b ≡ 61 → ⊥) × (NoneBegins b (names_of (drop i list)) → NoneBegins b (names_of list))

pub noted_more : (list : List ℕ) (i e : ℕ) (noted : List Bool) → e ≡ i + length (ahead (drop i list)) → i < length list → get_or list i 0 < 256 → NotedTo list i noted → NotedTo list (e + 1) (set noted (get_or list i 0) true)
noted_more list i e noted a k l h = record { size = (simp length-set) ∙ h.size; missing = λ b m f. go b m (ℕ_discrete b (get_or list i 0)) f }
  where
    inside : get_or list i 0 < length noted
    inside = omega (arith, h.size)

    go : (b : ℕ) → b < 256 → Dec (b ≡ get_or list i 0) → get_or (set noted (get_or list i 0) true) b false ≡ false → (b ≡ 45 → ⊥) × (b ≡ 61 → ⊥) × (NoneBegins b (names_of (drop (e + 1) list)) → NoneBegins b (names_of list))
    go b m (yes q) f = absurd (false≢true (sym f ∙ (rw q (get_or-set_same noted (get_or list i 0) true false inside))))
    go b m (no q) f =
        let w = h.missing b m (sym (get_or-set_other noted (get_or list i 0) b true false q) ∙ f) in
        (w.0, w.1, λ r. w.2 (begins_more list i e b a k q r))

pub noted-all : (list : List ℕ) (i : ℕ) (noted : List Bool) → length list ≤ i → NotedTo list i noted → NotedBytes list noted
unfolding NoneBegins
noted-all list i noted l h = record { size = h.size; missing = λ b m f. let w = h.missing b m f in (w.0, w.1, w.2 (rw (line-end list i l) tt)) }

pub noted-start : (list : List ℕ) → NotedTo list 0 (set (set (replicate 256 false) 45 true) 61 true)
noted-start list = record {
  size = (simp length-set);
  missing = λ b m e. (
    λ q. false≢true (sym e ∙ (ap (λ (k : ℕ). get_or (set (set (replicate 256 false) 45 true) 61 true) k false) q ∙ (get_or-set_other (set (replicate 256 false) 45 true) 61 45 true false (λ z. omega (arith, z)) ∙ get_or-set_same (replicate 256 false) 45 true false (omega (arith, length-replicate {A = Bool} 256 false))))),
    λ q. false≢true (sym e ∙ (ap (λ (k : ℕ). get_or (set (set (replicate 256 false) 45 true) 61 true) k false) q ∙ get_or-set_same (set (replicate 256 false) 45 true) 61 true false (simp length-set (omega (arith, length-replicate {A = Bool} 256 false))))),
    λ r. r,
  );
}

-- ---- the list read up to i, byte by byte
-- its line begins at `start`; the names before that are marked, and the first bytes of the names that begin before i are noted
pub record ReadTo (list : List ℕ) (i : ℕ) (begins : Bool) (ends : List ℕ) (noted : List Bool) : Type 0 where
  pub start : ℕ
  pub few : length ends ≤ 32
  pub marked : MarkedTo list 0 ends start
  pub in_list : start ≤ i
  pub line : start + length (ahead (drop start list)) ≡ i + length (ahead (drop i list))
  pub noted_to : NotedTo list (pick begins i (i + length (ahead (drop i list)) + 1)) noted

pub read_none : (list : List ℕ) → ReadTo list 0 true [] (set (set (replicate 256 false) 45 true) 61 true)
unfolding MarkedTo pick
read_none list = record { start = 0; few = omega arith; marked = refl; in_list = omega arith; line = refl; noted_to = noted-start list }

module _ (list : List ℕ) (i : ℕ) (begins : Bool) (ends : List ℕ) (noted : List Bool) (R : ReadTo list i begins ends noted) where
  module _ (l : i < length list) where
    pub noted_line : get_or list i 0 < 256 → (noted' : List Bool) → (begins ≡ true → noted' ≡ set noted (get_or list i 0) true) → (begins ≡ false → noted' ≡ noted)
        → NotedTo list (i + length (ahead (drop i list)) + 1) noted'
    unfolding pick
    noted_line b noted' y n = go begins R.noted_to y n
      where
        go : (begins : Bool) → NotedTo list (pick begins i (i + length (ahead (drop i list)) + 1)) noted → (begins ≡ true → noted' ≡ set noted (get_or list i 0) true) → (begins ≡ false → noted' ≡ noted)
            → NotedTo list (i + length (ahead (drop i list)) + 1) noted'
        go true N y n = rw (y refl) (noted_more list i (i + length (ahead (drop i list))) noted refl l b N)
        go false N y n = rw (n refl) N

    pub read_on : (get_or list i 0 ≡ 10 → ⊥) → (noted' : List Bool) → NotedTo list (i + length (ahead (drop i list)) + 1) noted' → ReadTo list (i + 1) (eqb (get_or list i 0) 10) ends noted'
    unfolding pick
    read_on n noted' N =
        let a = ahead-on list i l n in
        rw (ne_eqb _ _ n)
        (record {
          start = R.start;
          few = R.few;
          marked = R.marked;
          in_list = omega (arith, R.in_list);
          line = omega (arith, R.line);
          noted_to = subst (λ (k : ℕ). NotedTo list k noted') (let e : i + length (ahead (drop i list)) + 1 ≡ i + 1 + length (ahead (drop (i + 1) list)) + 1 = omega arith in e) N;
        })

    module _ (h : get_or list i 0 ≡ 10) where
      ends_here : i ≡ R.start + length (ahead (drop R.start list))
      ends_here = omega (arith, R.line, ahead_here list i l h)

      pub read_line : length ends < 32 → (noted' : List Bool) → NotedTo list (i + length (ahead (drop i list)) + 1) noted' → ReadTo list (i + 1) (eqb (get_or list i 0) 10) (ends ++ i ∷ []) noted'
      unfolding pick
      read_line f noted' N =
          rw (eq-eqb _ _ h)
          (record {
            start = i + 1;
            few = simp length-append (omega arith);
            marked = marked_more list 0 ends R.start i R.marked ends_here l;
            in_list = omega arith;
            line = refl;
            noted_to = subst (λ (k : ℕ). NotedTo list k noted') (let e : i + length (ahead (drop i list)) + 1 ≡ i + 1 = omega (arith, ahead_here list i l h) in e) N;
          })

      pub read_many : length ends ≡ 32 → too_many list ≡ true
      unfolding too_many
      read_many f =
          let z = ap length (line-more list R.start i ends_here (omega (arith, R.in_list)) l) in
          lt-ltb 32 (length (names_of list)) (omega (arith, z, marked_to_count list 0 ends R.start R.marked))

  module _ (l : length list ≤ i) where
    last_line : names_of (drop R.start list) ≡ []
    last_line = line_none list R.start (R.start + length (ahead (drop R.start list))) refl (omega (arith, R.line))

    pub read_marked : Marked list 0 ends
    read_marked = marked_all list 0 ends R.start R.marked last_line

    pub read_few : too_many list ≡ false
    unfolding too_many
    read_few = le-ltb 32 (length (names_of list)) (omega (arith, R.few, marked_count list 0 ends read_marked))

    pub read_noted : NotedBytes list noted
    unfolding pick
    read_noted = go begins R.noted_to
      where
        go : (begins : Bool) → NotedTo list (pick begins i (i + length (ahead (drop i list)) + 1)) noted → NotedBytes list noted
        go true N = noted-all list i noted l N
        go false N = noted-all list _ noted (let e : length list ≤ i + length (ahead (drop i list)) + 1 = omega arith in e) N
