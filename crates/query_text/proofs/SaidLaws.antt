-- What a text says is what it is written from: a text written from a head and conditions says this head and these
-- conditions, and no others. Assumes nothing.
use mathlib.Core.Path.{◌≡◌, refl, sym, ap, ◌∙◌, subst}
use mathlib.Core.Bool.{Bool, true, false, false≢true}
use mathlib.Core.Logic.{⊎_elim}
use mathlib.Core.List.{List, [], ◌∷◌, ◌++◌, append_assoc, append-nil, map}
use Prim.Native.Nat.{ℕ, zero, suc, ◌<◌}
use native.Mathlib.Nat.{not-suc-le-zero}
use native.Mathlib.Omega.{arith}
use lib.Dec.{ltb}
use lib.ListN.{length, get_or, drop}
use borrow.Author.Tests.{eqb-true, eq-eqb, ltb-true}
use Rattle.meaning.specs.Tests.{Is, ◌&◌, ◌or◌, non}
use Rattle.meaning.specs.Axes.{bytes, axes}
use Rattle.meaning.specs.Texts.{pick, Range, within, among, Form, empty, byte, ◌then◌, Has, Times, just, word, spelt, up_to, any_of}
use Rattle.meaning.specs.QueryTexts.{blank, lower, in_variable, upper, in_label, in_word, variable, label, axis-names, axis, blanks, ◌~◌, Phrase, Said, with_commas, written_phrase, written, All, IsCondition, IsSaid, put, words, is_variable, with_word, phrases, said}
use Rattle.query_text.proofs.After.{both_l, both_r, first, second, either}
use Rattle.query_text.proofs.First.{apart, apart_from, apart_is, among_one}

-- 1. Words and what parts them.
unfoldable Apart : List ℕ → Type 0
Apart [] = Unit {0}
Apart (b ∷ t) = among in_word b ≡ false

unfoldable Inside : List ℕ → Type 0
Inside [] = Unit {0}
Inside (b ∷ w) = (among in_word b ≡ true) × Inside w

record Wordy (w : List ℕ) : Type 0 where
  inside : Inside w
  some : 0 < length w

words-apart : (w t : List ℕ) → Apart t → words w t ≡ put w (words [] t)
unfolding Apart words put pick
words-apart w [] h = refl
words-apart w (b ∷ t) h = rw h

words_in : (w u t : List ℕ) → Inside u → words w (u ++ t) ≡ words (w ++ u) t
unfolding Inside words pick
words_in w [] t h = ap (λ (x : List ℕ). words x t) (sym (append-nil w))
words_in w (b ∷ u) t h = rw h.0 (words_in (w ++ (b ∷ [])) u t h.1 ∙ ap (λ (x : List ℕ). words x t) (append_assoc w (b ∷ []) u))

put_word : (w : List ℕ) (ws : List (List ℕ)) → 0 < length w → put w ws ≡ w ∷ ws
unfolding put
put_word [] ws h = absurd (not-suc-le-zero h)
put_word (b ∷ w) ws h = refl

words-word : (w t : List ℕ) → Wordy w → Apart t → words [] (w ++ t) ≡ w ∷ words [] t
words-word w t h a = words_in [] w t h.inside ∙ words-apart w t a ∙ put_word w (words [] t) h.some

words-skip : (b : ℕ) (t : List ℕ) → among in_word b ≡ false → words [] (b ∷ t) ≡ words [] t
unfolding words put pick
words-skip b t h = rw h

-- 2. Forms by the words of their texts: shut ones end with a byte of no word, open ones may end with a word.
unfoldable Shut : Form → List (List ℕ) → Type 0
Shut f ws = (a t : List ℕ) → Has f a → words [] (a ++ t) ≡ ws ++ words [] t

unfoldable Open : Form → List (List ℕ) → Type 0
Open f ws = (a t : List ℕ) → Has f a → Apart t → words [] (a ++ t) ≡ ws ++ words [] t

-- their texts start with a byte of no word
unfoldable Firm : Form → Type 0
Firm f = (a t : List ℕ) → Has f a → Apart (a ++ t)

split : (a b c t : List ℕ) → a ≡ b ++ c → words [] (a ++ t) ≡ words [] (b ++ (c ++ t))
split a b c t e = ap (λ (x : List ℕ). words [] (x ++ t)) e ∙ ap (words []) (append_assoc b c t)

join : (us vs ws : List (List ℕ)) → us ++ (vs ++ ws) ≡ (us ++ vs) ++ ws
join us vs ws = sym (append_assoc us vs ws)

shut_then : (f g : Form) (us vs : List (List ℕ)) → Shut f us → Shut g vs → Shut (f then g) (us ++ vs)
unfolding Shut Has
shut_then f g us vs p q a t h = split a h.0 h.1 t h.2 ∙ p h.0 (h.1 ++ t) h.3 ∙ ap (λ (ws : List (List ℕ)). us ++ ws) (q h.1 t h.4) ∙ join us vs (words [] t)

open_shut : (f g : Form) (us vs : List (List ℕ)) → Open f us → Firm g → Shut g vs → Shut (f then g) (us ++ vs)
unfolding Shut Open Firm Has
open_shut f g us vs p k q a t h =
    split a h.0 h.1 t h.2 ∙ p h.0 (h.1 ++ t) h.3 (k h.1 t h.4) ∙ ap (λ (ws : List (List ℕ)). us ++ ws) (q h.1 t h.4) ∙ join us vs (words [] t)

open_open : (f g : Form) (us vs : List (List ℕ)) → Open f us → Firm g → Open g vs → Open (f then g) (us ++ vs)
unfolding Open Firm Has
open_open f g us vs p k q a t h z =
    split a h.0 h.1 t h.2 ∙ p h.0 (h.1 ++ t) h.3 (k h.1 t h.4) ∙ ap (λ (ws : List (List ℕ)). us ++ ws) (q h.1 t h.4 z) ∙ join us vs (words [] t)

shut_open : (f g : Form) (us vs : List (List ℕ)) → Shut f us → Open g vs → Open (f then g) (us ++ vs)
unfolding Shut Open Has
shut_open f g us vs p q a t h z = split a h.0 h.1 t h.2 ∙ p h.0 (h.1 ++ t) h.3 ∙ ap (λ (ws : List (List ℕ)). us ++ ws) (q h.1 t h.4 z) ∙ join us vs (words [] t)

as_open : (f : Form) (ws : List (List ℕ)) → Shut f ws → Open f ws
unfolding Shut Open
as_open f ws p a t h z = p a t h

firm_then : (f g : Form) → Firm f → Firm (f then g)
unfolding Firm Has
firm_then f g p a t h = subst Apart (sym (ap (λ (x : List ℕ). x ++ t) h.2 ∙ append_assoc h.0 h.1 t)) (p h.0 (h.1 ++ t) h.3)

-- 3. White space, signs and words.
parted : (b : ℕ) (t : List ℕ) → among in_word b ≡ false → Apart (b ∷ t)
unfolding Apart
parted b t e = e

blank_parts : (b : ℕ) → Is (among blank b) → among in_word b ≡ false
unfolding blank in_word apart apart_from ◌&◌ ◌or◌
blank_parts b h = go (among in_word b) refl
  where
    go : (z : Bool) → among in_word b ≡ z → z ≡ false
    go true e = absurd (apart_is blank in_word b refl h e)
    go false e = refl

blanks_shut : Shut blanks []
unfolding Shut blanks Has Times
blanks_shut a t h = go h.0 a h.1
  where
    go : (n : ℕ) (a : List ℕ) → Times (Has (byte blank)) n a → words [] (a ++ t) ≡ words [] t
    go zero a k = ap (λ (x : List ℕ). words [] (x ++ t)) k
    go (suc n) a k =
        split a k.0 k.1 t k.2 ∙ ap (λ (x : List ℕ). words [] (x ++ (k.1 ++ t))) k.3.1
        ∙ words-skip k.3.0 (k.1 ++ t) (blank_parts k.3.0 k.3.2) ∙ go n k.1 k.4

blanks_firm : (g : Form) → Firm g → Firm (blanks then g)
unfolding Firm blanks Has Times
blanks_firm g p a t h =
    subst Apart (sym (ap (λ (x : List ℕ). x ++ t) h.2 ∙ append_assoc h.0 h.1 t)) (go h.3.0 h.0 h.3.1)
  where
    go : (n : ℕ) (c : List ℕ) → Times (Has (byte blank)) n c → Apart (c ++ (h.1 ++ t))
    go zero c k = subst Apart (ap (λ (x : List ℕ). x ++ (h.1 ++ t)) (sym k)) (p h.1 t h.4)
    go (suc n) c k =
        subst Apart (sym (ap (λ (x : List ℕ). x ++ (h.1 ++ t)) k.2 ∙ append_assoc k.0 k.1 (h.1 ++ t) ∙ ap (λ (x : List ℕ). x ++ (k.1 ++ (h.1 ++ t))) k.3.1))
        (parted k.3.0 (k.1 ++ (h.1 ++ t)) (blank_parts k.3.0 k.3.2))

pub word_is : (w a : List ℕ) → Has (word w) a → a ≡ w
unfolding word just Has
word_is [] a h = h
word_is (b ∷ w) a h =
    let c = h.3.0 in
    let e : c ≡ b = eqb-true c b (sym (among_one b c) ∙ h.3.2) in
    h.2 ∙ ap (λ (x : List ℕ). x ++ h.1) h.3.1 ∙ ap (λ (k : ℕ). k ∷ h.1) e ∙ ap (λ (x : List ℕ). b ∷ x) (word_is w h.1 h.4)

pub word-has : (w : List ℕ) → Has (word w) w
unfolding word just Has
word-has [] = refl
word-has (b ∷ w) = (b ∷ [], w, refl, (b, refl, among_one b b ∙ eq-eqb b b refl), word-has w)

unfoldable Outside : List ℕ → Type 0
Outside [] = Unit {0}
Outside (b ∷ w) = (among in_word b ≡ false) × Outside w

sign_shut : (w : List ℕ) → Outside w → Shut (word w) []
unfolding Shut Outside
sign_shut w o a t h = ap (λ (x : List ℕ). words [] (x ++ t)) (word_is w a h) ∙ go w o
  where
    go : (w : List ℕ) → Outside w → words [] (w ++ t) ≡ words [] t
    go [] o = refl
    go (b ∷ w) o = words-skip b (w ++ t) o.0 ∙ go w o.1

sign_firm : (b : ℕ) (w : List ℕ) → among in_word b ≡ false → Firm (word (b ∷ w))
unfolding Firm
sign_firm b w e a t h = subst Apart (ap (λ (x : List ℕ). x ++ t) (sym (word_is (b ∷ w) a h))) (parted b (w ++ t) e)

record Sign (f : Form) : Type 0 where
  shut : Shut f []
  firm : Firm f

sign : (b : ℕ) (w : List ℕ) → among in_word b ≡ false → Outside w → Sign (word (b ∷ w))
unfolding Outside
sign b w e o = record { shut = sign_shut (b ∷ w) (e, o); firm = sign_firm b w e }

record Signs : Type 0 where
  opening : Sign (spelt "(")
  closing : Sign (spelt ")")
  comma : Sign (spelt ",")
  arrow : Sign (spelt "<-")
  stop : Sign (spelt ".")

signs : Signs
unfolding spelt bytes Outside in_word among within ◌&◌ ◌or◌
signs = record {
  opening = sign 40 [] refl tt;
  closing = sign 41 [] refl tt;
  comma = sign 44 [] refl tt;
  arrow = sign 60 (45 ∷ []) refl (refl, tt);
  stop = sign 46 [] refl tt;
}

word_open : (w : List ℕ) → Wordy w → Open (word w) (w ∷ [])
unfolding Open
word_open w h a t k z = ap (λ (x : List ℕ). words [] (x ++ t)) (word_is w a k) ∙ words-word w t h z

empty_shut : Shut empty []
unfolding Shut Has
empty_shut a t h = ap (λ (x : List ℕ). words [] (x ++ t)) h

shut_as : (f : Form) (us vs : List (List ℕ)) → us ≡ vs → Shut f us → Shut f vs
shut_as f us vs e h = subst (Shut f) e h

-- a sign with white space before it, and then a form
after_sign : (f g : Form) (ws : List (List ℕ)) → Sign f → Shut g ws → Shut (blanks then (f then g)) ws
after_sign f g ws s h = shut_then blanks (f then g) [] ws blanks_shut (shut_then f g [] ws s.shut h)

after_open : (f g : Form) (ws : List (List ℕ)) → Sign f → Open g ws → Open (blanks then (f then g)) ws
after_open f g ws s h = shut_open blanks (f then g) [] ws blanks_shut (shut_open f g [] ws s.shut h)

sign_first : (f g : Form) → Sign f → Firm (blanks then (f then g))
sign_first f g s = blanks_firm (f then g) (firm_then f g s.firm)

blank_shut : (g : Form) (ws : List (List ℕ)) → Shut g ws → Shut (blanks then g) ws
blank_shut g ws h = shut_then blanks g [] ws blanks_shut h

blank_open : (g : Form) (ws : List (List ℕ)) → Open g ws → Open (blanks then g) ws
blank_open g ws h = shut_open blanks g [] ws blanks_shut h

-- 4. Lists with commas, phrases, the whole text.
commas_open : (xs : List (List ℕ)) → All Wordy xs → Open (with_commas (map word xs)) xs
unfolding with_commas ◌~◌ All
commas_open [] h = as_open empty [] empty_shut
commas_open (x ∷ []) h = word_open x h.0
commas_open (x ∷ y ∷ r) h =
    open_open (word x) _ (x ∷ []) (y ∷ r) (word_open x h.0) (sign_first (spelt ",") _ signs.comma)
    (after_open (spelt ",") _ (y ∷ r) signs.comma (blank_open _ (y ∷ r) (commas_open (y ∷ r) h.1)))

unfoldable bracketed : List (List ℕ) → Form
bracketed xs = blanks then (spelt "(" then (blanks then (with_commas (map word xs) then (blanks then spelt ")"))))

bracketed_shut : (xs : List (List ℕ)) → All Wordy xs → Shut (bracketed xs) xs
unfolding bracketed
bracketed_shut xs h =
    after_sign (spelt "(") _ xs signs.opening
    (blank_shut _ xs (shut_as _ (xs ++ []) xs (append-nil xs)
    (open_shut (with_commas (map word xs)) (blanks then spelt ")") xs [] (commas_open xs h) (blanks_firm _ signs.closing.firm) (blank_shut _ [] signs.closing.shut))))

bracketed_firm : (xs : List (List ℕ)) → Firm (bracketed xs)
unfolding bracketed
bracketed_firm xs = sign_first (spelt "(") _ signs.opening

unfoldable flat : List Phrase → List (List ℕ)
flat [] = []
flat (p ∷ ps) = p.name ∷ (p.variables ++ flat ps)

record WordyPhrase (p : Phrase) : Type 0 where
  name : Wordy p.name
  variables : All Wordy p.variables

phrase_shut : (p : Phrase) → WordyPhrase p → Shut (written_phrase p) (p.name ∷ p.variables)
unfolding written_phrase ◌~◌ bracketed
phrase_shut p h = open_shut (word p.name) (bracketed p.variables) (p.name ∷ []) p.variables (word_open p.name h.name) (bracketed_firm p.variables) (bracketed_shut p.variables h.variables)

phrases_shut : (ps : List Phrase) → All WordyPhrase ps → Shut (with_commas (map written_phrase ps)) (flat ps)
unfolding with_commas ◌~◌ All flat
phrases_shut [] h = empty_shut
phrases_shut (p ∷ []) h = shut_as _ _ _ (ap (λ (x : List (List ℕ)). p.name ∷ x) (sym (append-nil p.variables))) (phrase_shut p h.0)
phrases_shut (p ∷ r ∷ ps) h =
    shut_then (written_phrase p) _ (p.name ∷ p.variables) (flat (r ∷ ps)) (phrase_shut p h.0)
    (after_sign (spelt ",") _ (flat (r ∷ ps)) signs.comma (blank_shut _ (flat (r ∷ ps)) (phrases_shut (r ∷ ps) h.1)))

unfoldable tail_of : List Phrase → Form
tail_of cs = blanks then (spelt "<-" then (blanks then (with_commas (map written_phrase cs) then (blanks then (spelt "." then (blanks then empty))))))

tail_shut : (cs : List Phrase) → All WordyPhrase cs → Shut (tail_of cs) (flat cs)
unfolding tail_of
tail_shut cs h =
    after_sign (spelt "<-") _ (flat cs) signs.arrow
    (blank_shut _ (flat cs) (shut_as _ (flat cs ++ []) (flat cs) (append-nil (flat cs))
    (shut_then (with_commas (map written_phrase cs)) _ (flat cs) [] (phrases_shut cs h) (after_sign (spelt ".") _ [] signs.stop (blank_shut empty [] empty_shut)))))

q_is : bytes "Q" ≡ 81 ∷ []
unfolding bytes
q_is = refl

words_of : (q : Said) (s : List ℕ) → All Wordy q.«head» → All WordyPhrase q.conditions → Has (written q) s → words [] (drop 1 s) ≡ q.«head» ++ flat q.conditions
unfolding written written_phrase ◌~◌ bracketed tail_of Shut Has words put
words_of q s hw cw h =
    let a = h.0 in
    let b = h.1 in
    let x = h.3.1 in
    let e : s ≡ 81 ∷ (x ++ b) = h.2 ∙ ap (λ (y : List ℕ). y ++ b) (h.3.2 ∙ ap (λ (y : List ℕ). y ++ x) (word_is (bytes "Q") h.3.0 h.3.3 ∙ q_is)) in
    ap (λ (y : List ℕ). words [] (drop 1 y)) e
    ∙ bracketed_shut q.«head» hw x b h.3.4
    ∙ ap (λ (ws : List (List ℕ)). q.«head» ++ ws) (ap (words []) (sym (append-nil b)) ∙ tail_shut q.conditions cw b [] h.4 ∙ append-nil (flat q.conditions))

-- 5. From the words back to the head and the conditions.
abbrev IsVar : List ℕ → Type 0
IsVar w = is_variable w ≡ true

record VarPhrase (p : Phrase) : Type 0 where
  name : is_variable p.name ≡ false
  variables : All IsVar p.variables

phrases-head : (xs ws : List (List ℕ)) → All IsVar xs → phrases (xs ++ ws) ≡ record { «head» = xs ++ (phrases ws).«head»; conditions = (phrases ws).conditions }
unfolding All phrases with_word pick
phrases-head [] ws h = refl
phrases-head (x ∷ xs) ws h = rw h.0 (ap (λ (q : Said). record { «head» = x ∷ q.«head»; conditions = q.conditions }) (phrases-head xs ws h.1))

phrases-flat : (ps : List Phrase) → All VarPhrase ps → phrases (flat ps) ≡ record { «head» = []; conditions = ps }
unfolding All phrases with_word pick flat
phrases-flat [] h = refl
phrases-flat (p ∷ ps) h =
    let e = phrases-head p.variables (flat ps) h.0.variables ∙ ap (λ (q : Said). record { «head» = p.variables ++ q.«head»; conditions = q.conditions }) (phrases-flat ps h.1)
    ∙ ap (λ (v : List (List ℕ)). record { «head» = v; conditions = ps }) (append-nil p.variables) in
    rw h.0.name (ap (λ (q : Said). record { «head» = []; conditions = record { name = p.name; variables = q.«head» } ∷ q.conditions }) e)

-- 6. Variables, labels and axis names are words.
inside-append : (a b : List ℕ) → Inside a → Inside b → Inside (a ++ b)
unfolding Inside
inside-append [] b h k = k
inside-append (x ∷ a) b h k = (h.0, inside-append a b h.1 k)

inside_up : (rs : List Range) → ((b : ℕ) → Is (among rs b) → among in_word b ≡ true) → (n : ℕ) (a : List ℕ) → Has (up_to n (byte rs)) a → Inside a
unfolding up_to Has Inside
inside_up rs f zero a h = subst Inside (sym h) tt
inside_up rs f (suc n) a h =
    ⊎_elim (λ e. subst Inside (sym e) tt)
    (λ k. subst Inside (sym (k.2 ∙ ap (λ (x : List ℕ). x ++ k.1) k.3.1)) (f k.3.0 k.3.2, inside_up rs f n k.1 k.4))
    h

in_variable_word : (b : ℕ) → Is (among in_variable b) → among in_word b ≡ true
unfolding in_variable in_word among
in_variable_word b h =
    ⊎_elim (λ k. first _ _ k)
    (λ k. ⊎_elim (λ m. second _ _ (second _ _ (first _ _ m))) (λ m. absurd (false≢true m)) (either _ _ k))
    (either _ _ h)

in_label_word : (b : ℕ) → Is (among in_label b) → among in_word b ≡ true
unfolding in_label in_word among
in_label_word b h =
    ⊎_elim (λ k. second _ _ (first _ _ k))
    (λ k. ⊎_elim (λ m. second _ _ (second _ _ (first _ _ m)))
    (λ m. ⊎_elim (λ n. second _ _ (second _ _ (second _ _ (first _ _ n))))
    (λ n. ⊎_elim (λ o. second _ _ (second _ _ (second _ _ (second _ _ (first _ _ o))))) (λ o. absurd (false≢true o)) (either _ _ n))
    (either _ _ m)) (either _ _ k))
    (either _ _ h)

lower_word : (b : ℕ) → Is (among lower b) → among in_word b ≡ true
unfolding lower in_word among
lower_word b h = ⊎_elim (λ k. first _ _ k) (λ k. absurd (false≢true k)) (either _ _ h)

upper-word : (b : ℕ) → Is (among upper b) → among in_word b ≡ true
unfolding upper in_word among
upper-word b h = ⊎_elim (λ k. second _ _ (first _ _ k)) (λ k. absurd (false≢true k)) (either _ _ h)

upper_not_lower : (b : ℕ) → Is (among upper b) → among lower b ≡ false
unfolding upper lower apart apart_from ◌&◌ ◌or◌
upper_not_lower b h = go (among lower b) refl
  where
    go : (z : Bool) → among lower b ≡ z → z ≡ false
    go true e = absurd (apart_is upper lower b refl h e)
    go false e = refl

first_byte : (b : ℕ) (w a : List ℕ) → a ≡ b ∷ w → is_variable a ≡ among lower b
unfolding is_variable
first_byte b w a e = ap (λ (x : List ℕ). among lower (get_or x 0 0)) e

begun : (b : ℕ) (w a : List ℕ) → a ≡ b ∷ w → among in_word b ≡ true → Inside w → Wordy a
unfolding Inside
begun b w a e h k = record { inside = subst Inside (sym e) (h, k); some = (let n = ap length e in omega (arith, n)) }

record Told (v : Bool) (w : List ℕ) : Type 0 where
  wordy : Wordy w
  kind : is_variable w ≡ v

variable-told : (x : List ℕ) → Has variable x → Told true x
unfolding variable Has
variable-told x h =
    let e : x ≡ h.3.0 ∷ h.1 = h.2 ∙ ap (λ (y : List ℕ). y ++ h.1) h.3.1 in
    record {
      wordy = begun h.3.0 h.1 x e (lower_word h.3.0 h.3.2) (inside_up in_variable in_variable_word 7 h.1 h.4);
      kind = first_byte h.3.0 h.1 x e ∙ h.3.2;
    }

label-told : (x : List ℕ) → Has label x → Told false x
unfolding label Has
label-told x h =
    let e : x ≡ h.3.0 ∷ h.1 = h.2 ∙ ap (λ (y : List ℕ). y ++ h.1) h.3.1 in
    record {
      wordy = begun h.3.0 h.1 x e (upper-word h.3.0 h.3.2) (inside_up in_label in_label_word 15 h.1 h.4);
      kind = first_byte h.3.0 h.1 x e ∙ upper_not_lower h.3.0 h.3.2;
    }

-- of the axis names, one by one
unfoldable inside : List ℕ → Bool
inside [] = true
inside (b ∷ w) = among in_word b & inside w

inside_is : (w : List ℕ) → Is (inside w) → Inside w
unfolding inside Inside
inside_is [] h = tt
inside_is (b ∷ w) h = (both_l _ _ h, inside_is w (both_r _ _ h))

unfoldable names_wordy : List (List ℕ) → Bool
names_wordy [] = true
names_wordy (w ∷ ws) = inside w & (ltb 0 (length w) & (non (is_variable w) & names_wordy ws))

name_told : (w x : List ℕ) → Is (inside w) → Is (ltb 0 (length w)) → Is (non (is_variable w)) → x ≡ w → Told false x
unfolding non
name_told w x p q r e = record {
  wordy = record { inside = subst Inside (sym e) (inside_is w p); some = (let l = ltb-true 0 (length w) q in let n = ap length e in omega (arith, n, l)) };
  kind = ap is_variable e ∙ go (is_variable w) r;
}
  where
    go : (z : Bool) → non z ≡ true → z ≡ false
    go true h = absurd (false≢true h)
    go false h = refl

names-told : (ws : List (List ℕ)) → Is (names_wordy ws) → (x : List ℕ) → Has (any_of (map word ws)) x → Told false x
unfolding names_wordy any_of Has
names-told [] h x k = absurd k
names-told (w ∷ []) h x k = name_told w x (both_l _ _ h) (both_l _ _ (both_r _ _ h)) (both_l _ _ (both_r _ _ (both_r _ _ h))) (word_is w x k)
names-told (w ∷ v ∷ ws) h x k =
    ⊎_elim (λ m. name_told w x (both_l _ _ h) (both_l _ _ (both_r _ _ h)) (both_l _ _ (both_r _ _ (both_r _ _ h))) (word_is w x m))
    (λ m. names-told (v ∷ ws) (both_r _ _ (both_r _ _ (both_r _ _ h))) x m)
    k

axis-told : (x : List ℕ) → Has axis x → Told false x
unfolding axis axis-names axes bytes names_wordy inside is_variable non in_word lower among within ◌&◌ ◌or◌
axis-told x h = names-told axis-names refl x h

-- 7. A text says what it is written from.
all_as : {A : Type 0} (P Q : A → Type 0) → ((a : A) → P a → Q a) → (l : List A) → All P l → All Q l
unfolding All
all_as P Q f [] h = tt
all_as P Q f (a ∷ l) h = (f a h.0, all_as P Q f l h.1)

condition_wordy : (p : Phrase) → IsCondition p → WordyPhrase p
unfolding IsCondition All
condition_wordy p h =
    ⊎_elim
    (λ k. record { name = (label-told p.name k.0).wordy; variables = subst (All Wordy) (sym k.1.1) ((variable-told k.1.0 k.1.2).wordy, tt) })
    (λ k. record { name = (axis-told p.name k.0).wordy; variables = subst (All Wordy) (sym k.1.2) ((variable-told k.1.0 k.1.3).wordy, ((variable-told k.1.1 k.1.4).wordy, tt)) })
    h

condition_kinds : (p : Phrase) → IsCondition p → VarPhrase p
unfolding IsCondition All
condition_kinds p h =
    ⊎_elim
    (λ k. record { name = (label-told p.name k.0).kind; variables = subst (All IsVar) (sym k.1.1) ((variable-told k.1.0 k.1.2).kind, tt) })
    (λ k. record { name = (axis-told p.name k.0).kind; variables = subst (All IsVar) (sym k.1.2) ((variable-told k.1.0 k.1.3).kind, ((variable-told k.1.1 k.1.4).kind, tt)) })
    h

pub says_one : (q : Said) (s : List ℕ) → IsSaid q → Has (written q) s → said s ≡ q
unfolding said
says_one q s g h =
    ap phrases (words_of q s (all_as (Has variable) Wordy (λ x k. (variable-told x k).wordy) q.«head» g.variables) (all_as IsCondition WordyPhrase condition_wordy q.conditions g.conditions) h)
    ∙ phrases-head q.«head» (flat q.conditions) (all_as (Has variable) IsVar (λ x k. (variable-told x k).kind) q.«head» g.variables)
    ∙ ap (λ (r : Said). record { «head» = q.«head» ++ r.«head»; conditions = r.conditions }) (phrases-flat q.conditions (all_as IsCondition VarPhrase condition_kinds q.conditions g.conditions))
    ∙ ap (λ (v : List (List ℕ)). record { «head» = v; conditions = q.conditions }) (append-nil q.«head»)
