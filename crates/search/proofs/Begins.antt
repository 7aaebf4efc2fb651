-- The query text and what is behind it, byte after byte. Assumes nothing.
use mathlib.Core.Path.{◌≡◌, refl, sym, ap, subst, ◌∙◌}
use mathlib.Core.Bool.{Bool, true, false, false≢true}
use mathlib.Core.List.{List, [], ◌∷◌, ◌++◌, append-nil}
use Prim.Native.Nat.{ℕ, zero, suc, ◌+◌, ◌≤◌, ◌<◌}
use native.Mathlib.Omega.{arith}
use lib.Dec.{ltb}
use lib.ListN.{length, get_or, take, drop, drop_of_length-le}
use lib.Seq.{take-suc, drop-cons, append_snoc}
use borrow.Author.Tests.{eq-eqb, ne_eqb, ltb-false}
use Rattle.std.specs.Prelude.{◌==◌, Result, Ok, Err, position, None}
use Rattle.std.specs.List.{position_or_len}
use Rattle.std.proofs.lemmas.Grind.{common_steps}
use Rattle.std.proofs.lemmas.List.Sums.{fails_before_first}
use Rattle.meaning.specs.Names.{pick}
use Rattle.meaning.specs.Texts.{pick as choose, Place, legal, bad}
use Rattle.meaning.specs.Places.{place}
use Rattle.meaning.specs.QueryTexts.{query, Said, said, names, closed, query_of, outside, twice, unused, answer_of, answer_at, answer, reading_of, reading}
use Rattle.meaning.specs.declared.QueryReading.{QueryReading}
use Rattle.meaning.specs.declared.Refusal.{Refusal}
use Rattle.meaning.specs.declared.Refusal.TheVariants.{Counts, Variables, HeadVariable, ShortBuffer}
use Rattle.meaning.specs.Run.{query_text_of, behind}

-- no full stop up to place i: the query text goes on there
pub record Goes (s : List ℕ) (i : ℕ) : Type 0 where
  pub inside : i ≤ length s
  pub text : query_text_of s ≡ take i s ++ query_text_of (drop i s)
  pub rest : behind s ≡ behind (drop i s)

pub goes_start : (s : List ℕ) → Goes s 0
goes_start s = record { inside = omega arith; text = refl; rest = refl }

module _ (s : List ℕ) (i : ℕ) (G : Goes s i) (l : i < length s) where
  here : drop i s ≡ get_or s i 0 ∷ drop (suc i) s
  here = drop-cons s i 0 l

  one : i + 1 ≡ suc i
  one = omega arith

  pub goes_next : (get_or s i 0 ≡ 46 → ⊥) → Goes s (i + 1)
  unfolding query_text_of behind pick
  goes_next ne =
      let n = ne_eqb (get_or s i 0) 46 ne in
      record {
        inside = omega (arith, l);
        text =
            G.text
            ∙ (ap (λ (x : List ℕ). take i s ++ query_text_of x) here
            ∙ (ap (λ (b : Bool). take i s ++ (get_or s i 0 ∷ pick b [] (query_text_of (drop (suc i) s)))) n
            ∙ (sym (append_snoc (take i s) (get_or s i 0) (query_text_of (drop (suc i) s)))
            ∙ (ap (λ (x : List ℕ). x ++ query_text_of (drop (suc i) s)) (sym (take-suc s i 0 l)) ∙ ap (λ (k : ℕ). take k s ++ query_text_of (drop k s)) (sym one)))));
        rest =
            G.rest
            ∙ (ap behind here
            ∙ (ap (λ (b : Bool). pick b (drop (suc i) s) (behind (drop (suc i) s))) n ∙ ap (λ (k : ℕ). behind (drop k s)) (sym one)));
      }

  pub goes_stop : get_or s i 0 ≡ 46 → (i + 1 ≤ length s) × (take (i + 1) s ≡ query_text_of s) × (drop (i + 1) s ≡ behind s)
  unfolding query_text_of behind pick
  goes_stop eq =
      let n = eq-eqb (get_or s i 0) 46 eq in (
        omega (arith, l),
        ap (λ (k : ℕ). take k s) one
            ∙ (take-suc s i 0 l
            ∙ sym (G.text ∙ (ap (λ (x : List ℕ). take i s ++ query_text_of x) here ∙ ap (λ (b : Bool). take i s ++ (get_or s i 0 ∷ pick b [] (query_text_of (drop (suc i) s)))) n))),
        ap (λ (k : ℕ). drop k s) one ∙ sym (G.rest ∙ (ap behind here ∙ ap (λ (b : Bool). pick b (drop (suc i) s) (behind (drop (suc i) s))) n)),
      )

pub goes_end : (s : List ℕ) (i : ℕ) → Goes s i → length s ≤ i → (i ≤ length s) × (take i s ≡ query_text_of s) × (drop i s ≡ behind s)
unfolding query_text_of behind
goes_end s i G m =
    let e = drop_of_length-le s {i = i} m in (
      G.inside,
      sym (G.text ∙ (ap (λ (x : List ℕ). take i s ++ query_text_of x) e ∙ append-nil (take i s))),
      e ∙ sym (G.rest ∙ ap behind e),
    )

-- The names of a text that was read fit the buffer.
bytes_of : Result ℕ Refusal → ℕ
bytes_of (Ok n) = n
bytes_of (Err r) = 0

is_read : Result ℕ Refusal → Bool
is_read (Ok n) = true
is_read (Err r) = false

not_read : (n : ℕ) (r : Refusal) → Err r ≡ Ok n → ⊥
unfolding is_read
not_read n r e = let z : ◌≡◌ {A = Bool} false true = ap is_read e in absurd (let y : ◌≡◌ {A = ℕ} 0 1 = cc in omega arith)

answered-fit : (s : List ℕ) (m n : ℕ) → answer s m ≡ Ok n → n ≤ m
unfolding answer answer_at answer_of choose bytes_of
answered-fit s m n e = go (place query s) e
  where
    long : ℕ
    long = length (closed (names (said s)))

    last : (b : Bool) → ltb m long ≡ b → choose b (Err ShortBuffer) (Ok long) ≡ Ok n → n ≤ m
    last true q h = absurd (not_read n _ h)
    last false q h = let l = ltb-false m long q in let d : long ≡ n = ap bytes_of h in omega (arith, l, d)

    tries : (a b c : Bool) → choose a (Err Counts) (choose b (Err Variables) (choose c (Err HeadVariable) (choose (ltb m long) (Err ShortBuffer) (Ok long)))) ≡ Ok n → n ≤ m
    tries true b c h = absurd (not_read n _ h)
    tries false true c h = absurd (not_read n _ h)
    tries false false true h = absurd (not_read n _ h)
    tries false false false h = last (ltb m long) refl h

    go : (p : Place) → answer_at p (said s) m ≡ Ok n → n ≤ m
    go legal h = tries (outside (said s)) (twice (query_of (said s))) (unused (query_of (said s))) h
    go (bad p) h = absurd (not_read n _ h)

-- the bytes of a reading are those of the answer
read_as : (a : Result ℕ Refusal) (q : Said) (x : QueryReading) → reading_of a q ≡ Ok x → a ≡ Ok x.bytes
unfolding reading_of
read_as (Ok n) q x e = cc
read_as (Err r) q x e = absurd (let y : ◌≡◌ {A = ℕ} 0 1 = cc in omega arith)

pub names-fit : (s : List ℕ) (m : ℕ) (x : QueryReading) → reading s m ≡ Ok x → x.bytes ≤ m
unfolding reading
names-fit s m x e = answered-fit s m x.bytes (read_as (answer s m) (said s) x e)

-- where the first full stop stands, or that there is none
abbrev pub is_stop : ℕ → Bool
is_stop b = b == 46

-- no full stop stands before place i
pub goes_to : (s : List ℕ) (i : ℕ) → i ≤ length s → ((k : ℕ) → k < i → is_stop (get_or s k 0) ≡ false) → Goes s i
goes_to s zero h f = goes_start s
goes_to s (suc i) h f =
    let e : i + 1 ≡ suc i = omega arith in
    subst (Goes s) e (goes_next s i (goes_to s i (omega (arith, h)) (λ k l. f k (omega (arith, l)))) (omega (arith, h)) (λ d. false≢true (sym (f i (omega arith)) ∙ eq-eqb (get_or s i 0) 46 d)))

no_stop : (s : List ℕ) → position is_stop s ≡ None → length s ≤ position_or_len is_stop s
no_stop s e = grind (arith, common_steps)

pub goes_through : (s : List ℕ) → position is_stop s ≡ None → Goes s (length s)
goes_through s e = goes_to s (length s) (omega arith) (λ k l. fails_before_first is_stop s k 0 (omega (arith, l, no_stop s e)))
