-- The legal texts are the texts that are written from a head and one or more conditions: of each legal text the head and
-- the conditions are those that it says. Assumes nothing.
use mathlib.Core.Path.{◌≡◌, refl, sym, ap, ◌∙◌, subst}
use mathlib.Core.Logic.{inl, inr, ⊎_elim}
use mathlib.Core.List.{List, [], ◌∷◌, ◌++◌, append_assoc, append-nil, map}
use Prim.Native.Nat.{ℕ, zero, suc}
use Rattle.meaning.specs.Axes.{bytes}
use Rattle.meaning.specs.Texts.{Form, byte, ◌then◌, ◌∣◌, Has, Times, word, spelt}
use Rattle.meaning.specs.QueryTexts.{blank, variable, label, axis, blanks, ◌~◌, listed, head, condition, query, Phrase, Said, with_commas, written_phrase, written, All, IsCondition, IsSaid, said}
use Rattle.query_text.proofs.SaidLaws.{word_is, word-has, says_one}

-- 1. Lists with commas, item by item.
module _ {T : Type 0} (f : Form) (w : T → Form) (G : T → Type 0) where
  record Items (a : List ℕ) : Type 0 where
    one : T
    others : List T
    one_good : G one
    others_good : All G others
    text : Has (with_commas (map w (one ∷ others))) a

  abbrev next : Form
  next = blanks then (spelt "," then (blanks then f))

  regroup : (b c d e t : List ℕ) → (b ++ (c ++ (d ++ e))) ++ t ≡ b ++ (c ++ (d ++ (e ++ t)))
  regroup b c d e t = simp append_assoc

  items_from : ((a : List ℕ) → Has f a → (x : T) × G x × Has (w x) a) → (n : ℕ) (a d : List ℕ) → Has f a → Times (Has next) n d → Items (a ++ d)
  unfolding Has Times with_commas ◌~◌ All
  items_from out zero a d h k =
      let y = out a h in
      record { one = y.0; others = []; one_good = y.1; others_good = tt; text = subst (Has (w y.0)) (sym (ap (λ (x : List ℕ). a ++ x) k ∙ append-nil a)) y.2 }
  items_from out (suc n) a d h k =
      let y = out a h in
      let c = k.3 in
      let m = c.4 in
      let o = m.4 in
      let r = items_from out n o.1 k.1 o.4 k.4 in
      let e : d ≡ c.0 ++ (m.0 ++ (o.0 ++ (o.1 ++ k.1))) =
      k.2 ∙ ap (λ (x : List ℕ). x ++ k.1) (c.2 ∙ ap (λ (x : List ℕ). c.0 ++ x) (m.2 ∙ ap (λ (x : List ℕ). m.0 ++ x) o.2)) ∙ regroup c.0 m.0 o.0 o.1 k.1 in
      record {
        one = y.0;
        others = r.one ∷ r.others;
        one_good = y.1;
        others_good = (r.one_good, r.others_good);
        text = (a, d, refl, y.2, (c.0, m.0 ++ (o.0 ++ (o.1 ++ k.1)), e, c.3, (m.0, o.0 ++ (o.1 ++ k.1), refl, m.3, (o.0, o.1 ++ k.1, refl, o.3, r.text))));
      }

  items : ((a : List ℕ) → Has f a → (x : T) × G x × Has (w x) a) → (a : List ℕ) → Has (listed f) a → Items a
  unfolding Has listed ◌~◌
  items out a h = subst Items (sym h.2) (items_from out h.4.0 h.0 h.1 h.3 h.4.1)

  listed-from : ((x : T) → G x → (a : List ℕ) → Has (w x) a → Has f a) → (x : T) (xs : List T) → G x → All G xs → (a : List ℕ) → Has (with_commas (map w (x ∷ xs))) a
      → (b : List ℕ) × (d : List ℕ) × (a ≡ b ++ d) × Has f b × ((n : ℕ) × Times (Has next) n d)
  unfolding Has Times with_commas ◌~◌ All
  listed-from back x [] g gs a h = (a, [], sym (append-nil a), back x g a h, (0, refl))
  listed-from back x (y ∷ xs) g gs a h =
      let c = h.4 in
      let m = c.4 in
      let o = m.4 in
      let r = listed-from back y xs gs.0 gs.1 o.1 o.4 in (
        h.0,
        h.1,
        h.2,
        back x g h.0 h.3,
        (
          suc r.4.0,
          (
            c.0 ++ (m.0 ++ (o.0 ++ r.0)),
            r.1,
            c.2 ∙ ap (λ (z : List ℕ). c.0 ++ z) (m.2 ∙ ap (λ (z : List ℕ). m.0 ++ z) (o.2 ∙ ap (λ (z : List ℕ). o.0 ++ z) r.2)) ∙ sym (regroup c.0 m.0 o.0 r.0 r.1),
            (c.0, m.0 ++ (o.0 ++ r.0), refl, c.3, (m.0, o.0 ++ r.0, refl, m.3, (o.0, r.0, refl, o.3, r.3))),
            r.4.1,
          ),
        ),
      )

-- 2. A condition.
pair_out : (x b c d y t r₁ r₂ r₃ r₄ r₅ : List ℕ) → r₁ ≡ x ++ r₂ → r₂ ≡ b ++ r₃ → r₃ ≡ c ++ r₄ → r₄ ≡ d ++ r₅ → r₅ ≡ y ++ t → r₁ ≡ (x ++ (b ++ (c ++ (d ++ y)))) ++ t
pair_out x b c d y t r₁ r₂ r₃ r₄ r₅ e₁ e₂ e₃ e₄ e₅ =
    e₁ ∙ ap (λ (z : List ℕ). x ++ z) (e₂ ∙ ap (λ (z : List ℕ). b ++ z) (e₃ ∙ ap (λ (z : List ℕ). c ++ z) (e₄ ∙ ap (λ (z : List ℕ). d ++ z) e₅))) ∙ sym (simp append_assoc)

condition_out : (a : List ℕ) → Has condition a → (p : Phrase) × IsCondition p × Has (written_phrase p) a
unfolding condition written_phrase with_commas ◌~◌ Has IsCondition
condition_out a h =
    ⊎_elim
    (λ k. let o = k.4.4.4.4 in (
      record { name = k.0; variables = o.0 ∷ [] },
      inl (k.3, (o.0, refl, o.3)),
      (k.0, k.1, k.2, word-has k.0, (k.4.0, k.4.1, k.4.2, k.4.3, (k.4.4.0, k.4.4.1, k.4.4.2, k.4.4.3, (k.4.4.4.0, k.4.4.4.1, k.4.4.4.2, k.4.4.4.3, (o.0, o.1, o.2, word-has o.0, o.4))))),
    ))
    (λ k. let o = k.4.4.4.4 in let b = o.4 in let m = b.4 in let d = m.4 in let y = d.4 in (
      record { name = k.0; variables = o.0 ∷ y.0 ∷ [] },
      inr (k.3, (o.0, y.0, refl, o.3, y.3)),
      (
        k.0,
        k.1,
        k.2,
        word-has k.0,
        (
          k.4.0,
          k.4.1,
          k.4.2,
          k.4.3,
          (
            k.4.4.0,
            k.4.4.1,
            k.4.4.2,
            k.4.4.3,
            (
              k.4.4.4.0,
              k.4.4.4.1,
              k.4.4.4.2,
              k.4.4.4.3,
              (
                o.0 ++ (b.0 ++ (m.0 ++ (d.0 ++ y.0))),
                y.1,
                pair_out o.0 b.0 m.0 d.0 y.0 y.1 k.4.4.4.1 o.1 b.1 m.1 d.1 o.2 b.2 m.2 d.2 y.2,
                (o.0, b.0 ++ (m.0 ++ (d.0 ++ y.0)), refl, word-has o.0, (b.0, m.0 ++ (d.0 ++ y.0), refl, b.3, (m.0, d.0 ++ y.0, refl, m.3, (d.0, y.0, refl, d.3, word-has y.0)))),
                y.4,
              ),
            ),
          ),
        ),
      ),
    ))
    h

as_is : (f : Form) (w a : List ℕ) → Has f w → Has (word w) a → Has f a
as_is f w a h k = subst (Has f) (sym (word_is w a k)) h

label_back : (n x a : List ℕ) → Has label n → Has variable x → Has (written_phrase (record { name = n; variables = x ∷ [] })) a → Has condition a
unfolding condition written_phrase with_commas ◌~◌ Has
label_back n x a hn hx k =
    let o = k.4.4.4.4 in
    inl (k.0, k.1, k.2, as_is label n k.0 hn k.3, (k.4.0, k.4.1, k.4.2, k.4.3, (k.4.4.0, k.4.4.1, k.4.4.2, k.4.4.3, (k.4.4.4.0, k.4.4.4.1, k.4.4.4.2, k.4.4.4.3, (o.0, o.1, o.2, as_is variable x o.0 hx o.3, o.4)))))

pair_back : (u x b c d y t r₁ r₂ r₃ r₄ : List ℕ) → u ≡ x ++ r₁ → r₁ ≡ b ++ r₂ → r₂ ≡ c ++ r₃ → r₃ ≡ d ++ y → u ++ t ≡ x ++ (b ++ (c ++ (d ++ (y ++ t))))
pair_back u x b c d y t r₁ r₂ r₃ r₄ e₁ e₂ e₃ e₄ =
    ap (λ (z : List ℕ). z ++ t) (e₁ ∙ ap (λ (z : List ℕ). x ++ z) (e₂ ∙ ap (λ (z : List ℕ). b ++ z) (e₃ ∙ ap (λ (z : List ℕ). c ++ z) e₄))) ∙ simp append_assoc

axis_back : (n x y a : List ℕ) → Has axis n → Has variable x → Has variable y → Has (written_phrase (record { name = n; variables = x ∷ y ∷ [] })) a → Has condition a
unfolding condition written_phrase with_commas ◌~◌ Has
axis_back n x y a hn hx hy k =
    let l = k.4.4.4.4 in
    let o = l.3 in
    let b = o.4 in
    let m = b.4 in
    let d = m.4 in
    inr (
      k.0,
      k.1,
      k.2,
      as_is axis n k.0 hn k.3,
      (
        k.4.0,
        k.4.1,
        k.4.2,
        k.4.3,
        (
          k.4.4.0,
          k.4.4.1,
          k.4.4.2,
          k.4.4.3,
          (
            k.4.4.4.0,
            k.4.4.4.1,
            k.4.4.4.2,
            k.4.4.4.3,
            (
              o.0,
              b.0 ++ (m.0 ++ (d.0 ++ (d.1 ++ l.1))),
              l.2 ∙ pair_back l.0 o.0 b.0 m.0 d.0 d.1 l.1 o.1 b.1 m.1 [] o.2 b.2 m.2 d.2,
              as_is variable x o.0 hx o.3,
              (b.0, m.0 ++ (d.0 ++ (d.1 ++ l.1)), refl, b.3, (m.0, d.0 ++ (d.1 ++ l.1), refl, m.3, (d.0, d.1 ++ l.1, refl, d.3, (d.1, l.1, refl, as_is variable y d.1 hy d.4, l.4)))),
            ),
          ),
        ),
      ),
    )

condition_back : (p : Phrase) → IsCondition p → (a : List ℕ) → Has (written_phrase p) a → Has condition a
unfolding IsCondition
condition_back p g a h =
    ⊎_elim
    (λ k. label_back p.name k.1.0 a k.0 k.1.2 (subst (λ (v : List (List ℕ)). Has (written_phrase (record { name = p.name; variables = v })) a) k.1.1 h))
    (λ k. axis_back p.name k.1.0 k.1.1 a k.0 k.1.3 k.1.4 (subst (λ (v : List (List ℕ)). Has (written_phrase (record { name = p.name; variables = v })) a) k.1.2 h))
    g

-- 3. The head.
abbrev shutting : Form
shutting = spelt ")" ∣ (listed variable then (blanks then spelt ")"))

variable_out : (a : List ℕ) → Has variable a → (x : List ℕ) × Has variable x × Has (word x) a
variable_out a h = (a, h, word-has a)

variable_back : (x : List ℕ) → Has variable x → (a : List ℕ) → Has (word x) a → Has variable a
variable_back x g a h = as_is variable x a g h

shutting_out : (a : List ℕ) → Has shutting a → (xs : List (List ℕ)) × All (Has variable) xs × Has (with_commas (map word xs) then (blanks then spelt ")")) a
unfolding Has Times with_commas blanks All
shutting_out a h =
    ⊎_elim
    (λ k. ([], tt, ([], a, refl, refl, ([], a, refl, (0, refl), k))))
    (λ k. let r = items variable word (Has variable) variable_out k.0 k.3 in (r.one ∷ r.others, (r.one_good, r.others_good), (k.0, k.1, k.2, r.text, k.4)))
    h

shutting_back : (xs : List (List ℕ)) → All (Has variable) xs → (a : List ℕ) → Has (with_commas (map word xs) then (blanks then spelt ")")) a → Has (blanks then shutting) a
unfolding Has Times with_commas blanks All listed ◌~◌
shutting_back [] g a h = (h.4.0, h.4.1, h.2 ∙ ap (λ (z : List ℕ). z ++ h.1) h.3 ∙ h.4.2, h.4.3, inl h.4.4)
shutting_back (x ∷ xs) g a h = ([], a, refl, (0, refl), inr (h.0, h.1, h.2, listed-from variable word (Has variable) variable_back x xs g.0 g.1 h.0 h.3, h.4))

joined : (n m : ℕ) (c d : List ℕ) → Times (Has (byte blank)) n c → Times (Has (byte blank)) m d → (k : ℕ) × Times (Has (byte blank)) k (c ++ d)
unfolding Times
joined zero m c d h k = (m, subst (Times (Has (byte blank)) m) (sym (ap (λ (z : List ℕ). z ++ d) h)) k)
joined (suc n) m c d h k =
    let r = joined n m h.1 d h.4 k in
    (suc r.0, (h.0, h.1 ++ d, ap (λ (z : List ℕ). z ++ d) h.2 ∙ append_assoc h.0 h.1 d, h.3, r.1))

more-blank : (g : Form) (a : List ℕ) → Has (blanks then (blanks then g)) a → Has (blanks then g) a
unfolding Has blanks
more-blank g a h =
    (h.0 ++ h.4.0, h.4.1, h.2 ∙ ap (λ (z : List ℕ). h.0 ++ z) h.4.2 ∙ sym (append_assoc h.0 h.4.0 h.4.1), twice h.3.0 h.0 h.3.1, h.4.4)
  where
    twice : (n : ℕ) (c : List ℕ) → Times (Has (byte blank)) n c → (m : ℕ) × Times (Has (byte blank)) m (c ++ h.4.0)
    twice n c k = joined n h.4.3.0 c h.4.0 k h.4.3.1

head_out : (a : List ℕ) → Has head a → (xs : List (List ℕ)) × All (Has variable) xs × Has (written_phrase (record { name = bytes "Q"; variables = xs })) a
unfolding head written_phrase ◌~◌ Has spelt
head_out a h =
    let r = shutting_out h.4.4.4.1 h.4.4.4.4 in
    (r.0, r.1, (h.0, h.1, h.2, h.3, (h.4.0, h.4.1, h.4.2, h.4.3, (h.4.4.0, h.4.4.1, h.4.4.2, h.4.4.3, (h.4.4.4.0, h.4.4.4.1, h.4.4.4.2, h.4.4.4.3, r.2)))))

head_back : (xs : List (List ℕ)) → All (Has variable) xs → (a : List ℕ) → Has (written_phrase (record { name = bytes "Q"; variables = xs })) a → Has head a
unfolding head written_phrase ◌~◌ Has spelt
head_back xs g a h =
    let b = h.4.4.4 in (
      h.0,
      h.1,
      h.2,
      h.3,
      (
        h.4.0,
        h.4.1,
        h.4.2,
        h.4.3,
        (
          h.4.4.0,
          h.4.4.1,
          h.4.4.2,
          h.4.4.3,
          more-blank shutting h.4.4.1 (b.0, b.1, b.2, b.3, shutting_back xs g b.1 b.4),
        ),
      ),
    )

-- 4. The whole text.
legal-written : (s : List ℕ) → Has query s → (q : Said) × IsSaid q × Has (written q) s
unfolding query written ◌~◌ Has All
legal-written s h =
    let l = h.4.4.4.4 in
    let x = head_out h.0 h.3 in
    let r = items condition written_phrase IsCondition condition_out l.0 l.3 in (
      record { «head» = x.0; conditions = r.one ∷ r.others },
      record { variables = x.1; conditions = (r.one_good, r.others_good) },
      (h.0, h.1, h.2, x.2, (h.4.0, h.4.1, h.4.2, h.4.3, (h.4.4.0, h.4.4.1, h.4.4.2, h.4.4.3, (h.4.4.4.0, h.4.4.4.1, h.4.4.4.2, h.4.4.4.3, (l.0, l.1, l.2, r.text, l.4))))),
    )

-- a legal text is a way to write what it says
pub legal_says : (s : List ℕ) → Has query s → IsSaid (said s) × Has (written (said s)) s
legal_says s h =
    let w = legal-written s h in
    let e : w.0 ≡ said s = sym (says_one w.0 s w.1 w.2) in
    (subst IsSaid e w.1, subst (λ (q : Said). Has (written q) s) e w.2)

-- and each way to write a head and one or more conditions is a legal text, which says them
pub written-legal : (xs : List (List ℕ)) (p : Phrase) (ps : List Phrase) (s : List ℕ) → IsSaid (record { «head» = xs; conditions = p ∷ ps }) → Has (written (record { «head» = xs; conditions = p ∷ ps })) s
    → Has query s × (said s ≡ record { «head» = xs; conditions = p ∷ ps })
unfolding query written ◌~◌ Has All listed
written-legal xs p ps s g h =
    let l = h.4.4.4.4 in (
      (
        h.0,
        h.1,
        h.2,
        head_back xs g.variables h.0 h.3,
        (
          h.4.0,
          h.4.1,
          h.4.2,
          h.4.3,
          (
            h.4.4.0,
            h.4.4.1,
            h.4.4.2,
            h.4.4.3,
            (
              h.4.4.4.0,
              h.4.4.4.1,
              h.4.4.4.2,
              h.4.4.4.3,
              (l.0, l.1, l.2, listed-from condition written_phrase IsCondition condition_back p ps g.conditions.0 g.conditions.1 l.0 l.3, l.4),
            ),
          ),
        ),
      ),
      says_one (record { «head» = xs; conditions = p ∷ ps }) s g h,
    )
