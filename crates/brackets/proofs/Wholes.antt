-- The whole reader path by path. Assumes nothing.
use Rattle.std.proofs.Common.{Err, ◌≡◌, sym, ap, ◌∙◌, subst, true, false, List, ℕ, ◌+◌, ◌-◌, ◌*◌, ◌≤◌, ◌<◌, arith, length, get_or, drop}
use Rattle.meaning.specs.Tests.{Is}
use Rattle.meaning.specs.Names.{pick, label_number}
use Rattle.meaning.specs.Sentences.{inner, Tree, plain, bare, tree_of, posts, labels}
use Rattle.brackets.specs.Reader.{skip}
use Rattle.brackets.specs.Reader.{Got, got, wrong, over, lost, then, blanks, heads, closing, paired, reading, read_tree}
use Rattle.brackets.specs.Numbers.{Answer, read, read-refused, read_rows, read-end}
use Rattle.brackets.specs.Meets.{Meets, MeetsTree, sent_posts, sent_labels, MeetsWhole}
use Rattle.brackets.proofs.Paths.{head-drop, heads_yes, heads-no, drop-one, place_of, meets_wrong}
use Rattle.meaning.specs.declared.Refusal.{Refusal}
use Rattle.meaning.specs.declared.Refusal.TheVariants.{Brackets}

module _ (s list : List ℕ) (a : ℕ) (A : drop a s ≡ skip s) (i : a ≤ length s) (post post' lab lab' : List ℕ) where
  pub whole_none : (get_or s a 0 ≡ 40 → ⊥) → MeetsWhole s list (Err (Brackets a)) post post' lab lab'
  unfolding reading pick
  whole_none h = meets_wrong sent_posts (sent_labels (label_number list)) s 0 post post' lab lab' _ a i (rw (ap (heads 40) (sym A) ∙ heads-no s a 40 h) (ap wrong (sym A)))

  module _ (h : get_or s a 0 ≡ 40) where
    begins : heads 40 (skip s) ≡ true
    begins = ap (heads 40) (sym A) ∙ heads_yes s a 40 h

    behind : drop 1 (skip s) ≡ drop (a + 1) s
    behind = ap (drop 1) (sym A) ∙ drop-one s a

    next_is : get_or (drop 1 (skip s)) 0 0 ≡ get_or s (a + 1) 0
    next_is = ap (λ (y : List ℕ). get_or y 0 0) behind ∙ head-drop s (a + 1)

    pub whole_plain : Is (inner (get_or s (a + 1) 0)) → (r : Answer) → MeetsTree s list (a + 1) 64 0 r post post' lab lab' → MeetsWhole s list r post post' lab lab'
    unfolding reading pick Meets then sent_posts sent_labels tree_of
    whole_plain k r T =
        rw (begins, ap inner next_is ∙ k)
        (go (read_tree (2 * length s + 2) (drop 1 (skip s)) 64 1024)
        (subst (λ (z : List ℕ). Meets (posts 0) (labels (label_number list)) s 0 (read_tree (2 * length s + 2) z 64 1024) r post post' lab lab') (sym behind) (T (2 * length s + 2))))
      where
        go : (g : Got Tree) → Meets (posts 0) (labels (label_number list)) s 0 g r post post' lab lab' → Meets sent_posts (sent_labels (label_number list)) s 0 (then g (λ t z. got (plain (blanks s) t) z)) r post post' lab lab'
        go (got t z) M = M
        go (wrong z) M = M
        go (over z) M = M
        go lost M = tt

    module _ (k : inner (get_or s (a + 1) 0) ≡ false) (b : ℕ) (B : drop b s ≡ skip (drop (a + 1) s)) (j : b ≤ length s) where
      inside_is : skip (drop 1 (skip s)) ≡ drop b s
      inside_is = ap skip behind ∙ sym B

      pub whole-empty : (get_or s b 0 ≡ 40 → ⊥) → MeetsWhole s list (Err (Brackets b)) post post' lab lab'
      unfolding reading paired pick
      whole-empty q =
          meets_wrong sent_posts (sent_labels (label_number list)) s 0 post post' lab lab' _ b j
          (rw (begins, ap inner next_is ∙ k, ap (heads 40) inside_is ∙ heads-no s b 40 q) (ap wrong inside_is))

      module _ (q : get_or s b 0 ≡ 40) (r : Answer) (T : MeetsTree s list (b + 1) 64 0 r post post' lab lab') where
        tree_as : Meets (posts 0) (labels (label_number list)) s 0 (read_tree (2 * length s + 2) (drop 1 (skip (drop 1 (skip s)))) 64 1024) r post post' lab lab'
        tree_as = subst (λ (z : List ℕ). Meets (posts 0) (labels (label_number list)) s 0 (read_tree (2 * length s + 2) z 64 1024) r post post' lab lab') (sym (ap (drop 1) inside_is ∙ drop-one s b)) (T (2 * length s + 2))

        read_as : reading s ≡ then (read_tree (2 * length s + 2) (drop 1 (skip (drop 1 (skip s)))) 64 1024) (λ t z. closing (bare (blanks s) (blanks (drop 1 (skip s))) t (blanks z)) (skip z))
        unfolding reading paired pick
        read_as = rw (begins, ap inner next_is ∙ k, ap (heads 40) inside_is ∙ heads_yes s b 40 q)

        pub whole-refused : (why : Refusal) → r ≡ Err why → (p₂ l₂ : List ℕ) → MeetsWhole s list (Err why) post p₂ lab l₂
        unfolding Meets then
        whole-refused why d p₂ l₂ = rw read_as (go (read_tree (2 * length s + 2) (drop 1 (skip (drop 1 (skip s)))) 64 1024) tree_as)
          where
            go : (g : Got Tree) → Meets (posts 0) (labels (label_number list)) s 0 g r post post' lab lab' → Meets sent_posts (sent_labels (label_number list)) s 0 (then g (λ t z. closing (bare (blanks s) (blanks (drop 1 (skip s))) t (blanks z)) (skip z))) (Err why) post p₂ lab l₂
            go (got t z) M = absurd (read-refused _ _ (sym M.is ∙ d))
            go (wrong z) M = sym d ∙ M
            go (over z) M = sym d ∙ M
            go lost M = tt

        module _ (next rows : ℕ) (d : r ≡ read rows next) (y : ℕ) (Y : drop y s ≡ skip (drop next s)) (z₀ : y ≤ length s) where
          pub whole_open : (get_or s y 0 ≡ 41 → ⊥) → (p₂ l₂ : List ℕ) → MeetsWhole s list (Err (Brackets y)) post p₂ lab l₂
          unfolding Meets then closing pick
          whole_open n p₂ l₂ = rw read_as (go (read_tree (2 * length s + 2) (drop 1 (skip (drop 1 (skip s)))) 64 1024) tree_as)
            where
              go : (g : Got Tree) → Meets (posts 0) (labels (label_number list)) s 0 g r post post' lab lab' → Meets sent_posts (sent_labels (label_number list)) s 0 (then g (λ t z. closing (bare (blanks s) (blanks (drop 1 (skip s))) t (blanks z)) (skip z))) (Err (Brackets y)) post p₂ lab l₂
              go (got t z) M =
                  let R : skip z ≡ drop y s = ap skip (M.rest_is ∙ ap (λ (k : ℕ). drop k s) (read-end _ _ (sym M.is ∙ d))) ∙ sym Y in
                  rw (ap (heads 41) R ∙ heads-no s y 41 n) (ap (λ (k : ℕ). Err (Brackets k)) (sym (place_of s y z₀) ∙ ap (λ (x : List ℕ). length s - length x) (sym R)))
              go (wrong z) M = absurd (read-refused _ _ (sym d ∙ M))
              go (over z) M = absurd (read-refused _ _ (sym d ∙ M))
              go lost M = tt

          pub whole_done : get_or s y 0 ≡ 41 → y < length s → MeetsWhole s list (read rows (y + 1)) post post' lab lab'
          unfolding Meets then closing pick sent_posts sent_labels tree_of
          whole_done n m = rw read_as (go (read_tree (2 * length s + 2) (drop 1 (skip (drop 1 (skip s)))) 64 1024) tree_as)
            where
              go : (g : Got Tree) → Meets (posts 0) (labels (label_number list)) s 0 g r post post' lab lab' → Meets sent_posts (sent_labels (label_number list)) s 0 (then g (λ t z. closing (bare (blanks s) (blanks (drop 1 (skip s))) t (blanks z)) (skip z))) (read rows (y + 1)) post post' lab lab'
              go (got t z) M =
                  let R : skip z ≡ drop y s = ap skip (M.rest_is ∙ ap (λ (k : ℕ). drop k s) (read-end _ _ (sym M.is ∙ d))) ∙ sym Y in
                  rw (ap (heads 41) R ∙ heads_yes s y 41 n)
                  (record {
                    next = y + 1;
                    is = ap (λ (k : ℕ). read k (y + 1)) (sym (read_rows _ _ (sym M.is ∙ d)));
                    rest_is = ap (drop 1) R ∙ drop-one s y;
                    in_text = omega arith;
                    few = M.few;
                    posts_are = M.posts_are;
                    labels_are = M.labels_are;
                    same = M.same;
                  })
              go (wrong z) M = absurd (read-refused _ _ (sym d ∙ M))
              go (over z) M = absurd (read-refused _ _ (sym d ∙ M))
              go lost M = tt
