-- `export::lent::write_head` meets its contract: what is copied is the head. Assumes nothing.
use Rattle.std.proofs.Common.{◌≡◌, ℕ, ◌++◌, length, take, drop, get_or, arith, refl, sym, ◌∙◌, subst, ap}
use Rattle.std.proofs.lemmas.List.{get_or-take, length-take-le}
use Rattle.meaning.specs.Query.{firsts, asked}
use Rattle.meaning.specs.Entries.{at_front}
use Rattle.export.proofs.Lists.{firsts_list}
use Rattle.export.proofs.lent.write_head.Goals as goal

pub returns : goal.returns
unfolding asked at_front
returns c = let a = c.args in
    let s = c.copy_from_slice.new.self in
    let e = c.copy_from_slice.ensures.after in
    let n : length s ≡ a.q.head_count = omega (arith, ap length e, length-take-le a.q.head_count a.q.head (omega arith)) in
    let f : firsts 0 a.q.head (length s) ≡ s = firsts_list _ _ (λ k m. rw e (sym (get_or-take a.q.head_count a.q.head k 0 (omega (arith, m, n))))) in
    subst (λ (k : ℕ). s ++ drop k a.to.now ≡ at_front (firsts 0 a.q.head k) a.to.now) n (rw f refl)
