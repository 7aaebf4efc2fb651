use mathlib.Core.Path.{◌≡◌, ap, ◌∙◌}
use Prim.Native.Nat.{ℕ}
use native.Mathlib.Omega.{arith}
use lib.ListN.{length-set}
use borrow.Author.Rules.{rules}
use Rattle.meaning.specs.Query.{firsts, asked, no_label}
use Rattle.export.specs.Lent.{label_numbers}
use Rattle.meaning.specs.Entries.{at_front}
use Rattle.export.proofs.Lists.{labels_none, labels-more}
use Rattle.export.proofs.lent.write_labels.Goals as goal

pub loop-i-init : goal.loop-i-init
loop-i-init c = (search rules, labels_none _ _)

pub bounds-to-i-in-loop-i : goal.bounds-to-i-in-loop-i
bounds-to-i-in-loop-i c = let l = c.loop-i in simp length-set (omega (arith, c.requires.1, l.invariant.0))

pub loop-i-preserved : goal.loop-i-preserved
loop-i-preserved c =
    let l = c.loop-i in
    (search rules, labels-more _ l.to c.args.to.now l.i l.invariant.1 (omega (arith, c.requires.1)))

pub returns : goal.returns
unfolding asked
returns c =
    let l = c.loop-i in
    let a = c.args in
    let e : l.i ≡ a.q.label_count = omega arith in
    l.invariant.1 ∙ ap (λ (k : ℕ). at_front (label_numbers (firsts no_label a.q.labels k)) a.to.now) e
