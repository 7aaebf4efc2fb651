use mathlib.Core.Path.{refl}
use Prim.Native.Nat.{◌<◌}
use native.Mathlib.Omega.{arith}
use lib.ListN.{length}
use borrow.Author.Rules.{rules}
use Rattle.meaning.specs.Query.{no_label}
use Rattle.export.specs.Lent.{lent_label}
use Rattle.export.proofs.Lists.{stored}
use Rattle.export.proofs.lent.gather_labels.Goals as goal

pub loop-i-init : goal.loop-i-init
loop-i-init c = (refl, λ k l. absurd (omega arith))

pub loop-i-preserved : goal.loop-i-preserved
unfolding lent_label
loop-i-preserved c =
    let l = c.loop-i in
    (search rules, stored no_label l.out (lent_label c.args.labels.now) l.i _ (let m : l.i < length l.out = omega (arith, c.requires, l.invariant.0) in m) (rw c.narrow.ensures) l.invariant.1)

pub returns : goal.returns
returns c = λ k m. c.loop-i.invariant.1 k (omega (arith, m))
