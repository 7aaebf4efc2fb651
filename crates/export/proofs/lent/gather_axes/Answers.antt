use mathlib.Core.Path.{refl}
use Prim.Native.Nat.{◌<◌}
use native.Mathlib.Omega.{arith}
use lib.ListN.{length}
use borrow.Author.Rules.{rules}
use Rattle.meaning.specs.Query.{no-condition}
use Rattle.export.specs.Lent.{lent_axis}
use Rattle.export.proofs.Lists.{stored}
use Rattle.export.proofs.lent.gather_axes.Goals as goal

pub loop-i-init : goal.loop-i-init
loop-i-init c = (refl, λ k l. absurd (omega arith))

pub loop-i-preserved : goal.loop-i-preserved
unfolding lent_axis
loop-i-preserved c =
    let l = c.loop-i in
    (search rules, stored no-condition l.out (lent_axis c.args.axes.now) l.i _ (let m : l.i < length l.out = omega (arith, c.requires, l.invariant.0) in m) refl l.invariant.1)

pub returns : goal.returns
returns c = λ k m. c.loop-i.invariant.1 k (omega (arith, m))
