-- Each row's post number is looked up before it is marked. Assumes nothing.
use Rattle.std.proofs.Common.{refl, false, length-set, arith}
use Rattle.std.proofs.lemmas.List.{get_or-replicate}
use Rattle.table.proofs.Check.{once_none, once-all, once_large, seen_none, seen_step, seen_again}
use Rattle.table.proofs.is_once.Goals as goal
use Rattle.table.proofs.is_once.Goals.{then-post-x-via-then-post-x, then-post-x-via-else-post-x+then-seen-x}

pub loop-number-init : goal.loop-number-init
loop-number-init c = (refl, once_none _, seen_none _ _ (λ x l. get_or-replicate 1024 x false false l))

pub returns-then-post-x : goal.returns-then-post-x
returns-then-post-x c = elim c.then-post-x.branch [
  | then-post-x-via-then-post-x w ↦ once_large _ c.loop-number.number-index (omega arith) (omega arith)
  | then-post-x-via-else-post-x+then-seen-x w ↦
      seen_again _ c.loop-number.number-index c.from-x.result c.loop-number.seen c.loop-number.invariant.2 c.from-x.ensures (omega arith) (omega arith) (omega arith) w.if-seen-x.true
]

pub loop-number-preserved : goal.loop-number-preserved
loop-number-preserved c =
    let s = seen_step _ c.loop-number.number-index c.from-x.result c.loop-number.seen c.loop-number.invariant.1 c.loop-number.invariant.2 c.from-x.ensures (omega arith) (omega arith) c.loop-number.invariant.0 c.if-seen-x.false in
    (omega (arith, length-set c.loop-number.seen c.from-x.result), s.0, s.1)

pub returns : goal.returns
returns c = once-all _ c.loop-number.number-index (omega arith) (omega arith) c.loop-number.invariant.1
