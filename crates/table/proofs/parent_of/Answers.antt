use Rattle.std.proofs.Common.{◌<◌, sym, subst, ℕ, arith}
use Rattle.meaning.specs.Tests.{Is}
use Rattle.meaning.specs.Table.{child}
use Rattle.theory.specs.Trees.{tree_is, below_is, child_is}
use Rattle.table.proofs.Columns.{Passed, not_root, passed_on, parent_found}
use Rattle.table.proofs.parent_of.Goals as goal
use Rattle.table.proofs.parent_of.Goals.{After-from-p}

-- the row's parent stands before it, and comes into question next
onward : (c : After-from-p) → (c.from-p.result < c.loop-p.p) × Passed c.args.post.now c.args.row c.from-p.result
onward c =
    let i = c.loop-p.invariant in
    let t = c.args.post.now in
    let T = tree_is _ c.requires.0.tree in
    let r = not_root t T c.args.row c.loop-p.p i.0 c.requires.2 i.1 c.loop-p-test.true in
    let C = subst (λ (v : ℕ). Is (child t v c.loop-p.p)) (sym c.from-p.ensures) (c.requires.4 c.loop-p.p r i.0) in
    ((below_is t c.from-p.result c.loop-p.p (child_is t c.from-p.result c.loop-p.p C).0).0, passed_on t T c.args.row c.loop-p.p i.0 c.requires.2 i.1 c.from-p.result C c.loop-p-test.true)

pub loop-p-smaller : goal.loop-p-smaller
loop-p-smaller c = (onward c).0

pub loop-p-preserved : goal.loop-p-preserved
loop-p-preserved c = let o = onward c in (omega (arith, o.0, c.loop-p.invariant.0), o.1)

pub returns : goal.returns
returns c =
    let i = c.loop-p.invariant in
    (i.0, parent_found c.args.post.now (tree_is _ c.requires.0.tree) c.args.row c.loop-p.p i.0 c.requires.2 i.1 c.loop-p-test.false)
