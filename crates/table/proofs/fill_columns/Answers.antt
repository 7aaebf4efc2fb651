use Rattle.std.proofs.Common.{refl, sym, ◌∙◌, ◌+◌, get_or, length-set, get_or-set_other, arith}
use Rattle.theory.specs.Trees.{tree_is, level-child}
use Rattle.table.proofs.Columns.{filled_none, filled_more, filled-end, filled_first, level_root, level-at, level_most}
use Rattle.std.proofs.lemmas.Grind.{get_or-set_at}
use Rattle.table.proofs.fill_columns.Goals as goal

pub bounds-levels-0 : goal.bounds-levels-0
bounds-levels-0 c = let r = (tree_is _ c.requires.0.tree).root in omega arith

pub loop-row-init : goal.loop-row-init
loop-row-init c = let r = (tree_is _ c.requires.0.tree).root in (filled_none _ _ _, filled_none _ _ _, get_or-set_at c.args.levels.now 0 0 0 0 refl (omega arith) ∙ sym (level_root c.args.post.now))

pub overflow_add-levels : goal.overflow_add-levels
overflow_add-levels c = let i = c.loop-row.invariant in omega (arith, level-at _ _ _ _ i.1 i.2 _ c.parent_of-p.ensures.0, level_most c.args.post.now c.parent_of-p.result, c.requires.0.few)

pub loop-row-preserved : goal.loop-row-preserved
loop-row-preserved c =
    let i = c.loop-row.invariant in
    let w = c.parent_of-p.ensures in
    let e = level-at _ _ _ _ i.1 i.2 _ w.0 in
    let f = level-child c.args.post.now (tree_is _ c.requires.0.tree) c.parent_of-p.result c.loop-row.row (omega (arith, w.0)) (omega arith) w.1 in (
      filled_more _ _ _ _ _ _ i.0 (omega arith) (omega arith) w.1,
      filled_more _ _ _ _ _ _ i.1 (omega arith) (omega (arith, length-set c.args.levels.now 0 0)) (omega (arith, e, f)),
      get_or-set_other c.loop-row.levels c.loop-row.row 0 (get_or c.loop-row.levels c.parent_of-p.result 0 + 1) 0 (λ z. omega arith) ∙ i.2,
    )

pub returns : goal.returns
returns c =
    let i = c.loop-row.invariant in
    let r = (tree_is _ c.requires.0.tree).root in (
      filled-end _ _ _ _ _ _ (omega arith) (omega arith) i.0,
      filled_first _ _ _ _ _ (omega arith) i.2 (filled-end _ _ _ _ _ _ (omega arith) (omega arith) i.1),
    )
