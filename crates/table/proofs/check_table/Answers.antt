-- `table::check_table` meets its contract: each refusal from the test that fails, the lowest first. Assumes nothing.
use mathlib.Core.Path.{sym, ◌∙◌}
use Rattle.table.proofs.Check.{sized_is, refused_1, refused_2, refused_3, accepted, tree_both, not_nested}
use Rattle.table.proofs.check_table.Goals as goal

pub returns-then-not-is_sized : goal.returns-then-not-is_sized
returns-then-not-is_sized c = refused_1 _ _ (sym c.if-not-is_sized.true ∙ c.is_sized.ensures)

pub is_tree-requires : goal.is_tree-requires
is_tree-requires c = sized_is _ _ (sym (sym c.if-not-is_sized.false ∙ c.is_sized.ensures))

pub returns-then-is_tree : goal.returns-then-is_tree
returns-then-is_tree c = let b = tree_both _ (sym c.if-is_tree.true ∙ c.is_tree.ensures) in accepted _ _ (sym c.if-not-is_sized.false ∙ c.is_sized.ensures) b.0 b.1

pub is_numbered-requires : goal.is_numbered-requires
is_numbered-requires c = sized_is _ _ (sym (sym c.if-not-is_sized.false ∙ c.is_sized.ensures))

pub returns-then-is_numbered : goal.returns-then-is_numbered
returns-then-is_numbered c = let k = sym c.if-is_numbered.true ∙ c.is_numbered.ensures in
    refused_3 _ _ (sym c.if-not-is_sized.false ∙ c.is_sized.ensures) k (not_nested _ (sym c.if-is_tree.false ∙ c.is_tree.ensures) k)

pub returns : goal.returns
returns c = refused_2 _ _ (sym c.if-not-is_sized.false ∙ c.is_sized.ensures) (sym c.if-is_numbered.false ∙ c.is_numbered.ensures)
