-- The proof of `leaf` of src/trees.rt. Assumes nothing.
use Rattle.brackets.proofs.Paths.{leaf_none, leaf_long, leaf_closed}
use Rattle.brackets.proofs.trees.leaf.Goals as goal

pub returns-then-end-at : goal.returns-then-end-at
returns-then-end-at c = let a = c.args in leaf_none a.text.now a.at a.row.levels a.row.number _ _ c.letters_end-end.result c.letters_end-end.ensures c.if-end-at.true

pub returns-then-end-at-gt64 : goal.returns-then-end-at-gt64
returns-then-end-at-gt64 c = let a = c.args in leaf_long a.text.now a.at a.row.levels a.row.number _ _ c.letters_end-end.result c.letters_end-end.ensures c.if-end-at-gt64.true

pub returns : goal.returns
returns c =
    let a = c.args in
    let y = c.skip_white-next.ensures in
    leaf_closed a.text.now a.at a.row.levels a.row.number _ _ c.letters_end-end.result c.letters_end-end.ensures c.if-end-at.false c.if-end-at-gt64.false c.requires.1 c.skip_white-next.result y.0 y.2 c.close.result c.close.ensures
