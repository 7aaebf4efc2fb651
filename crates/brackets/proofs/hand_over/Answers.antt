-- The proof of `hand_over` of src/lib.rt. Assumes nothing.
use Rattle.brackets.proofs.Answers.{over_all, over_none}
use Rattle.brackets.proofs.hand_over.Goals as goal

pub returns-then-post-rows : goal.returns-then-post-rows
returns-then-post-rows c = let a = c.args in over_none a.reading a.columns.now.post.now a.columns.now.label.now a.post.now a.label.now c.then-post-rows.either

pub returns : goal.returns
returns c = let a = c.args in over_all a.reading a.columns.now.post.now a.columns.now.label.now a.post.now a.label.now c.if-post-rows.false c.if-label-rows.false _ _ (rw c.copy_from_slice.ensures.after) (rw c.copy_from_slice-2.ensures.after)
