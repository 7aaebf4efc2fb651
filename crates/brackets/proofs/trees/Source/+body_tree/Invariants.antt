-- The proof of `body` and `tree` of src/trees.rt, which call each other. Assumes nothing.
use Rattle.std.proofs.Common.{◌≡◌, List, ℕ, ◌+◌, ◌-◌, ◌≤◌, length, get_or}
use Rattle.brackets.specs.Numbers.{Answer}
use Rattle.brackets.specs.Meets.{MeetsBody}
use Rattle.brackets.proofs.trees.Source.+body_tree.Given as goal

abbrev pub decreases-body : goal.decreases-body
decreases-body l = length l.self.now.text.now - l.at

abbrev pub decreases-tree : goal.decreases-tree
decreases-tree l = length l.self.now.text.now - l.at

-- the trees read so far: what a body at this place gives, the whole body gives
abbrev pub invariant-body-loop-tree : goal.invariant-body-loop-tree
invariant-body-loop-tree l =
    (get_or l.self.text.now l.here.end 0 ≡ 40) × (l.at ≤ l.here.end) × (64 ≤ l.levels + l.here.rows)
    × ((r : Answer) (p m : List ℕ) → MeetsBody l.self.text.now l.self.names.now l.here.end l.levels l.here.rows r l.columns.post.now p l.columns.label.now m → MeetsBody l.self.text.now l.self.names.now l.at l.levels l.fn.first.number r l.initial.columns.post.now p l.initial.columns.label.now m)

abbrev pub decreases-body-loop-tree : goal.decreases-body-loop-tree
decreases-body-loop-tree l = length l.self.text.now - l.here.end
