-- `meaning::copy_over`: the places passed hold what `from` holds there. Assumes nothing.
use Rattle.std.proofs.Common.{◌≡◌, ℕ, ◌<◌, get_or}
use Rattle.meaning.proofs.copy_over.Given as goal

abbrev pub invariant-loop-i : goal.invariant-loop-i
invariant-loop-i g l = (k : ℕ) (d : g.row.T.Denot) → k < l.i → get_or l.to k d ≡ get_or l.from k d
