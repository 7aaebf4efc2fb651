-- The proof of `Names::place` of src/names.rt. Assumes nothing.
use Rattle.std.proofs.Common.{◌≡◌, ◌≤◌, length, drop}
use Rattle.meaning.specs.Names.{names_of, place_from}
use Rattle.brackets.specs.Lines.{Marked}
use Rattle.brackets.proofs.names.Names.place.Given as goal

abbrev pub invariant-loop-k : goal.invariant-loop-k
invariant-loop-k l =
    (l.start ≤ length l.self-inside.list.now) × Marked l.self-inside.list.now l.start (drop l.k l.self-inside.ends.now.items)
    × (place_from l.k l.name (names_of (drop l.start l.self-inside.list.now)) ≡ place_from 0 l.name (names_of l.self-inside.list.now))
