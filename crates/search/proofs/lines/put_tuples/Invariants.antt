use Prim.Native.Nat.{◌+◌, ◌*◌}
use Rattle.meaning.specs.Run.{tuple_lines}
use Rattle.search.specs.Wrote.{Wrote, chunks}
use Rattle.search.proofs.lines.put_tuples.Given as goal

abbrev pub invariant-loop-j : goal.invariant-loop-j
invariant-loop-j l = Wrote l.initial.out 0 (l.j * ((l.k + 1) * 21)) (tuple_lines l.sentence (chunks l.k l.j l.found)) l.out l.at
