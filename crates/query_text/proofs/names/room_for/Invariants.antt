-- `query_text::names::room_for`: what is left, and the bytes of the names so far, are the room.
use Rattle.std.proofs.Common.{◌≡◌, ◌+◌, length}
use Rattle.query_text.proofs.NameLaws.{bytes_of}
use Rattle.query_text.proofs.names.room_for.Given as goal

abbrev pub invariant-loop-name : goal.invariant-loop-name
invariant-loop-name l = l.left + length (bytes_of l.names l.name-index) ≡ l.have
