-- `query_text::filling::read_words`: what was read, and the words of the rest, are what the text says. The measure is the rest.
use Rattle.std.proofs.Common.{length}
use Rattle.query_text.proofs.ReadLaws.{Reads}
use Rattle.query_text.proofs.filling.read_words.Given as goal

abbrev pub invariant-loop-word : goal.invariant-loop-word
invariant-loop-word l = Reads l.text l.rest l.filling l.variables l.names

abbrev pub decreases-loop-word : goal.decreases-loop-word
decreases-loop-word l = length l.rest
