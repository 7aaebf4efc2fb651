-- `query_text::names::write_names`: the names so far stand in the buffer, and behind them what stood there.
use Rattle.std.proofs.Common.{◌≡◌, length, take, drop}
use Rattle.query_text.proofs.NameLaws.{bytes_of}
use Rattle.query_text.proofs.names.write_names.Given as goal

abbrev pub invariant-loop-name : goal.invariant-loop-name
invariant-loop-name l = record {
  place : l.at ≡ length (bytes_of l.names l.name-index);
  front : take l.at l.buffer ≡ bytes_of l.names l.name-index;
  behind : drop l.at l.buffer ≡ drop l.at l.initial.buffer;
}
