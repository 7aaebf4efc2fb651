use Rattle.std.proofs.Common.{length}
use Rattle.search.proofs.Stores.{tuple_wrote}
use Rattle.search.proofs.lines.put_tuple.Goals as goal

pub returns : goal.returns
returns c = tuple_wrote c.args.sentence (length c.args.tuple.now) c.args.at _ _ _ _ _ _ _ _ c.put_decimal-rows.ensures c.put_rows-end.ensures c.put_byte.ensures
