use Rattle.search.proofs.Stores.{ending_wrote}
use Rattle.search.proofs.lines.put_end.Goals as goal

pub returns : goal.returns
returns c = ending_wrote c.args.sentence c.args.at c.args.listing.ending c.args.listing.tuples c.args.listing.strikings _ _ _ _ _ _ _ _ _ _ _ c.put_decimal-word.ensures c.put_ending-a.ensures c.put_number-b.ensures c.put_number-c.ensures c.put_byte.ensures
