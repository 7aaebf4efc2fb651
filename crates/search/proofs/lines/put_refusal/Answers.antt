use Rattle.meaning.specs.Axes.{bytes}
use Rattle.search.proofs.Stores.{refusal_wrote}
use Rattle.search.proofs.lines.put_refusal.Goals as goal

pub returns : goal.returns
unfolding bytes
returns c = refusal_wrote c.args.sentence c.args.r c.number.result c.place.result _ _ _ _ _ _ _ _ _ _ _ c.number.ensures c.place.ensures c.put_decimal-a.ensures c.put_word-b.ensures c.put_number-c.ensures c.put_number-d.ensures c.put_byte.ensures
