use mathlib.Core.List.{[], ◌∷◌}
use Rattle.search.proofs.Stores.{wrote_on}
use Rattle.search.proofs.lines.put_number.Goals as goal

pub returns : goal.returns
returns c = wrote_on _ _ 1 20 (32 ∷ []) _ _ _ _ _ c.put_byte-next.ensures c.put_decimal.ensures
