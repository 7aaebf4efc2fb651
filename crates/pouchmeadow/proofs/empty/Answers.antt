use mathlib.Core.Path.{refl}
use Rattle.pouchmeadow.specs.Gathered.{filled, blank}
use Rattle.pouchmeadow.proofs.empty.Goals as goal

pub returns : goal.returns
unfolding filled blank
returns c = refl
