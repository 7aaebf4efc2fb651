use mathlib.Core.Path.{sym, ap}
use mathlib.Core.List.{◌∷◌}
use native.Mathlib.Omega.{arith}
use Rattle.meaning.specs.Axes.{bytes}
use Rattle.meaning.specs.declared.Ending.{Ending}
use Rattle.meaning.specs.Run.{word}
use Rattle.search.proofs.Stores.{wrote_within, wrote_as}
use Rattle.search.proofs.lines.put_ending.Goals as goal

pub returns-in-Finished : goal.returns-in-Finished
unfolding word bytes
returns-in-Finished c = wrote_within _ _ _ 9 _ _ _ (omega arith) (wrote_as _ _ _ _ _ _ _ (sym (ap (λ (e : Ending). 32 ∷ word e) c.in-Finished.is)) c.put_word.ensures)

pub returns-in-Full : goal.returns-in-Full
unfolding word bytes
returns-in-Full c = wrote_within _ _ _ 9 _ _ _ (omega arith) (wrote_as _ _ _ _ _ _ _ (sym (ap (λ (e : Ending). 32 ∷ word e) c.in-Full.is)) c.put_word-in-Full.ensures)

pub returns-in-Spent : goal.returns-in-Spent
unfolding word bytes
returns-in-Spent c = wrote_within _ _ _ 9 _ _ _ (omega arith) (wrote_as _ _ _ _ _ _ _ (sym (ap (λ (e : Ending). 32 ∷ word e) c.in-Spent.is)) c.put_word-in-Spent.ensures)
