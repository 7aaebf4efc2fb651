-- `search::query_end` meets its contract: the text goes on to its first full stop, or to its end. Assumes nothing.
use Rattle.std.proofs.Common.{sym, ◌∙◌, length, arith}
use Rattle.std.proofs.lemmas.Bool.{eqb-true}
use Rattle.std.proofs.lemmas.List.Quantifiers.{position-Some}
use Rattle.search.proofs.Begins.{is_stop, goes_to, goes_through, goes_stop, goes_end}
use Rattle.search.proofs.query_end.Goals as goal

pub returns-in-Some : goal.returns-in-Some
returns-in-Some c =
    let s = c.args.text.now in
    let i = c.in-Some.stop in
    let p = position-Some is_stop s i 0 (sym c.full_stop.ensures ∙ c.in-Some.is) in
    goes_stop s i (goes_to s i (omega (arith, p.0)) p.2) p.0 (eqb-true _ _ p.1)

pub returns-in-None : goal.returns-in-None
returns-in-None c =
    let s = c.args.text.now in
    goes_end s (length s) (goes_through s (sym c.full_stop.ensures ∙ c.in-None.is)) (omega arith)
