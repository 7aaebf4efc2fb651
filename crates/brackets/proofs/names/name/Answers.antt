-- The proof of `name` of src/names.rt. Assumes nothing.
use Rattle.std.proofs.Common.{rules}
use Rattle.std.proofs.lemmas.Iterator.{YieldsList-from_slice}
use Rattle.std.proofs.lemmas.Iterator.Search.{position_from_yields_List}
use borrow.Author.Tests.{tests}
use Rattle.brackets.proofs.Lists.{ends_name, name_is}
use Rattle.brackets.proofs.names.name.Goals as goal

pub returns : goal.returns
returns c =
    let first = position_from_yields_List ends_name _ _ c.position.result c.position.ensures.ran (YieldsList-from_slice c.args.label.now c.iter.ensures.rest) (λ x b q k. search (rules, tests)) in
    rw (c.unwrap_or-end.ensures, first) (name_is c.args.label.now)
