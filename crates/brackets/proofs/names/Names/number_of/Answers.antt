-- The proof of `Names::number_of` of src/names.rt. Assumes nothing.
use Rattle.std.proofs.Common.{get_or, arith}
use Rattle.brackets.proofs.Lists.{number_of, number_none}
use Rattle.brackets.proofs.names.Names.number_of.Goals as goal

pub returns-then-self-label : goal.returns-then-self-label
returns-then-self-label c = number_of c.args.self.now c.args.label.now _ _ c.name.ensures c.place.ensures

pub returns-else-self-label : goal.returns-else-self-label
returns-else-self-label c =
    let m = c.self.invariant.1.missing (get_or c.args.label.now 0 0) (omega (arith, c.type_inv.label 0)) c.if-self-label.false in
    rw (← c.self.view_is) (number_none c.self.inside.list.now c.args.label.now c.requires m.0 m.1 m.2)
