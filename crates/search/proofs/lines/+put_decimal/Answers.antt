use Rattle.std.proofs.Common.{sym, arith}
use Rattle.search.proofs.Digits.{decimal-one, decimal-more, digits_19, digits_20}
use Rattle.search.proofs.Stores.{wrote_on, wrote_within, wrote_as}
use Rattle.search.proofs.lines.+put_decimal.Goals as goal

pub returns-then-n-lt10 : goal.returns-then-n-lt10
returns-then-n-lt10 t c = wrote_within _ _ 1 20 _ _ _ (omega arith) (wrote_as _ _ _ _ _ _ _ (sym (decimal-one c.args.n c.if-n-lt10.true)) c.put_byte.ensures)

pub put_byte-requires-2 : goal.put_byte-requires-2
put_byte-requires-2 t c =
    let w = c.put_decimal-next in
    let d = digits_19 c.args.n (omega (arith, c.ranges.n)) in
    omega (arith, d, w.auto.out, w.ensures.behind, c.requires)

pub returns : goal.returns
returns t c =
    let w = c.put_decimal-next in
    let d = digits_20 c.args.n (omega (arith, c.ranges.n)) in
    let e = decimal-more c.args.n c.if-n-lt10.false in
    let both = wrote_as _ _ _ _ _ _ _ (sym e) (wrote_on _ _ 20 1 _ _ _ _ _ _ w.ensures c.put_byte-2.ensures) in
    record { behind = both.behind; few = d; stored = both.stored }
