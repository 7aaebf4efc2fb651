use Rattle.std.proofs.Common.{◌+◌, ap, length, arith}
use Rattle.meaning.specs.QueryTexts.{closed}
use Rattle.query_text.proofs.NameLaws.{bytes_grow, bytes_less, bytes_all, room_short, room_enough}
use Rattle.query_text.proofs.names.room_for.Goals as goal

pub loop-name-init : goal.loop-name-init
unfolding closed
loop-name-init c = omega arith

pub returns-then-left-name : goal.returns-then-left-name
returns-then-left-name c =
    let ns = c.args.names.now in
    let i = c.loop-name.name-index in
    let a = bytes_grow ns i (omega arith) in
    let b = bytes_less ns (i + 1) in
    room_short _ _ (omega (arith, a, b, c.loop-name.invariant, c.if-left-name.true))

pub loop-name-preserved : goal.loop-name-preserved
loop-name-preserved c =
    let ns = c.args.names.now in
    let i = c.loop-name.name-index in
    let a = bytes_grow ns i (omega arith) in
    omega (arith, a, c.loop-name.invariant, c.if-left-name.false)

pub returns : goal.returns
returns c =
    let ns = c.args.names.now in
    let i = c.loop-name.name-index in
    let a = ap length (bytes_all ns i (omega arith)) in
    room_enough _ _ _ (omega (arith, a, c.loop-name.invariant)) (omega (arith, a, c.loop-name.invariant))
