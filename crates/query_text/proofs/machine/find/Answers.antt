use Rattle.query_text.proofs.Running.{at-start, at_stop, at_next, at_legal, at_early}
use Rattle.query_text.proofs.machine.find.Goals as goal

pub loop-i-init : goal.loop-i-init
loop-i-init c = at-start _

pub returns-in-Stop : goal.returns-in-Stop
returns-in-Stop c = let l = c.loop-i in at_stop c.args.text.now l.q c.step-q.result l.i l.invariant c.loop-i-test.true c.step-q.ensures c.in-Stop.is

pub loop-i-preserved : goal.loop-i-preserved
loop-i-preserved c = let l = c.loop-i in at_next c.args.text.now l.q c.step-q.result l.i l.invariant c.loop-i-test.true c.step-q.ensures c.in_default.not-Stop

pub returns-in-End : goal.returns-in-End
returns-in-End c = let l = c.loop-i in at_legal c.args.text.now l.q l.i l.invariant c.loop-i-test.false c.in-End.is

pub returns-in_default-q : goal.returns-in_default-q
returns-in_default-q c = let l = c.loop-i in at_early c.args.text.now l.q l.i l.invariant c.loop-i-test.false l.auto.i-end c.in_default-q.not-End
