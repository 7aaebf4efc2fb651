-- The proof of `skip_white` of src/bytes.rt. Assumes nothing.
use Rattle.std.proofs.Common.{◌≡◌, length, sym, ◌∙◌, arith}
use Rattle.brackets.proofs.Scanning.{skip-on, skip_here, skip_end}
use Rattle.brackets.proofs.bytes.skip_white.Goals as goal

pub loop-i-preserved : goal.loop-i-preserved
loop-i-preserved c = skip-on c.args.text.now c.loop-i.i (sym c.is_white.ensures ∙ c.if-not-is_white.false) ∙ c.loop-i.invariant

pub returns-then-not-is_white : goal.returns-then-not-is_white
returns-then-not-is_white c = (sym (skip_here c.args.text.now c.loop-i.i (sym c.is_white.ensures ∙ c.if-not-is_white.true)) ∙ c.loop-i.invariant, omega arith, omega arith)

pub returns : goal.returns
returns c = let i : length c.args.text.now ≡ c.loop-i.i = omega arith in (rw i (sym (skip_end c.args.text.now c.loop-i.i (omega arith)) ∙ c.loop-i.invariant), omega arith, omega arith)
