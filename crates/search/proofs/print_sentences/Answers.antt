use mathlib.Core.Path.{ap, sym, ◌∙◌}
use native.Mathlib.Omega.{arith}
use borrow.Author.Rules.{rules}
use lib.ListN.{length}
use Rattle.meaning.specs.Sentences.{sentence_rest}
use Rattle.search.proofs.Doing.{next_shorter}
use Rattle.search.proofs.print_sentences.Goals as goal

pub loop-n-init : goal.loop-n-init
loop-n-init c = (omega arith, search rules, search rules)

pub slice_bounds-do_sentence-end : goal.slice_bounds-do_sentence-end
slice_bounds-do_sentence-end c = sym c.loop-n.invariant.1

pub slice_bounds-do_sentence-end-in-loop-n : goal.slice_bounds-do_sentence-end-in-loop-n
slice_bounds-do_sentence-end-in-loop-n c = sym c.loop-n.invariant.2

pub do_sentence-s-requires : goal.do_sentence-s-requires
do_sentence-s-requires c = let i = c.loop-n.invariant in (i.1, i.2)

pub overflow_add-sentence : goal.overflow_add-sentence
unfolding sentence_rest
overflow_add-sentence c = let l = c.loop-n in let d = c.do_sentence-s in let r = ap length c.rest-left.ensures in let n = next_shorter _ _ _ _ _ _ _ _ _ d.ensures c.in-Next.is in omega (arith, l.invariant.0, n, c.well_formed)

pub loop-n-smaller : goal.loop-n-smaller
unfolding sentence_rest
loop-n-smaller c = let l = c.loop-n in let d = c.do_sentence-s in let r = ap length c.rest-left.ensures in let n = next_shorter _ _ _ _ _ _ _ _ _ d.ensures c.in-Next.is in omega (arith, r, n)

pub loop-n-preserved : goal.loop-n-preserved
unfolding sentence_rest
loop-n-preserved c = let l = c.loop-n in let d = c.do_sentence-s in let r = ap length c.rest-left.ensures in let n = next_shorter _ _ _ _ _ _ _ _ _ d.ensures c.in-Next.is in (omega (arith, l.invariant.0, r, n), d.auto.post ∙ l.invariant.1, d.auto.label ∙ l.invariant.2)
