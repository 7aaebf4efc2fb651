use mathlib.Core.Path.{◌≡◌, sym, ◌∙◌}
use lib.ListN.{length}
use lib.Seq.{length-take-le}
use native.Mathlib.Omega.{arith}
use Rattle.search.proofs.Doing.{does_nothing, does_refused, does_read, rows_few}
use borrow.Author.Rules.{rules}
use Rattle.search.proofs.step.do_sentence.Goals as goal

pub returns-then-is_blank : goal.returns-then-is_blank
returns-then-is_blank c = does_nothing _ _ _ _ _ (sym c.is_blank.ensures ∙ c.if-is_blank.true)

pub slice_bounds-list_sentence-end : goal.slice_bounds-list_sentence-end
slice_bounds-list_sentence-end c = let w = c.read_sentence-a in omega (arith, rows_few _ _ _ _ _ c.in-Ok.read.rows _ _ _ w.ensures c.in-Ok.is, c.post-1.given, c.requires)

pub slice_bounds-list_sentence-end-in-Ok : goal.slice_bounds-list_sentence-end-in-Ok
slice_bounds-list_sentence-end-in-Ok c = let w = c.read_sentence-a in sym (length-take-le _ _ (omega (arith, rows_few _ _ _ _ _ c.in-Ok.read.rows _ _ _ w.ensures c.in-Ok.is, c.post-1.given, c.requires)))

pub slice_bounds-list_sentence-end-in-Ok-2 : goal.slice_bounds-list_sentence-end-in-Ok-2
slice_bounds-list_sentence-end-in-Ok-2 c = let w = c.read_sentence-a in omega (arith, rows_few _ _ _ _ _ c.in-Ok.read.rows _ _ _ w.ensures c.in-Ok.is, c.label-1.given, c.requires)

pub slice_bounds-list_sentence-end-in-Ok-3 : goal.slice_bounds-list_sentence-end-in-Ok-3
slice_bounds-list_sentence-end-in-Ok-3 c = let w = c.read_sentence-a in sym (length-take-le _ _ (omega (arith, rows_few _ _ _ _ _ c.in-Ok.read.rows _ _ _ w.ensures c.in-Ok.is, c.label-1.given, c.requires)))

pub returns-in-Ok : goal.returns-in-Ok
returns-in-Ok c = let w = c.read_sentence-a in let p = c.requires in does_read _ _ _ _ _ _ _ _ _ w.ensures (sym c.is_blank.ensures ∙ c.if-is_blank.false) p.0 p.1 _ _ c.in-Ok.read.rows c.in-Ok.read.end _ c.in-Ok.is c.list_sentence.ensures

pub returns-in-Err : goal.returns-in-Err
returns-in-Err c = let w = c.read_sentence-a in let o : length c.args.out.now ≡ 262144 = search rules in does_refused _ _ _ _ _ _ _ _ _ w.ensures (sym c.is_blank.ensures ∙ c.if-is_blank.false) c.requires.0 c.requires.1 _ _ c.in-Err.r _ c.in-Err.is (omega (arith, o)) c.put_refusal-bytes.ensures
