use mathlib.Core.Path.{sym, ◌∙◌}
use native.Mathlib.Omega.{arith}
use lib.Seq.{length-take-le}
use Rattle.search.proofs.Begins.{names-fit}
use Rattle.search.proofs.run.Goals as goal

pub slice_bounds-read_query-end : goal.slice_bounds-read_query-end
slice_bounds-read_query-end c = sym (length-take-le c.query_end-end.result c.args.input.now c.query_end-end.ensures.0)

pub slice_bounds-names-end : goal.slice_bounds-names-end
slice_bounds-names-end c = let w = c.read_query-r in let l = names-fit _ _ _ (sym w.ensures.0 ∙ c.in-Ok.is) in omega (arith, l, w.auto.names)

pub slice_bounds-print_sentences-end-in-Ok : goal.slice_bounds-print_sentences-end-in-Ok
slice_bounds-print_sentences-end-in-Ok c = let w = c.read_query-r in let l = names-fit _ _ _ (sym w.ensures.0 ∙ c.in-Ok.is) in sym (length-take-le c.in-Ok.reading.bytes w.new.names (omega (arith, l, w.auto.names)))
