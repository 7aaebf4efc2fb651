-- `export::lent::gather` meets its contract. By the test of the lengths; within them each array holds what was lent. Assumes nothing.
use mathlib.Core.Path.{sym, ◌∙◌}
use Rattle.meaning.specs.Query.{no_label, no-condition}
use Rattle.export.proofs.Lists.{firsts_list, firsts-tab}
use Rattle.export.proofs.Gathered.{sizes, pairs_few, triples_few, asked-whole, asked_none}
use Rattle.export.proofs.lent.gather.Goals as goal

pub returns-then-not-is_whole : goal.returns-then-not-is_whole
returns-then-not-is_whole c = let a = c.args in
    asked_none a.variables a.head.now a.labels.now a.axes.now _ (sym c.is_whole.ensures ∙ c.if-not-is_whole.true) c.blank.ensures

pub gather_head-h-requires : goal.gather_head-h-requires
gather_head-h-requires c = (sizes _ _ _ (sym c.is_whole.ensures ∙ c.if-not-is_whole.false)).head_few

pub gather_labels-l-requires : goal.gather_labels-l-requires
gather_labels-l-requires c = pairs_few _ (sizes _ _ _ (sym c.is_whole.ensures ∙ c.if-not-is_whole.false)).labels-few

pub gather_axes-a-requires : goal.gather_axes-a-requires
gather_axes-a-requires c = triples_few _ (sizes _ _ _ (sym c.is_whole.ensures ∙ c.if-not-is_whole.false)).axes-few

pub returns : goal.returns
returns c = let a = c.args in
    asked-whole a.variables a.head.now a.labels.now a.axes.now _ _ _ (sym c.is_whole.ensures ∙ c.if-not-is_whole.false)
    (firsts_list _ _ c.gather_head-h.ensures)
    (firsts-tab no_label _ _ _ c.gather_labels-l.ensures)
    (firsts-tab no-condition _ _ _ c.gather_axes-a.ensures)
