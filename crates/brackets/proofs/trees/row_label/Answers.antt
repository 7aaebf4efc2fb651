-- The proof of `row_label` of src/trees.rt. Assumes nothing.
use Rattle.std.proofs.Common.{sym, ap, ◌∙◌, arith}
use Rattle.meaning.specs.Sentences.{white}
use Rattle.brackets.proofs.Scanning.{white-inside}
use Rattle.brackets.proofs.Paths.{label_over, label_none, label_long, label_tight, label_done}
use Rattle.brackets.proofs.trees.row_label.Goals as goal

pub returns-then-row-eq0 : goal.returns-then-row-eq0
returns-then-row-eq0 c = let a = c.args in label_over a.text.now a.at a.row.levels a.row.number c.requires.0 c.requires.1 c.then-row-eq0.either

pub returns-then-end-at : goal.returns-then-end-at
returns-then-end-at c = let a = c.args in label_none a.text.now a.at a.row.levels a.row.number c.if-row-eq0.false c.if-row-ge1024.false c.letters_end-end.result c.letters_end-end.ensures c.if-end-at.true

pub returns-then-end-at-gt64 : goal.returns-then-end-at-gt64
returns-then-end-at-gt64 c = let a = c.args in label_long a.text.now a.at a.row.levels a.row.number c.if-row-eq0.false c.if-row-ge1024.false c.letters_end-end.result c.letters_end-end.ensures c.if-end-at-gt64.true

pub returns-then-not-is_white : goal.returns-then-not-is_white
returns-then-not-is_white c =
    let a = c.args in
    label_tight a.text.now a.at a.row.levels a.row.number c.if-row-eq0.false c.if-row-ge1024.false c.letters_end-end.result c.letters_end-end.ensures c.if-end-at.false c.if-end-at-gt64.false
    (ap white (sym c.peek.ensures) ∙ sym c.is_white.ensures ∙ c.if-not-is_white.true)

pub skip_white-body-requires : goal.skip_white-body-requires
skip_white-body-requires c = omega (arith, white-inside c.args.text.now c.letters_end-end.result (ap white (sym c.peek.ensures) ∙ sym c.is_white.ensures ∙ c.if-not-is_white.false))

pub returns : goal.returns
returns c =
    let a = c.args in
    let w = c.skip_white-body.ensures in
    label_done a.text.now a.at a.row.levels a.row.number c.if-row-eq0.false c.if-row-ge1024.false c.letters_end-end.result c.letters_end-end.ensures c.if-end-at.false c.if-end-at-gt64.false
    (ap white (sym c.peek.ensures) ∙ sym c.is_white.ensures ∙ c.if-not-is_white.false) c.skip_white-body.result w.0 w.1 w.2
