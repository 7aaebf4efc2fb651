use Rattle.std.proofs.Common.{List, ℕ, sym, ◌∙◌, arith, subst}
use Rattle.query_text.specs.Filling.{filling}
use Rattle.query_text.specs.declared.filling.Item.TheVariants.{Head}
use Rattle.query_text.proofs.PutLaws.{on_err}
use Rattle.query_text.proofs.ReadLaws.{Reads, reads_start, reads_variable, reads_axis, reads_label, many_variables, many_names, over_whole, behind_first}
use Rattle.query_text.proofs.AnswerLaws.{refused_variables, refused_names, refused_parts, reads_end}
use Rattle.query_text.proofs.filling.read_words.Goals as goal

pub loop-word-init : goal.loop-word-init
loop-word-init c =
    let b = reads_start c.args.text.now c.new-variables.result c.new-names.result c.blank.result c.blank.ensures c.new-variables.ensures c.new-names.ensures in
    let m = c.min.ensures in
    let e = behind_first c.args.text.now c.split_at.result.1.now c.min.result (λ l. omega (arith, m, l)) (λ l. omega (arith, m, l)) c.split_at.ensures.back in
    subst (λ (r : List ℕ). Reads c.args.text.now r (filling c.blank.result Head) c.new-variables.result c.new-names.result) (sym e) b

pub returns-in_err-v : goal.returns-in_err-v
returns-in_err-v c =
    let l = c.loop-word in
    let h = c.in_err-v.ensures in
    on_err c.from_residual.result _ _ _ c.from_residual.ensures.1
    (λ e d. (d ∙ h.0, refused_variables _ (many_variables c.args.text.now l.rest.now c.in-Some.word.now c.in-Some.behind.now l.filling l.variables l.names l.invariant c.in-Some.ensures (sym c.is_variable.ensures ∙ c.if-is_variable.true) h.1)))

pub overflow_cast-v : goal.overflow_cast-v
overflow_cast-v c = let h = c.in_ok-v.ensures in omega (arith, h.3)

pub loop-word-preserved-in-Continue-branch-2 : goal.loop-word-preserved-in-Continue-branch-2
loop-word-preserved-in-Continue-branch-2 c =
    let l = c.loop-word in
    let h = c.in_ok-v.ensures in
    let p = c.in_ok-put.ensures in
    reads_variable c.args.text.now l.rest.now c.in-Some.word.now c.in-Some.behind.now l.filling l.variables l.names l.invariant c.in-Some.ensures c.number.new.seen c.in_ok-v.v c.put.new.self (sym c.is_variable.ensures ∙ c.if-is_variable.true) h.0 h.1 h.2 p.0 p.1

pub returns-in_err-put : goal.returns-in_err-put
returns-in_err-put c =
    let l = c.loop-word in
    let h = c.in_ok-v.ensures in
    let p = c.in_err-put.ensures in
    on_err c.from_residual-in_err-put.result _ _ _ c.from_residual-in_err-put.ensures.1
    (λ e d. (d ∙ p.0, refused_parts c.args.text.now (over_whole c.args.text.now l.rest.now c.in-Some.word.now c.in-Some.behind.now l.filling l.variables l.names l.invariant c.in-Some.ensures c.number.new.seen c.in_ok-v.v (sym c.is_variable.ensures ∙ c.if-is_variable.true) h.1 h.2 p.1)))

pub loop-word-preserved-in-Some-axis_code : goal.loop-word-preserved-in-Some-axis_code
loop-word-preserved-in-Some-axis_code c =
    let l = c.loop-word in
    reads_axis c.args.text.now l.rest.now c.in-Some.word.now c.in-Some.behind.now l.filling l.variables l.names l.invariant c.in-Some.ensures c.in-Some-axis_code.code (sym c.is_variable.ensures ∙ c.if-is_variable.false) c.in-Some-axis_code.ensures

pub returns-in_err-n : goal.returns-in_err-n
returns-in_err-n c =
    let l = c.loop-word in
    let h = c.in_err-n.ensures in
    on_err c.from_residual-in_err-n.result _ _ _ c.from_residual-in_err-n.ensures.1
    (λ e d. (d ∙ h.0, refused_names _ (many_names c.args.text.now l.rest.now c.in-Some.word.now c.in-Some.behind.now l.filling l.variables l.names l.invariant c.in-Some.ensures (sym c.is_variable.ensures ∙ c.if-is_variable.false) c.in_default-axis_code.ensures h.1)))

pub overflow_cast-filling : goal.overflow_cast-filling
overflow_cast-filling c = let h = c.in_ok-n.ensures in omega (arith, h.3)

pub loop-word-preserved : goal.loop-word-preserved
loop-word-preserved c =
    let l = c.loop-word in
    let h = c.in_ok-n.ensures in
    reads_label c.args.text.now l.rest.now c.in-Some.word.now c.in-Some.behind.now l.filling l.variables l.names l.invariant c.in-Some.ensures c.number-in_default-axis_code.new.seen c.in_ok-n.n (sym c.is_variable.ensures ∙ c.if-is_variable.false) c.in_default-axis_code.ensures h.0 h.1 h.2

pub returns : goal.returns
returns c = let l = c.loop-word in rw c.len-filling.ensures.value (reads_end c.args.text.now l.rest.now l.filling l.variables l.names l.invariant c.in_default.ensures)
