use Rattle.std.proofs.Common.{◌++◌, List, ℕ, Ok, length, drop, sym, ap, ◌∙◌}
use Rattle.meaning.specs.QueryTexts.{said, twice, unused, closed}
use Rattle.meaning.specs.declared.Query.{Query}
use Rattle.query_text.specs.Tables.{texts}
use Rattle.query_text.specs.Room.{room_of}
use Rattle.query_text.proofs.PlaceOf.{words_of}
use Rattle.query_text.proofs.PutLaws.{err_is}
use Rattle.query_text.proofs.JudgeLaws.{head_asked}
use Rattle.query_text.proofs.AnswerLaws.{refuse_counts, refuse_twice, refuse_unused, refuse_short, room_is, accept}
use Rattle.query_text.proofs.read_legal.Goals as goal

pub returns-in_err-read : goal.returns-in_err-read
returns-in_err-read c =
    let h = c.in_err-read.ensures in
    let r = refuse_counts (said c.args.text.now) c.args.names.now _ h.0 h.1 in
    (err_is c.from_residual.result _ c.from_residual.ensures.1 ∙ r.0, r.1)

pub head_twice-requires : goal.head_twice-requires
head_twice-requires c = c.in_ok-read.ensures.3.heads

pub returns-then-head_twice : goal.returns-then-head_twice
returns-then-head_twice c =
    let h = c.in_ok-read.ensures in
    refuse_twice (said c.args.text.now) c.args.names.now h.0 (ap twice (sym h.1) ∙ sym c.head_twice.ensures ∙ c.if-head_twice.true)

pub head_unused-requires : goal.head_unused-requires
head_unused-requires c = let w = c.in_ok-read.ensures.3 in (w.heads, w.labels, w.axes)

pub returns-then-head_unused : goal.returns-then-head_unused
returns-then-head_unused c =
    let h = c.in_ok-read.ensures in
    let u = c.head_unused.ensures in
    refuse_unused (said c.args.text.now) c.args.names.now h.0 (ap twice (sym h.1) ∙ sym c.head_twice.ensures ∙ c.if-head_twice.false) (ap unused (sym h.1) ∙ sym (u.value ∙ head_asked c.in_ok-read.read.query u.inside) ∙ c.if-head_unused.true)

pub returns-in_default : goal.returns-in_default
unfolding texts
returns-in_default c =
    let h = c.in_ok-read.ensures in
    let u = c.head_unused.ensures in
    refuse_short (said c.args.text.now) c.args.names.now h.0 (ap twice (sym h.1) ∙ sym c.head_twice.ensures ∙ c.if-head_twice.false) (ap unused (sym h.1) ∙ sym (u.value ∙ head_asked c.in_ok-read.read.query u.inside) ∙ c.if-head_unused.false)
    (c.in_default.ensures ∙ ap (λ (l : List (List ℕ)). room_of (length (closed l)) (length c.args.names.now)) (ap words_of c.as_slice-labels.ensures.value ∙ h.2))

pub write_names-requires : goal.write_names-requires
write_names-requires c = room_is (length (closed (words_of c.as_slice-labels.result.now))) (length c.args.names.now) _ c.in-Some.ensures

pub returns : goal.returns
unfolding texts
returns c =
    let h = c.in_ok-read.ensures in
    let u = c.head_unused.ensures in
    let e = ap words_of c.as_slice-labels.ensures.value ∙ h.2 in
    let a = accept (said c.args.text.now) c.args.names.now c.write_names.new.buffer c.in-Some.bytes h.0 (ap twice (sym h.1) ∙ sym c.head_twice.ensures ∙ c.if-head_twice.false) (ap unused (sym h.1) ∙ sym (u.value ∙ head_asked c.in_ok-read.read.query u.inside) ∙ c.if-head_unused.false)
    (c.in-Some.ensures ∙ ap (λ (l : List (List ℕ)). room_of (length (closed l)) (length c.args.names.now)) e)
    (c.write_names.ensures ∙ ap (λ (l : List (List ℕ)). closed l ++ drop (length (closed l)) c.args.names.now) e) in
    (ap (λ (q : Query). Ok (record { bytes = c.in-Some.bytes; query = q })) h.1 ∙ a.0, a.1)
