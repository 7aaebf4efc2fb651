-- The proof of `read_sentence` of src/lib.rt. Assumes nothing.
use Rattle.std.proofs.Common.{◌≡◌, ℕ, Err, rules}
use Rattle.std.proofs.lemmas.List.{length-replicate}
use Rattle.meaning.specs.declared.Refusal.TheVariants.{Counts}
use Rattle.brackets.specs.Numbers.{Answer}
use Rattle.brackets.proofs.Answers.{too_many_lem, whole-few, whole-read, whole_not}
use Rattle.brackets.proofs.read_sentence.Goals as goal

pub returns-in_err-find : goal.returns-in_err-find
returns-in_err-find c =
    let a = c.args in
    let h = c.in_err-find.ensures.many in
    let e : ◌≡◌ {A = Answer} c.from_residual.result (Err Counts) = search rules in
    rw e (too_many_lem a.text.now a.names.now a.post.now a.label.now h.1)

pub returns-in_err-reading : goal.returns-in_err-reading
returns-in_err-reading c =
    let a = c.args in
    let e : ◌≡◌ {A = Answer} c.from_residual-in_err-reading.result (Err c.in_err-reading.field-0.0) = search rules in
    rw e (whole_not a.text.now _ a.names.now c.of-names.ensures c.sentence.result _ _ _ _ (length-replicate {A = ℕ} 1024 0) (length-replicate {A = ℕ} 1024 0) c.sentence.ensures c.in_ok-find.ensures.few.2 a.post.now a.label.now c.in_err-reading.field-0.0 c.in_err-reading.was)

pub hand_over-requires : goal.hand_over-requires
hand_over-requires c =
    let a = c.args in
    let x = c.in_ok-reading.reading in
    whole-few a.text.now _ a.names.now c.of-names.ensures c.sentence.result _ _ _ _ (length-replicate {A = ℕ} 1024 0) (length-replicate {A = ℕ} 1024 0) c.sentence.ensures x.end x.rows c.in_ok-reading.was

pub returns : goal.returns
returns c =
    let a = c.args in
    let x = c.in_ok-reading.reading in
    whole-read a.text.now _ a.names.now c.of-names.ensures c.sentence.result _ _ _ _ (length-replicate {A = ℕ} 1024 0) (length-replicate {A = ℕ} 1024 0) c.sentence.ensures c.in_ok-find.ensures.few.2 a.post.now a.label.now x.end x.rows c.in_ok-reading.was c.hand_over.result _ _ c.hand_over.ensures
