-- The proof of `names::find` of src/names.rt. Assumes nothing.
use Rattle.std.proofs.Common.{◌≡◌, [], ◌∷◌, ◌++◌, refl, sym, ◌∙◌, arith, rules}
use Rattle.std.proofs.lemmas.Bool.{false≢true}
use Rattle.brackets.proofs.Lists.{read_none, noted_line, read_on, read_line, read_many, read_marked, read_few, read_noted}
use Rattle.brackets.proofs.names.find.Goals as goal
use Rattle.brackets.proofs.names.find.Goals.{then-begins, else-begins, else-begins-2-via-then-begins-2+else-is_err, else-begins-2-via-else-begins-2}

pub loop-i-init : goal.loop-i-init
loop-i-init c = rw (c.requires.0, c.requires.1) (read_none c.args.list.now)

pub returns-then-is_err-clause-many : goal.returns-then-is_err-clause-many
returns-then-is_err-clause-many c =
    let l = c.loop-i in
    (refl, read_many c.args.list.now l.i l.begins l.ends.items l.noted l.invariant c.loop-i-test.true c.if-begins-2.true (search rules))

pub loop-i-preserved : goal.loop-i-preserved
loop-i-preserved c =
    let l = c.loop-i in
    let s = c.args.list.now in
    let t = c.loop-i-test.true in
    let N = noted_line s l.i l.begins l.ends.items l.noted l.invariant t (omega (arith, c.type_inv.list l.i)) c.if-begins.noted
    (λ y. elim c.if-begins.branch [ then-begins w ↦ w.noted-is | else-begins w ↦ absurd (false≢true (sym w.if-begins.false ∙ y)) ])
    (λ n. elim c.if-begins.branch [ then-begins w ↦ absurd (false≢true (sym n ∙ w.if-begins.true)) | else-begins w ↦ w.noted-is ]) in
    elim c.else-begins-2.branch [
      | else-begins-2-via-then-begins-2+else-is_err w ↦ rw w.ends-is (let p : w.try_push.new.self.items ≡ l.ends.items ++ l.i ∷ [] = search rules in rw p (read_line s l.i l.begins l.ends.items l.noted l.invariant t w.if-begins-2.true (search rules) c.if-begins.noted N))
      | else-begins-2-via-else-begins-2 w ↦ rw w.ends-is (read_on s l.i l.begins l.ends.items l.noted l.invariant t w.if-begins-2.false c.if-begins.noted N)
    ]

pub returns-clause-few : goal.returns-clause-few
returns-clause-few c =
    let l = c.loop-i in
    let s = c.args.list.now in
    let done = c.loop-i-test.false in
    (read_marked s l.i l.begins l.ends.items l.noted l.invariant done, read_noted s l.i l.begins l.ends.items l.noted l.invariant done, read_few s l.i l.begins l.ends.items l.noted l.invariant done)
