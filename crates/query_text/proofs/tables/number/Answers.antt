use Rattle.std.proofs.Common.{◌≡◌, refl, sym, ap, ◌∙◌, ◌<◌, [], ◌∷◌, ◌++◌, length, arith, rules, length-append}
use Rattle.meaning.specs.QueryTexts.{has, place_in}
use Rattle.query_text.specs.Tables.{texts}
use Rattle.query_text.proofs.PlaceOf.{words_of}
use Rattle.query_text.proofs.TableLaws.{noted_old, number_full, number_new}
use Rattle.query_text.proofs.tables.number.Goals as goal

pub returns-in-Some : goal.returns-in-Some
unfolding texts
returns-in-Some g c =
    let s = c.args.seen.now in
    let w = c.args.word.now in
    let v = c.as_slice.ensures.value in
    (omega (arith, ap length v, c.as_slice.ensures.fits), sym (noted_old (texts s) w (ap (λ l. has (words_of l) w) (sym v) ∙ c.in-Some.ensures.0)), c.in-Some.ensures.1 ∙ ap (λ l. place_in (words_of l) w) v, omega (arith, c.in-Some.ensures.2, c.as_slice.ensures.fits))

pub returns-then-is_err : goal.returns-then-is_err
unfolding texts
returns-then-is_err g c =
    let s = c.args.seen.now in
    let w = c.args.word in
    let full : length s.items ≡ g.row.N = search rules in
    (refl, omega (arith, full, number_full s w (ap (λ l. has (words_of l) w.now) (sym c.as_slice.ensures.value) ∙ c.in_default.ensures)))

pub returns : goal.returns
unfolding texts
returns g c =
    let s = c.args.seen.now in
    let w = c.args.word in
    let room : length s.items < g.row.N = search rules in
    let on : c.try_push.new.self.items ≡ s.items ++ w ∷ [] = search rules in
    let e = number_new s w (ap (λ l. has (words_of l) w.now) (sym c.as_slice.ensures.value) ∙ c.in_default.ensures) c.try_push.new.self on in
    (omega (arith, room, ap length on, length-append s.items (w ∷ [])), e.0, c.len-n.ensures.value ∙ e.1, omega (arith, room, c.len-n.ensures.value))
