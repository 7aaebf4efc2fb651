use mathlib.Core.Path.{◌≡◌, sym, ◌∙◌}
use lib.ListN.{length}
use native.Mathlib.Omega.{arith}
use Rattle.search.proofs.Doing.{head_first, tuples-fit, given, any_buffers, leaves_on, leaves_stops, lists, lists_refused}
use borrow.Author.Rules.{rules}
use Rattle.search.proofs.step.list_sentence.Goals as goal

pub put_listing-bytes-requires : goal.put_listing-bytes-requires
put_listing-bytes-requires c = let w = c.list_answers-a in let h = sym w.ensures.0 ∙ c.in-Ok.is in (head_first c.args.post.now c.args.label.now c.args.q 1000000 _ _ _ h, tuples-fit c.args.post.now c.args.label.now c.args.q 1000000 _ _ _ h (search rules))

pub returns-in-Ok : goal.returns-in-Ok
returns-in-Ok c = let w = c.list_answers-a in let h = sym w.ensures.0 ∙ c.in-Ok.is in let x : length c.args.sets.now ≡ 256 = omega (arith, c.well_formed) in let y : length c.args.found.now ≡ 4096 = omega (arith, c.well_formed) in let z = any_buffers _ _ _ _ _ x y in leaves_on _ c.args.end _ _ _ _ (lists _ _ _ _ _ _ (z ∙ h) (given c.args.post.now c.args.label.now c.args.q 1000000 _ _ _ h _ w.ensures.2)) c.put_listing-bytes.ensures.0 c.put_listing-bytes.ensures.1

pub returns-in-Err : goal.returns-in-Err
returns-in-Err c = let w = c.list_answers-a in let h = sym w.ensures.0 ∙ c.in-Err.is in let o : length c.args.out.now ≡ 262144 = search rules in let x : length c.args.sets.now ≡ 256 = omega (arith, c.well_formed) in let y : length c.args.found.now ≡ 4096 = omega (arith, c.well_formed) in let z = any_buffers _ _ _ _ _ x y in leaves_stops _ 72 _ _ _ _ (lists_refused _ _ _ _ _ (z ∙ h)) (omega (arith, o)) c.put_refusal-bytes.ensures
