use Rattle.std.proofs.Common.{ℕ, List, ◌≡◌, length, take, sym, subst, arith}
use Rattle.std.proofs.lemmas.Bool.Decides.{nat_tests}
use Rattle.query_text.specs.Tables.{Next}
use Rattle.query_text.proofs.WordLaws.{no_word, next_is}
use Rattle.query_text.proofs.words.next_word.Goals as goal

pub returns-then-is_empty : goal.returns-then-is_empty
returns-then-is_empty c = no_word c.args.text.now c.split_at.result.1.now c.front.result c.front.ensures c.split_at.ensures.back (grind (arith, nat_tests))

pub returns : goal.returns
returns c =
    let e : ¬ (length c.split_at.result.1.now ≡ 0) = grind (arith, nat_tests) in
    let f = c.split_at-2.ensures in
    subst (λ (w : List ℕ). Next c.args.text.now w c.split_at-2.result.1.now) (sym f.front)
    (subst (λ (r : List ℕ). Next c.args.text.now (take c.front-2.result c.split_at.result.1.now) r) (sym f.back)
    (next_is c.args.text.now c.split_at.result.1.now c.front.result c.front-2.result c.front.ensures c.split_at.ensures.back e c.front-2.ensures))
