use Rattle.std.proofs.Common.{◌≡◌, ℕ, ◌+◌, List, length, get_or, sym, ◌∙◌, ap, add-one, arith}
use Rattle.meaning.specs.declared.Condition.{Condition}
use Rattle.meaning.specs.declared.Query.{Query}
use Rattle.meaning.specs.Query.{no-condition}
use Rattle.pouchmeadow.specs.declared.Terms.{Terms}
use Rattle.pouchmeadow.specs.Gathered.{filled, gathered, placed}
use Rattle.pouchmeadow.proofs.Laws.{few_is}
use Rattle.pouchmeadow.proofs.gather.Goals as goal

-- one more record is in place
one_more : (t : Terms) (cs : List Condition) (n i : ℕ) (c : Condition) (q r : Query) → c ≡ get_or cs i no-condition → q ≡ gathered t cs n i → r ≡ placed q i c → r ≡ gathered t cs n (i + 1)
unfolding filled
one_more t cs n i c q r ec eq er =
    er ∙ ap (λ (x : Query). placed x i c) eq ∙ ap (placed (gathered t cs n i) i) ec ∙ ap (gathered t cs n) (sym (add-one i))

pub loop-i-init : goal.loop-i-init
unfolding filled
loop-i-init c = c.empty-q.ensures

pub condition_of-c-requires : goal.condition_of-c-requires
condition_of-c-requires c = omega (arith, c.most-i-end.ensures, (few_is (length c.args.axes.now)).0)

pub put-q-requires : goal.put-q-requires
put-q-requires c = omega (arith, c.most-i-end.ensures, (few_is (length c.args.axes.now)).1)

pub loop-i-preserved : goal.loop-i-preserved
loop-i-preserved c = one_more _ _ _ _ _ _ _ c.condition_of-c.ensures c.loop-i.invariant c.put-q.ensures

pub returns : goal.returns
returns c =
    let e : c.loop-i.i ≡ c.most-i-end.result = omega arith in
    c.loop-i.invariant ∙ ap (gathered c.args.terms c.args.axes.now (length c.args.axes.now)) (e ∙ c.most-i-end.ensures)
