-- The proof of `is_blank` of src/lib.rt. Assumes nothing.
use Rattle.std.proofs.Common.{◌∙◌, rules}
use Rattle.std.proofs.lemmas.Iterator.{YieldsList-from_slice}
use Rattle.std.proofs.lemmas.Iterator.Search.{all_from_yields_List}
use borrow.Author.Tests.{tests}
use Rattle.meaning.specs.Sentences.{white}
use Rattle.brackets.proofs.Rests.{all_blank}
use Rattle.brackets.proofs.is_blank.Goals as goal

pub returns : goal.returns
returns c = all_from_yields_List white _ _ _ c.all.ensures.ran (YieldsList-from_slice c.args.text.now c.iter.ensures.rest) (λ x b q k. search (rules, tests)) ∙ all_blank c.args.text.now
