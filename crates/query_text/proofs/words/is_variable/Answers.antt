use Rattle.std.proofs.Common.{◌≡◌, ℕ, ◌<◌, List, [], ◌∷◌, length, false, refl, arith}
use Rattle.meaning.specs.Texts.{among, within}
use Rattle.meaning.specs.Tests.{◌&◌, ◌or◌}
use Rattle.meaning.specs.QueryTexts.{is_variable as is_variable_of, lower}
use Rattle.query_text.proofs.words.is_variable.Goals as goal

none : (w : List ℕ) → length w < 1 → false ≡ is_variable_of w
unfolding is_variable_of among within lower ◌&◌ ◌or◌
none [] l = refl
none (b ∷ w) l = absurd (omega arith)

pub returns-in-empty : goal.returns-in-empty
returns-in-empty c = none c.args.word.now c.in-empty.len_below

pub returns-in-len1-up : goal.returns-in-len1-up
unfolding is_variable_of
returns-in-len1-up c = c.is_lower.ensures
