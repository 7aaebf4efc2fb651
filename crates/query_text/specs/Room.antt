-- Whether a buffer holds the names. Assumes nothing: these are definitions.
use Rattle.std.specs.Prelude.{Option, Some, None, ℕ, ltb}
use Rattle.meaning.specs.Texts.{pick}

unfoldable pub room_of : ℕ → ℕ → Option ℕ
room_of takes have = pick (ltb have takes) None (Some takes)
