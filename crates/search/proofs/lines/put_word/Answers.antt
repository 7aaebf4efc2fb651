-- `search::lines::put_word` meets its contract: the word is copied to its place. Assumes nothing.
use Rattle.std.proofs.Common.{◌≡◌, ◌+◌, ◌-◌, length, arith}
use Rattle.search.proofs.Stores.{wrote_copied}
use Rattle.search.proofs.lines.put_word.Goals as goal

pub returns : goal.returns
returns c = let a = c.args in
    let l : length a.word.now ≡ a.at + length a.word.now - a.at = omega arith in
    wrote_copied a.word.now a.out.now _ a.at _ c.requires c.copy_from_slice.ensures.after l
