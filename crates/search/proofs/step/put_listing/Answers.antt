use mathlib.Core.Path.{◌≡◌}
use Prim.Native.Nat.{◌+◌, ◌*◌}
use lib.ListN.{length}
use borrow.Author.Rules.{rules}
use native.Mathlib.Omega.{arith}
use Rattle.search.proofs.Stores.{wrote_on, wrote_length, lines_most}
use Rattle.search.proofs.Doing.{wrote_count, wrote_front}
use Rattle.search.proofs.step.put_listing.Goals as goal

pub put_tuples-at-requires : goal.put_tuples-at-requires
put_tuples-at-requires c = let m = lines_most c.args.listing.tuples c.args.k c.requires.0 c.requires.1 in let o : length c.args.out.now ≡ 262144 = search rules in let f : length c.args.found.now ≡ 4096 = search rules in (omega (arith, m, o), omega (arith, f, c.requires.1))

pub put_end-requires : goal.put_end-requires
put_end-requires c = let w = c.put_tuples-at in let m = lines_most c.args.listing.tuples c.args.k c.requires.0 c.requires.1 in let o : length c.args.out.now ≡ 262144 = search rules in omega (arith, m, o, w.ensures.behind, w.ensures.few, wrote_length _ _ _ _ _ _ w.ensures)

pub returns : goal.returns
returns c = let w = c.put_tuples-at in let m = lines_most c.args.listing.tuples c.args.k c.requires.0 c.requires.1 in let o : length c.args.out.now ≡ 262144 = search rules in let x = wrote_on _ _ (c.args.listing.tuples * ((c.args.k + 1) * 21)) 72 _ _ _ _ _ _ w.ensures c.put_end.ensures in (wrote_count _ _ _ _ _ x, wrote_front _ _ _ _ _ (omega (arith, m, o)) x)
