use Rattle.std.proofs.Common.{sym}
use Rattle.st_walk.specs.declared.header.Layer.TheVariants.{Ether}
use Rattle.st_walk.specs.Listing.{keys_left}
use Rattle.st_walk.proofs.Walks.{walk_unroll}
use Rattle.st_walk.proofs.iter.Keys.new.Goals as goal

pub returns : goal.returns
unfolding keys_left
returns c = sym (walk_unroll c.args.frame.now (record { at = 0; layer = Ether }))
