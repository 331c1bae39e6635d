use Rattle.std.proofs.Common.{◌<◌, arith}
use Rattle.std.proofs.lemmas.List.Elements.{All-from_get_or}
use Rattle.st_walk.specs.declared.header.Layer.TheVariants.{Ether}
use Rattle.st_walk.specs.declared.text.Key.TheVariants.{Second}
use Rattle.st_walk.specs.Listing.{spot_at}
use Rattle.st_walk.proofs.Seconds.{never}
use Rattle.st_walk.proofs.Walks.{walk_contains, walk_order}
use Rattle.st_walk.proofs.Fitting.{frame_fits}
use Rattle.st_walk.proofs.walk.keys.Goals as goal

pub returns-clause-each : goal.returns-clause-each
returns-clause-each c = λ k. rw c.new.ensures (walk_contains c.args.frame.now (spot_at 0 Ether) k)

pub returns-clause-order : goal.returns-clause-order
returns-clause-order c = λ ks. rw c.new.ensures (walk_order c.args.frame.now 0 Ether ks)

pub returns-clause-second : goal.returns-clause-second
returns-clause-second c = λ s h. never c.args.frame.now 0 Ether s ((walk_contains c.args.frame.now (spot_at 0 Ether) (Second s)).0 (rw c.new.ensures at h))

pub returns-clause-fits : goal.returns-clause-fits
returns-clause-fits c = λ k h. frame_fits c.args.frame.now k (All-from_get_or (λ b. b < 256) c.args.frame.now 0 (λ i _. let byte = c.type_inv.frame i in omega (arith, byte))) ((walk_contains c.args.frame.now (spot_at 0 Ether) k).0 (rw c.new.ensures at h))
