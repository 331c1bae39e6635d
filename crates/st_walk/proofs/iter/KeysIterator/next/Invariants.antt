use Rattle.std.proofs.Common.{◌≡◌}
use Rattle.st_walk.specs.Listing.{keys_left, steps_left}
use Rattle.st_walk.proofs.iter.KeysIterator.next.Given as goal

-- the same keys are left
abbrev pub invariant-layers : goal.invariant-layers
invariant-layers l = keys_left l.self ≡ keys_left l.initial.self

abbrev pub decreases-layers : goal.decreases-layers
decreases-layers l = steps_left l.self.frame.now l.self.spot.at l.self.spot.layer
