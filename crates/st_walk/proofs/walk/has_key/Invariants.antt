use Rattle.std.proofs.Common.{◌↔◌}
use Rattle.st_walk.specs.Walk.{FrameHas, HasFrom}
use Rattle.st_walk.specs.Listing.{steps_left}
use Rattle.st_walk.proofs.walk.has_key.Given as goal

-- the frame has the key if and only if the rest of its walk has it
abbrev pub invariant-layers : goal.invariant-layers
invariant-layers l = FrameHas l.frame l.key ↔ HasFrom l.frame l.spot.at l.spot.layer l.key

abbrev pub decreases-layers : goal.decreases-layers
decreases-layers l = steps_left l.frame l.spot.at l.spot.layer
