use Rattle.st_lane.proofs.OneLane.{one_lane}
use Rattle.st_lane.proofs.laws.one_lane.Goals as goal

pub returns : goal.returns
returns c = one_lane
