use Rattle.st_lane.proofs.Cuts.{cut_ends}
use Rattle.st_lane.proofs.laws.cut_ends.Goals as goal

pub returns : goal.returns
returns c = cut_ends
