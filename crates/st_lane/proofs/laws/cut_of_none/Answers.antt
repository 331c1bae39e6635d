use Rattle.st_lane.proofs.Cuts.{cut_of_none}
use Rattle.st_lane.proofs.laws.cut_of_none.Goals as goal

pub returns : goal.returns
returns c = cut_of_none
