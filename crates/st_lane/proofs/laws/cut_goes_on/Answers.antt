use Rattle.st_lane.proofs.Cuts.{cut_goes_on}
use Rattle.st_lane.proofs.laws.cut_goes_on.Goals as goal

pub returns : goal.returns
returns c = cut_goes_on
