use Rattle.st_lane.proofs.Cuts.{one_cut}
use Rattle.st_lane.proofs.laws.one_cut.Goals as goal

pub returns : goal.returns
returns c = one_cut
