use Rattle.st_walk.proofs.Fitting.{frame_fits}
use Rattle.st_walk.proofs.laws.keys_fit.Goals as goal

pub returns : goal.returns
returns c = frame_fits
