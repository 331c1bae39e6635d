use Rattle.st_block.proofs.Rising.{positions_fit}
use Rattle.st_block.proofs.laws.positions_fit.Goals as goal

pub returns : goal.returns
returns c = positions_fit
