use Rattle.st_block.proofs.Rising.{positions_stay}
use Rattle.st_block.proofs.laws.positions_stay.Goals as goal

pub returns : goal.returns
returns c = positions_stay
