use Rattle.st_block.proofs.Rising.{positions_rise}
use Rattle.st_block.proofs.laws.positions_rise.Goals as goal

pub returns : goal.returns
returns c = positions_rise
