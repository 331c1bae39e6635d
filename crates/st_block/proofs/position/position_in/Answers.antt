use Rattle.st_block.proofs.Rising.{last_position}
use Rattle.st_block.proofs.position.position_in.Goals as goal

pub returns-clause-last : goal.returns-clause-last
returns-clause-last c = λ rs r a. last_position c.args.size c.args.number c.args.offset rs r a
