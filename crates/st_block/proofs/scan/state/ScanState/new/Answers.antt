use Rattle.st_block.proofs.Starting.{sound_start}
use Rattle.st_block.proofs.scan.state.ScanState.new.Goals as goal

pub invariant_of-result : goal.invariant_of-result
invariant_of-result c = sound_start c.args.size c.args.blocks c.requires.size c.requires.blocks
