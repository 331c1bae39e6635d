use Rattle.std.proofs.Common.{arith}
use Rattle.st_tblock.proofs.Sound.{empty_sound}
use Rattle.st_tblock.proofs.builder.EntryBlock.new.Goals as goal

pub invariant_of-result : goal.invariant_of-result
invariant_of-result c = (omega arith, rw c.in_ok-restarts.ensures.items (empty_sound c.args.interval c.requires))
