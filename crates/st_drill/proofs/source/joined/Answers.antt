use Rattle.std.proofs.Common.{refl}
use Rattle.st_drill.proofs.Joining.{both_parts}
use Rattle.st_drill.proofs.source.joined.Goals as goal

pub returns : goal.returns
returns c =
    both_parts _ _ _ _ _ 16 64 c.requires.head c.requires.frame refl c.put_at.ensures c.put_at-2.ensures
