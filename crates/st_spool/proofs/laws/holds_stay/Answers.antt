use Rattle.st_spool.proofs.Holds.{held_published, held_removed}
use Rattle.st_spool.proofs.laws.holds_stay.Goals as goal

pub returns : goal.returns
returns c = (held_published, held_removed)
