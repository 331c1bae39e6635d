use Rattle.st_disk.proofs.Order.{after_all}
use Rattle.st_disk.proofs.listing.is_after_all.Goals as goal

pub returns-else-is_empty : goal.returns-else-is_empty
returns-else-is_empty c h rises k d lt = after_all c.args.names.now c.args.name _ (c.is_before.ensures.0 h) rises k d lt
