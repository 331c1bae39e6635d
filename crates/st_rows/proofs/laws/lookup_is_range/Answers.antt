use Rattle.st_rows.proofs.Lookups.{lookup_range}
use Rattle.st_rows.proofs.laws.lookup_is_range.Goals as goal

pub returns : goal.returns
returns c = lookup_range
