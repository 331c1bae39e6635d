use Rattle.std.proofs.Common.{◌<◌, ℕ, get_or, Contains}
use Rattle.st_disk.specs.declared.naming.Name.{Name}
use Rattle.st_spool.specs.Entering.{IsPart}
use Rattle.st_spool.proofs.opening.has_strays.Given as goal

abbrev pub invariant-names : goal.invariant-names
invariant-names l = (k : ℕ) (d : Name) → k < l.i → IsPart (Contains l.names) (get_or l.names k d)
