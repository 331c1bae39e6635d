use Rattle.std.proofs.Common.{◌∙◌, ap}
use Rattle.st_spool.specs.Holding.{size_of}
use Rattle.st_spool.proofs.Holds.{length_held}
use Rattle.st_spool.proofs.spool.Spool.count.Goals as goal

pub returns-clause-held : goal.returns-clause-held
returns-clause-held g c = λ earlier h k stands. ap size_of c.hold.view_is ∙ length_held c.args.hold.now h (stands.holds c.args.hold.now c.requires)
