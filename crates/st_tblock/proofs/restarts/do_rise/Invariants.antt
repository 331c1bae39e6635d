use Rattle.std.proofs.Common.{◌≡◌, length}
use Rattle.st_tblock.specs.Block.{numbers_in, rises_from}
use Rattle.st_tblock.proofs.restarts.do_rise.Given as goal

abbrev pub decreases-restarts : goal.decreases-restarts
decreases-restarts l = length l.rest

abbrev pub invariant-restarts : goal.invariant-restarts
invariant-restarts l = rises_from l.last (numbers_in l.rest) ≡ rises_from l.fn.last (numbers_in l.fn.restarts)
