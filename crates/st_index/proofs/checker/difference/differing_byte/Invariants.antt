use Rattle.std.proofs.Common.{◌≡◌, length}
use Rattle.st_index.specs.CheckRows.{first_difference}
use Rattle.st_index.proofs.checker.difference.differing_byte.Given as goal

abbrev pub invariant-bytes : goal.invariant-bytes
invariant-bytes l =
    first_difference l.found l.wanted ≡ first_difference l.left l.wanted_left

abbrev pub decreases-bytes : goal.decreases-bytes
decreases-bytes l = length l.left
