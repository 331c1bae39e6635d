use Rattle.std.proofs.Common.{◌≤◌, length}
use Rattle.st_tblock.proofs.Passing.{Passes}
use Rattle.st_tblock.proofs.search.scan.Given as goal

abbrev pub decreases-entries : goal.decreases-entries
decreases-entries l = length l.rest

abbrev pub invariant-entries : goal.invariant-entries
invariant-entries l = record {
  within : l.matched ≤ length l.key;
  passes : Passes l.text l.key l.rest l.matched;
}
