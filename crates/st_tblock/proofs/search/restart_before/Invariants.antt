use Rattle.std.proofs.Common.{◌-◌, ◌*◌, ◌≤◌, length}
use Rattle.st_tblock.specs.Block.{numbers_in}
use Rattle.st_tblock.specs.Search.{MayBegin}
use Rattle.st_tblock.proofs.search.restart_before.Given as goal

abbrev pub decreases-halves : goal.decreases-halves
decreases-halves l = l.high - l.low

abbrev pub invariant-halves : goal.invariant-halves
invariant-halves l = record {
  order : l.low ≤ l.high;
  room : 4 * l.high ≤ length l.restarts;
  within : l.best ≤ length l.text;
  begins : MayBegin l.text (numbers_in l.restarts) l.key l.best;
}
