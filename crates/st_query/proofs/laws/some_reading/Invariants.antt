use Rattle.std.proofs.Common.{◌≤◌, ◌-◌, length}
use Rattle.st_query.proofs.SomeReading.{SoFar}
use Rattle.st_query.proofs.laws.some_reading.Given as goal

abbrev pub invariant-tokens : goal.invariant-tokens
invariant-tokens l = (l.at ≤ length l.text) × SoFar l.text l.at

abbrev pub decreases-tokens : goal.decreases-tokens
decreases-tokens l = length l.text - l.at
