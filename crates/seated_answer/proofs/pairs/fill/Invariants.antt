use Rattle.std.proofs.Common.{◌≡◌, false}
use Rattle.st_lane.specs.Lane.{IsSameLane}
use Rattle.seated_answer.proofs.pairs.fill.Given as goal

abbrev pub invariant-loop-number : goal.invariant-loop-number
invariant-loop-number g l =
    IsSameLane g.T.Draft.origin l.fn.lane l.lane × (l.lane.broken ≡ false)
    × (l.lane.filling.records ≡ l.number)
