use Rattle.std.proofs.Common.{◌≡◌, ◌-◌}
use Rattle.st_query.specs.Trees.{tree}
use Rattle.st_query.specs.Alternatives.{left_part}
use Rattle.st_query.proofs.alternatives.left_part.Given as goal

abbrev pub invariant-loop-step : goal.invariant-loop-step
invariant-loop-step l = left_part (tree l.rest) (l.following - l.step) ≡ left_part (tree l.node) l.following
