use Rattle.st_query.specs.Trees.{tree}
use Rattle.st_query.proofs.Chains.{Left}
use Rattle.st_query.proofs.matcher.matches_chain.Given as goal

abbrev pub invariant-loop-step : goal.invariant-loop-step
invariant-loop-step l = Left l.chain.following l.now l.packet.record.now (tree l.node) (tree l.rest) l.step
