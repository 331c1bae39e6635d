use Rattle.std.proofs.Common.{◌≤◌, ◌↔◌}
use Rattle.st_query.specs.declared.nodes.Node.{size-Node}
use Rattle.st_query.specs.Meaning.{MatchesTree}
use Rattle.st_query.specs.Trees.{tree}
use Rattle.st_query.proofs.matcher.+matches_part.Given as goal

abbrev pub invariant-parts : goal.invariant-parts
invariant-parts l =
    (size-Node l.rest ≤ size-Node l.fn.node)
    × (MatchesTree (tree l.fn.node) l.now l.packet.record.now ↔ MatchesTree (tree l.rest) l.now l.packet.record.now)
