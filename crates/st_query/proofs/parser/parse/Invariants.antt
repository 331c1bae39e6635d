use Rattle.std.proofs.Common.{◌≤◌, ◌-◌, length}
use Rattle.st_query.specs.Automaton.{phase_view, open_halves}
use Rattle.st_query.specs.Parser.{HasRead}
use Rattle.st_query.proofs.parser.parse.Given as goal

abbrev pub invariant-tokens : goal.invariant-tokens
invariant-tokens l = (l.at ≤ length l.text) × HasRead l.text l.at (phase_view l.phase) (open_halves l.stack)

abbrev pub decreases-tokens : goal.decreases-tokens
decreases-tokens l = length l.text - l.at
