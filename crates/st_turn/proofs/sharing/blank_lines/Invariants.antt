use Rattle.std.proofs.Common.{◌≡◌, replicate}
use Rattle.st_turn.specs.Parts.{blank}
use Rattle.st_turn.proofs.sharing.blank_lines.Given as goal

abbrev pub invariant-loop : goal.invariant-loop
invariant-loop l = l.lines.items ≡ replicate l.counter blank
