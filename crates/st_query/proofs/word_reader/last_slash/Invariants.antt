use Rattle.std.proofs.Common.{◌≢◌, All, drop}
use Rattle.st_query.proofs.word_reader.last_slash.Given as goal

abbrev pub invariant-loop-i : goal.invariant-loop-i
invariant-loop-i l = All (λ b. b ≢ 47) (drop l.i l.word)
