use Rattle.std.proofs.Common.{ℕ, ◌<◌}
use Rattle.st_query.specs.Words.{IsOnes}
use Rattle.st_query.proofs.word_reader.leading_ones.Given as goal

abbrev pub invariant-loop-bits : goal.invariant-loop-bits
invariant-loop-bits l = (n : ℕ) → n < l.bits → IsOnes l.width n l.value → ⊥
