use Rattle.std.proofs.Common.{◌≡◌, ◌+◌, ◌-◌, ◌≤◌, length, drop}
use Rattle.std.specs.List.{prefix_len}
use Rattle.st_query.specs.Tokens.{is_word_byte}
use Rattle.st_query.proofs.lexer.word_len.Given as goal

abbrev pub invariant-loop-n : goal.invariant-loop-n
invariant-loop-n l = (l.n ≤ length l.bytes) × (prefix_len is_word_byte l.bytes ≡ l.n + prefix_len is_word_byte (drop l.n l.bytes))

abbrev pub decreases-loop-n : goal.decreases-loop-n
decreases-loop-n l = length l.initial.bytes - l.n
