use Rattle.std.proofs.Common.{◌≡◌, ◌++◌, take}
use Rattle.st_query.specs.PrintedWords.{colon_groups}
use Rattle.st_query.proofs.word_printer.put_colon_groups.Given as goal

abbrev pub invariant-loop-group : goal.invariant-loop-group
invariant-loop-group l = l.out.items ≡ l.fn.out.items ++ colon_groups (take l.group-index l.groups)
