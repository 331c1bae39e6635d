use Rattle.std.proofs.Common.{◌≡◌, take}
use Rattle.std.specs.Prelude.{count_by, nat_eq}
use Rattle.st_drill.specs.declared.numbers.TheConstants.{LINE_FEED}
use Rattle.st_drill.proofs.drilling.lines_in.Given as goal

-- the lines of the bytes so far
abbrev pub invariant-bytes : goal.invariant-bytes
invariant-bytes l = l.lines ≡ count_by (nat_eq LINE_FEED) (take l.byte-index l.text)
