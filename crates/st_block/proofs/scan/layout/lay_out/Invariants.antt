use Rattle.st_block.proofs.Laying.{Laid}
use Rattle.st_block.proofs.scan.layout.lay_out.Given as goal

-- the records so far stand one after the other
abbrev pub invariant-records : goal.invariant-records
invariant-records l = Laid l.block l.place l.count l.had l.last l.at
