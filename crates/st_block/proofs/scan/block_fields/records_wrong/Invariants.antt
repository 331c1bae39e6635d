use Rattle.st_block.proofs.Checking.{Checked}
use Rattle.st_block.proofs.scan.block_fields.records_wrong.Given as goal

-- nothing is wrong so far
abbrev pub invariant-records : goal.invariant-records
invariant-records l = Checked l.block l.place l.count l.had l.at
