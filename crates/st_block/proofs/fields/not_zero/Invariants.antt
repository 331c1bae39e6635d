use Rattle.std.proofs.Common.{◌≡◌, ◌+◌, drop}
use Rattle.st_block.specs.Fields.{not_zero}
use Rattle.st_block.proofs.fields.not_zero.Given as goal

-- all bytes so far are zeros
abbrev pub invariant-bytes : goal.invariant-bytes
invariant-bytes l =
    (l.at ≡ l.place + l.byte-index) × (not_zero l.at (drop l.byte-index l.bytes) ≡ not_zero l.place l.bytes)
