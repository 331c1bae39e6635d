use Rattle.std.proofs.Common.{◌≡◌, ◌+◌, ◌-◌, ◌^◌, min, take}
use Rattle.std.specs.List.{sum_by}
use Rattle.st_pcap.specs.declared.numbers.TheConstants.{FILE_HEAD_SIZE, RECORD_HEAD_SIZE}
use Rattle.st_answer.specs.declared.picked.Picked.{Picked}
use Rattle.st_answer.proofs.order.told_of.Given as goal

abbrev pub invariant-picks : goal.invariant-picks
invariant-picks l =
    l.bytes ≡ min (FILE_HEAD_SIZE + sum_by (λ (p : Picked). RECORD_HEAD_SIZE + p.len) (take l.pick-index l.picked)) (2 ^ 64 - 1)
