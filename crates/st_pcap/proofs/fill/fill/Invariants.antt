use Rattle.std.proofs.Common.{◌≡◌, ◌-◌, ◌≤◌, length, take}
use Rattle.std.specs.Io.KnownBytes.{Consumes}
use Rattle.st_pcap.proofs.fill.fill.Given as goal

-- what a loop of reads has done so far
abbrev pub invariant-reads : goal.invariant-reads
invariant-reads g l =
    (l.have ≤ length l.out) × Consumes (g.S.Source.left l.fn.source) (g.S.Source.left l.source) (take l.have l.out)
    × (g.S.Source.faults l.source ≡ g.S.Source.faults l.fn.source) × (g.S.Source.beside l.source ≡ g.S.Source.beside l.fn.source)

abbrev pub decreases-reads : goal.decreases-reads
decreases-reads g l = length l.initial.out - l.have
