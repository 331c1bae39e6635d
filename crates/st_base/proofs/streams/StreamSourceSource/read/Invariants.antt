-- A try that was broken off changes nothing.
use Rattle.std.proofs.Common.{◌≡◌}
use Rattle.std.specs.Io.KnownBytes.{Keeps}
use Rattle.st_base.proofs.streams.StreamSourceSource.read.Given as goal

abbrev pub invariant-tries : goal.invariant-tries
invariant-tries g l =
    (faults : l.self.faults ≡ l.fn.self.faults) × Keeps (g.R.Read.remaining l.fn.self.reader) (g.R.Read.remaining l.self.reader)
