-- A try that was broken off changes nothing.
use Rattle.std.proofs.Common.{◌≡◌}
use Rattle.std.specs.Io.KnownBytes.{Keeps}
use Rattle.st_base.proofs.streams.StreamSinkSink.write.Given as goal

abbrev pub invariant-tries : goal.invariant-tries
invariant-tries g l =
    (faults : l.self.faults ≡ l.fn.self.faults) × Keeps (g.W.Write.contents l.fn.self.writer) (g.W.Write.contents l.self.writer)
