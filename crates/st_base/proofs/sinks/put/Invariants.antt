-- What is done so far follows what the sink had, and the count of faults is what it was.
use Rattle.std.proofs.Common.{◌≡◌, ◌-◌, ◌≤◌, take, length}
use Rattle.std.specs.Io.KnownBytes.{Appends}
use Rattle.st_base.proofs.sinks.put.Given as goal

abbrev pub invariant-pieces : goal.invariant-pieces
invariant-pieces g l =
    (within : l.done ≤ length l.bytes)
    × Appends (g.S.Sink.written l.fn.sink) (g.S.Sink.written l.sink) (take l.done l.bytes)
    × (g.S.Sink.faults l.sink ≡ g.S.Sink.faults l.fn.sink)
    × (g.S.Sink.beside l.sink ≡ g.S.Sink.beside l.fn.sink)

abbrev pub decreases-pieces : goal.decreases-pieces
decreases-pieces g l = length l.bytes - l.done
