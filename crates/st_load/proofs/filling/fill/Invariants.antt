use Rattle.std.specs.Prelude.{false}
use Rattle.std.proofs.Common.{◌≡◌, ◌≤◌, ◌<◌, ◌+◌, ◌-◌, ◌^◌, ◌⊎◌, ℕ, List, [], ◌∷◌, ◌++◌}
use Rattle.st_lane.specs.Lane.{Represents, IsSameLane}
use Rattle.st_load.specs.Filling.{HasReadTo, HasCounted, HasCome}
use Rattle.st_pcap.specs.Reading.{IsGoing}
use Rattle.st_load.proofs.Taking.{Took}
use Rattle.st_load.proofs.filling.fill.Given as goal

abbrev pub invariant-records : goal.invariant-records
invariant-records g l = record {
  took : Represents g.T.Sink.written l.fn.lane []
      → Took g.T.Sink.written (λ bytes given. HasReadTo l.fn.reader bytes (given ++ l.fn.first ∷ []) (g.S.Source.left l.fn.source)) (λ bytes rs. HasReadTo l.reader bytes rs (g.S.Source.left l.source)) l.fn.first l.packet l.lane;
  input : (bytes : List ℕ) → HasCome l.fn.lane.filling.size l.fn.number bytes l.fn.first l.fn.reader (g.S.Source.left l.fn.source)
      → HasCome l.fn.lane.filling.size (l.fn.number + l.lane.filling.records) bytes l.packet l.reader (g.S.Source.left l.source);
  whole : l.lane.broken ≡ false;
  going : IsGoing l.reader.phase;
  number : HasCounted (l.number + l.lane.filling.records) l.reader;
  later : l.fn.reader.taken ≤ l.reader.taken;
  progress : (l.lane.filling.records ≡ 0) ⊎ (l.fn.reader.taken < l.reader.taken);
  lane : IsSameLane g.T.Draft.origin l.fn.lane l.lane;
  block : g.T.Sink.faults l.lane.block ≡ g.T.Sink.faults l.fn.lane.block;
  still : g.S.Source.faults l.source ≡ g.S.Source.faults l.fn.source;
  rest : g.S.Source.beside l.source ≡ g.S.Source.beside l.fn.source;
}

abbrev pub decreases-records : goal.decreases-records
decreases-records g l = 2 ^ 41 - l.reader.taken
