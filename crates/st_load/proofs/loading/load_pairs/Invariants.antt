use Rattle.std.specs.Prelude.{None}
use Rattle.std.proofs.Common.{◌≡◌, ◌≤◌, ◌-◌, ◌^◌, ℕ, List, [], ◌∷◌, Some}
use Rattle.st_base.specs.Records.{Rec}
use Rattle.st_disk.specs.Disks.{Log}
use Rattle.st_disk.specs.Events.{Event}
use Rattle.st_disk.specs.Pairs.{Files}
use Rattle.st_pairs.specs.Pairs.{IsWholePair}
use Rattle.st_pcap.specs.Reading.{IsGoing}
use Rattle.st_spool.specs.Standing.{StandsFor}
use Rattle.st_load.specs.Filling.{HasReadTo, HasCounted, HasCome}
use Rattle.st_load.specs.Loading.{situation}
use Rattle.st_load.specs.Publishing.{KeepsLimitAndHolds}
use Rattle.st_load.proofs.Going.{SoFar}
use Rattle.st_load.proofs.loading.load_pairs.Given as goal

abbrev pub invariant-pairs : goal.invariant-pairs
invariant-pairs g l = record {
  job : (log : Log) (earlier h : List Event) (f : Files) → g.D.Shelf.log l.fn.spool.shelf ≡ Some log → StandsFor IsWholePair (g.D.Shelf.log l.fn.spool.shelf) l.fn.spool.state earlier h f
      → SoFar l.fn.spool.state.limit l.layout (situation h l.fn.spool.state (g.C.Clock.to_come l.fn.clock)) (g.D.Shelf.log l.fn.spool.shelf) (g.D.Shelf.log l.spool.shelf) l.spool.state earlier h f
      (g.C.Clock.to_come l.clock) (g.O.Sink.written l.fn.out) (g.O.Sink.written l.out)
      (λ (bytes : List ℕ). HasReadTo l.fn.reader bytes (l.fn.first ∷ []) (g.S.Source.left l.fn.source))
      (λ (bytes : List ℕ) (rs : List Rec). HasReadTo l.reader bytes rs (g.S.Source.left l.source)) l.first l.number;
  input : (bytes : List ℕ) → HasReadTo l.fn.reader bytes (l.fn.first ∷ []) (g.S.Source.left l.fn.source) → HasCome l.layout.size l.number bytes l.first l.reader (g.S.Source.left l.source);
  runs : l.spool.state.halted ≡ None;
  state : KeepsLimitAndHolds l.fn.spool.state l.spool.state;
  going : IsGoing l.reader.phase;
  number : HasCounted l.number l.reader;
  later : g.D.Shelf.faults l.fn.spool.shelf ≤ g.D.Shelf.faults l.spool.shelf;
  read : g.S.Source.faults l.source ≡ g.S.Source.faults l.fn.source;
  write : g.O.Sink.faults l.out ≡ g.O.Sink.faults l.fn.out;
  id : g.D.Shelf.id l.spool.shelf ≡ g.D.Shelf.id l.fn.spool.shelf;
  loans : g.D.Shelf.loans l.spool.shelf ≡ g.D.Shelf.loans l.fn.spool.shelf;
  source : g.S.Source.beside l.source ≡ g.S.Source.beside l.fn.source;
  out : g.O.Sink.beside l.out ≡ g.O.Sink.beside l.fn.out;
}

abbrev pub decreases-pairs : goal.decreases-pairs
decreases-pairs g l = 2 ^ 41 - l.reader.taken
