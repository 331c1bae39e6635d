use Rattle.std.proofs.Common.{◌≡◌, ◌≤◌, ◌-◌, List, length, None}
use Rattle.st_disk.specs.Events.{Event}
use Rattle.st_disk.specs.Pairs.{Files}
use Rattle.st_pairs.specs.Pairs.{IsWholePair}
use Rattle.st_spool.specs.Standing.{StandsFor}
use Rattle.st_load.specs.Publishing.{KeepsLimitAndHolds}
use Rattle.st_load.proofs.Ageing.{Aged}
use Rattle.st_load.proofs.publishing.age_all.Given as goal

abbrev pub invariant-pairs : goal.invariant-pairs
invariant-pairs g l = record {
  aged : (earlier h : List Event) (f : Files) → StandsFor IsWholePair (g.D.Shelf.log l.fn.spool.shelf) l.fn.spool.state earlier h f
      → Aged (g.D.Shelf.log l.fn.spool.shelf) (g.D.Shelf.log l.spool.shelf) l.spool.state earlier h f;
  runs : l.spool.state.halted ≡ None;
  state : KeepsLimitAndHolds l.fn.spool.state l.spool.state;
  last : l.spool.state.last ≡ l.fn.spool.state.last;
  later : g.D.Shelf.faults l.fn.spool.shelf ≤ g.D.Shelf.faults l.spool.shelf;
  id : g.D.Shelf.id l.spool.shelf ≡ g.D.Shelf.id l.fn.spool.shelf;
  loans : g.D.Shelf.loans l.spool.shelf ≡ g.D.Shelf.loans l.fn.spool.shelf;
}

abbrev pub decreases-pairs : goal.decreases-pairs
decreases-pairs g l = length l.spool.state.stamps - l.spool.state.removed
