use Rattle.std.proofs.Common.{◌≡◌, List, Some, Contains}
use Rattle.st_disk.specs.Disks.{Log}
use Rattle.st_disk.specs.Events.{Event}
use Rattle.st_disk.specs.Pairs.{Files}
use Rattle.st_spool.specs.Standing.{StandsFor}
use Rattle.st_spool.specs.States.{held}
use Rattle.st_commands.specs.Commands.{Stays}
use Rattle.st_pairs.specs.Pairs.{IsWholePair}
use Rattle.st_commands.specs.Reports.{IsSaid}
use Rattle.st_commands.proofs.Reporting.{Progress}
use Rattle.st_commands.proofs.reports.report_pairs.Given as goal

abbrev pub invariant-pairs : goal.invariant-pairs
invariant-pairs g l = record {
  told : (log : Log) (earlier h : List Event) (f : Files) → g.D.Shelf.log l.fn.spool.shelf ≡ Some log
      → StandsFor IsWholePair (g.D.Shelf.log l.fn.spool.shelf) l.fn.spool.state earlier h f
      → Progress l.report (held l.hold h) (g.O.Sink.written l.fn.out) (g.O.Sink.written l.out) l.found l.i;
  has : Contains l.spool.state.holds l.hold;
  said : IsSaid l.found;
  stays : Stays g.D.Shelf.log g.D.Shelf.id g.D.Shelf.faults g.D.Shelf.loans l.fn.spool l.spool;
  unwritten : g.O.Sink.faults l.out ≡ g.O.Sink.faults l.fn.out;
  rest : g.O.Sink.beside l.out ≡ g.O.Sink.beside l.fn.out;
}
