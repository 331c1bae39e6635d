use Rattle.std.proofs.Common.{◌≡◌, []}
use Rattle.st_disk.specs.Disks.{Log}
use Rattle.st_disk.specs.Folders.{Folder}
use Rattle.st_disk.specs.LoggedCalls.{KnownBefore}
use Rattle.st_spool.specs.Rows.{RanBy}
use Rattle.st_spool.specs.Entering.{AreThere, found_rows}
use Rattle.st_spool.proofs.Clearing.{Left, Gone}
use Rattle.st_spool.proofs.opening.clear.Given as goal

abbrev pub invariant-names : goal.invariant-names
invariant-names g l =
    let D = g.D.Shelf in
    record {
      cleared : (first : Log) (f : Folder) → AreThere l.names f → RanBy first (D.log l.fn.shelf) [] (found_rows f) (found_rows f) → RanBy first (D.log l.shelf) [] (found_rows f) (found_rows f);
      left : Left l.names (D.log l.fn.shelf) (D.log l.shelf);
      gone : Gone l.names l.i (D.log l.shelf);
      known : KnownBefore (D.log l.fn.shelf) (D.log l.shelf);
      still : D.faults l.shelf ≡ D.faults l.fn.shelf;
      id : D.id l.shelf ≡ D.id l.fn.shelf;
      loans : D.loans l.shelf ≡ D.loans l.fn.shelf;
    }
