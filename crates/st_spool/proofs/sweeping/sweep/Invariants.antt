use Rattle.std.proofs.Common.{◌≡◌, ◌≤◌, ◌<◌, ℕ, [], None, false, slice_index}
use Rattle.st_base.specs.Faults.{Rose}
use Rattle.st_disk.specs.declared.naming.Name.{Name}
use Rattle.st_disk.specs.Disks.{Log}
use Rattle.st_disk.specs.LoggedCalls.{Reads, KnownBefore}
use Rattle.st_spool.specs.Rows.{Row, Past, RanBy}
use Rattle.st_spool.specs.States.{covers}
use Rattle.st_spool.specs.Holding.{IsGone, IsOther, StayRead}
use Rattle.st_spool.proofs.sweeping.sweep.Given as goal

abbrev pub invariant-places : goal.invariant-places
invariant-places g l =
    let D = g.D.Shelf in
    record {
      swept : (first : Log) (rows : ℕ → Row) → ((n : ℕ) → n < l.removed → covers l.holds n ≡ false → rows (slice_index l.stamps n) ≡ Past) → RanBy first (D.log l.fn.shelf) [] rows rows → RanBy first (D.log l.shelf) [] rows rows;
      later : l.from ≤ l.swept;
      reached : l.swept ≤ l.i;
      gone : (n : ℕ) → l.from ≤ n → n < l.swept → IsGone (D.log l.shelf) (slice_index l.stamps n);
      tried : (Rose (D.faults l.fn.shelf) (D.faults l.shelf) → ⊥) → (n : ℕ) → l.from ≤ n → n < l.i → covers l.holds n ≡ false → IsGone (D.log l.shelf) (slice_index l.stamps n);
      still : (n : Name) → Reads (D.log l.fn.shelf) n (λ v. v ≡ None) → Reads (D.log l.shelf) n (λ v. v ≡ None);
      spares : StayRead (D.log l.fn.shelf) (D.log l.shelf) (λ n. (i : ℕ) → i < l.removed → IsOther (slice_index l.stamps i) n);
      known : KnownBefore (D.log l.fn.shelf) (D.log l.shelf);
      counted : D.faults l.fn.shelf ≤ D.faults l.shelf;
      id : D.id l.shelf ≡ D.id l.fn.shelf;
      loans : D.loans l.shelf ≡ D.loans l.fn.shelf;
    }
