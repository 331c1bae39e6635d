use Rattle.std.proofs.Common.{◌≡◌, ◌≤◌, List, Some, map, take, length}
use Rattle.std.specs.Prelude.{All}
use Rattle.std.specs.List.{sum_by}
use Rattle.st_disk.specs.Pairs.{Entry}
use Rattle.st_answer.specs.Packets.{IsWholeSet}
use Rattle.st_answer.specs.Picks.{blocks_of, IsPlaced, IsFound, HasAllOf, AreReadFor}
use Rattle.st_answer.specs.Stores.{IsSameStore}
use Rattle.st_answer.specs.Lending.{LendsMore}
use Rattle.st_answer.proofs.gather.gather.Given as goal

abbrev pub invariant-entries : goal.invariant-entries
invariant-entries g l = record {
  placed : All (IsPlaced l.i) l.picked.items;
  found : (set : List Entry) → g.S.Store.set l.fn.store l.hold ≡ Some set → All (IsFound l.query l.now set) l.picked.items;
  content : (set : List Entry) → g.S.Store.set l.fn.store l.hold ≡ Some set → map g.S.File.Reader.content l.files.items ≡ map Some (blocks_of (take l.i set));
  reads : (set : List Entry) → g.S.Store.set l.fn.store l.hold ≡ Some set → IsWholeSet set
      → AreReadFor l.query l.now set (sum_by g.S.File.Reader.reads l.files.items) (sum_by g.S.File.Reader.asked l.files.items) l.picked.items;
  whole : (set : List Entry) → g.S.Store.set l.fn.store l.hold ≡ Some set → IsWholeSet set → HasAllOf l.query l.now set (take l.i set) l.picked.items;
  len : length l.files.items ≡ l.i;
  home : All (λ f. (g.S.Store.origin f).home ≡ g.S.Store.id l.fn.store) l.files.items;
  later : g.S.Store.faults l.fn.store ≤ g.S.Store.faults l.store;
  loans : LendsMore (length l.files.items) (g.S.Store.loans l.fn.store) (g.S.Store.loans l.store);
  same : IsSameStore (g.S.Store.becomes l.fn.store l.store) (g.S.Store.id l.fn.store) (g.S.Store.id l.store) (g.S.Store.holds l.fn.store) (g.S.Store.holds l.store) (g.S.Store.times_held l.fn.store) (g.S.Store.times_held l.store)
      (g.S.Store.size l.fn.store) (g.S.Store.size l.store) (g.S.Store.set l.fn.store) (g.S.Store.set l.store);
}
