use Rattle.std.proofs.Common.{◌≡◌, ◌≤◌, ◌+◌, ◌<◌, length}
use Rattle.std.specs.Prelude.{All, ◌⊎◌}
use Rattle.std.specs.List.{sum_by}
use Rattle.st_base.specs.Faults.{Rose}
use Rattle.st_answer.specs.Stores.{IsSameStore}
use Rattle.st_answer.proofs.closing.close_all.Given as goal

abbrev pub invariant-files : goal.invariant-files
invariant-files g l = record {
  home : All (λ f. (g.S.Store.origin f).home ≡ g.S.Store.id l.fn.store) l.files.items;
  least : length l.fn.files.items ≤ (g.S.Store.loans l.fn.store).lent;
  lent : (g.S.Store.loans l.store).lent + length l.fn.files.items ≡ (g.S.Store.loans l.fn.store).lent + length l.files.items;
  peak : (g.S.Store.loans l.store).peak ≡ (g.S.Store.loans l.fn.store).peak;
  reads : (g.S.Store.loans l.store).block_reads + sum_by g.S.File.Reader.reads l.files.items ≤ (g.S.Store.loans l.fn.store).block_reads + sum_by g.S.File.Reader.reads l.fn.files.items;
  asked : (g.S.Store.loans l.store).block_asked + sum_by g.S.File.Reader.asked l.files.items ≤ (g.S.Store.loans l.fn.store).block_asked + sum_by g.S.File.Reader.asked l.fn.files.items;
  later : g.S.Store.faults l.fn.store ≤ g.S.Store.faults l.store;
  rose : 0 < sum_by g.S.File.Reader.faults l.fn.files.items → (Rose (g.S.Store.faults l.fn.store) (g.S.Store.faults l.store)) ⊎ (0 < sum_by g.S.File.Reader.faults l.files.items);
  same : IsSameStore (g.S.Store.becomes l.fn.store l.store) (g.S.Store.id l.fn.store) (g.S.Store.id l.store) (g.S.Store.holds l.fn.store) (g.S.Store.holds l.store) (g.S.Store.times_held l.fn.store) (g.S.Store.times_held l.store)
      (g.S.Store.size l.fn.store) (g.S.Store.size l.store) (g.S.Store.set l.fn.store) (g.S.Store.set l.store);
}

abbrev pub decreases-files : goal.decreases-files
decreases-files g l = length l.files.items
