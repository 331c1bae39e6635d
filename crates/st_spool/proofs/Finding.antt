-- What an opening finds.
use Rattle.std.proofs.Common.{◌≡◌, ◌<◌, ◌≤◌, ℕ, List, [], Option, Some, IsSome, Result, Contains, sym, ◌∙◌, ap, subst, inl, inr, ⊎_elim}
use Rattle.std.specs.List.{AllPairs}
use Rattle.st_disk.specs.declared.naming.Name.{Name}
use Rattle.st_disk.specs.declared.naming.Name.TheVariants.{Block, Index}
use Rattle.st_disk.specs.declared.changes.Call.TheVariants.{Other}
use Rattle.st_disk.specs.Folders.{Folder}
use Rattle.st_disk.specs.Disks.{Log, reads}
use Rattle.st_disk.specs.LoggedCalls.{Does}
use Rattle.st_disk.specs.Listing.{AreAll}
use Rattle.st_disk.specs.Runs.{Ran}
use Rattle.st_disk.specs.Pairs.{both}
use Rattle.st_disk.proofs.Runs.{ran_widen, ran_then, ran_other, weaken}
use Rattle.st_spool.specs.Entering.{Is, SamePairs, AreThere, ArePaired, IsLastStamp, pairs_alone, flushed_log, Clears, FailsToEnter, Opens}
use Rattle.st_spool.proofs.Entering.{both_flushed, flushed_reads}
use Rattle.st_spool.proofs.Clearing.{listed}

same_pairs : (f c : Folder) → Is f c → SamePairs f c
same_pairs f c is s = ap (λ (o : Option (List ℕ)). both o (c (Index s))) (is (Block s)) ∙ ap (both (f (Block s))) (is (Index s))

module _ (first : Log) (mid now : Option Log) (is : mid ≡ Some (flushed_log first)) where
  -- the listing after the flushes
  pub list_run : {T E : Type 0} (r : Result T E) → Does mid now r (λ _. Other) → Ran (flushed_log first) now [] (Is (reads first)) (Is (reads first))
  list_run {T = T} {E = E} r does = ran_other (flushed_log first) mid now [] (Is (reads first)) (Is (reads first)) (λ c h. h) r (listed first mid (both_flushed first) is) does

  pub list_failed : {T E : Type 0} (r : Result T E) → Does mid now r (λ _. Other) → FailsToEnter first now
  list_failed {T = T} {E = E} r does = inr (record {
    flushed = both_flushed first;
    cleared = ran_widen (flushed_log first) now [] (Is (reads first)) (Is (reads first)) (SamePairs (reads first)) (SamePairs (reads first)) (same_pairs (reads first)) (same_pairs (reads first)) (list_run r does);
  })

  module _ (names : List Name) (all : AreAll mid names) where
    pub there : AreThere names (reads first)
    there n =
        let here = all (flushed_log first) is n in
        (λ h. subst IsSome (flushed_reads first n) (here.0 h), λ h. here.1 (subst IsSome (sym (flushed_reads first n)) h))

    pub are_paired : (stamps : List ℕ) → ArePaired (Contains names) stamps → ArePaired (λ n. IsSome (reads first n)) stamps
    are_paired stamps paired = record {
      rises = paired.rises;
      each = λ s has. let r = paired.each s has in ((there (Block s)).0 r.0, (there (Index s)).0 r.1);
      all = λ s block index. paired.all s ((there (Block s)).1 block) ((there (Index s)).1 index);
    }

    pub is_last : (last : ℕ) → IsLastStamp (Contains names) last → IsLastStamp (λ n. IsSome (reads first n)) last
    is_last last top = record {
      above = λ n stamped some. top.above n stamped ((there n).1 some);
      some = ⊎_elim (λ z. inl z) (λ s. inr (s.0, s.1, (there s.0).0 s.2, s.3)) top.some;
    }

    module _ (new : Option Log) (run : Ran (flushed_log first) now [] (Is (reads first)) (Is (reads first))) where
      tidied : (Q : Folder → Type 0) → Ran run.log new [] (SamePairs (reads first)) Q → Clears first new Q
      tidied Q more = record {
        flushed = both_flushed first;
        cleared = go;
      }
        where
          wide : Ran (flushed_log first) now [] (SamePairs (reads first)) (Is (reads first))
          wide = record { log = run.log; is = run.is; only = weaken (flushed_log first) run.log (Is (reads first)) (SamePairs (reads first)) (same_pairs (reads first)) run.only; each = run.each; past = run.past }

          go : Ran (flushed_log first) new [] (SamePairs (reads first)) Q
          go = ran_then (flushed_log first) now new [] [] (SamePairs (reads first)) (Is (reads first)) Q wide more

      pub tidy_failed : Ran run.log new [] (SamePairs (reads first)) (SamePairs (reads first)) → FailsToEnter first new
      tidy_failed more = inr (tidied (SamePairs (reads first)) more)

      pub opens : (stamps : List ℕ) (last : ℕ) → ArePaired (Contains names) stamps → IsLastStamp (Contains names) last → Ran run.log new [] (SamePairs (reads first)) (Is (pairs_alone (reads first))) → Opens first new stamps last
      opens stamps last paired top more = record { paired = are_paired stamps paired; greatest = is_last last top; images = tidied (Is (pairs_alone (reads first))) more }

-- no pair has a stamp above the greatest
pub paired_up_to : (names : List Name) (stamps : List ℕ) (last : ℕ) → ArePaired (Contains names) stamps → IsLastStamp (Contains names) last → AllPairs (λ s t. s < t) stamps × ((s : ℕ) → Contains stamps s → s ≤ last)
paired_up_to names stamps last paired top = (paired.rises, λ s has. top.above (Block s) tt (paired.each s has).0)
