-- What a load made of a shelf.
use Rattle.std.specs.Prelude.{◌≡◌, ◌⊎◌, ◌≤◌, [], ◌∷◌, ◌++◌, ℕ, List, length, Option, Some, IsSome}
use Rattle.st_disk.specs.Disks.{Log, Leaves, reads}
use Rattle.st_disk.specs.Events.{Event, Found, events}
use Rattle.st_disk.specs.Pairs.{Entry, PairsIn}
use Rattle.st_plan.specs.declared.jobs.LanePlan.{LanePlan}
use Rattle.st_disk.specs.Runs.{Ran}
use Rattle.st_spool.specs.Covers.{CoversInDoubt}
use Rattle.st_spool.specs.Entering.{Is, IsLastStamp, FailsToEnter, flushed_log}
use Rattle.st_spool.specs.History.{Legal, set_of}
use Rattle.st_load.specs.Acts.{Act, events_of}
use Rattle.st_load.specs.Causes.{IsFailure}
use Rattle.st_load.specs.Job.{IsJob}
use Rattle.st_load.specs.Loading.{AreCutFrom, Did}
use Rattle.st_load.specs.declared.ends.LoadEnd.{LoadEnd}
use Rattle.st_load.specs.declared.ends.LoadEnd.TheVariants as end
use Rattle.st_base.specs.Records.{Rec}

-- A load opened a spool over a shelf with this first log, and did the first acts of the job that
-- goes on from the pairs that were read. The shelf's events since are those of the acts.
pub record LoadsOpened (limit : ℕ) (layout : LanePlan) (first : Log) (known : Option Log)
    (left : Option (List ℕ)) (times times_now : Option (List ℕ)) (old new : Option (List ℕ))
    (ended : LoadEnd) : Type 0 where
  pub found : List Entry
  pub are_found : PairsIn (reads first) found
  pub last : ℕ
  pub greatest : IsLastStamp (λ n. IsSome (reads first n)) last
  pub pairs : List (List Rec)
  pub are : (bytes : List ℕ) → left ≡ Some bytes → AreCutFrom layout bytes ended pairs
  pub acts : List Act
  pub to_come : List Act
  pub did : Did (IsJob limit layout.size (record { set = found; last = last; times = times }))
      ended pairs acts to_come times_now old new
  pub log : Log
  pub is : known ≡ Some log
  pub past : events log ≡ events first ++ events_of acts
  pub legal : Legal limit (Found found ∷ events_of acts)
  -- the pairs that are read now are those of this history, also if its last event is in doubt
  pub set : PairsIn (reads log) (set_of (Found found ∷ events_of acts))
  -- until both folders were flushed each crash leaves an image that the shelf had at first
  pub flushed : Ran first (Some (flushed_log first)) [] (Leaves first) (Is (reads first))
  -- the events came one after the other, but the last one may be in doubt if the shelf failed
  pub sure : List Event
  pub doubt : List Event
  pub events_are : events_of acts ≡ sure ++ doubt
  pub at_most_one : length doubt ≤ 1
  pub no_doubt : (ended ≡ end.DiskFault → ⊥) → doubt ≡ []
  pub images : CoversInDoubt (Found found ∷ []) sure doubt (flushed_log first) log

-- What a load made of a shelf: it opened a spool over it and went on, or the shelf failed or memory
-- ran out as it opened one, and nothing else was touched.
abbrev pub LoadsShelf :
    ℕ → LanePlan → Log → Option Log → Option (List ℕ) → Option (List ℕ) → Option (List ℕ)
    → Option (List ℕ) → Option (List ℕ) → LoadEnd → Type 0
LoadsShelf limit layout first known left times times_now old new ended =
    LoadsOpened limit layout first known left times times_now old new ended
    ⊎ (FailsToEnter first known × IsFailure ended × (times_now ≡ times) × (new ≡ old))
