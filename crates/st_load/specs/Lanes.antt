-- A lane over the drafts of a spool's shelf, and calls that change no pair.
use Rattle.std.specs.Prelude.{◌≡◌, ℕ, List, Option, false}
use Rattle.st_disk.specs.Disks.{Log}
use Rattle.st_disk.specs.Events.{Event}
use Rattle.st_disk.specs.Pairs.{Files}
use Rattle.st_lane.specs.Lane.{LaneView}
use Rattle.st_pairs.specs.Pairs.{IsWholePair}
use Rattle.st_plan.specs.declared.jobs.LanePlan.{LanePlan}
use Rattle.st_shelf.specs.Origins.{DraftOrigin}
use Rattle.st_spool.specs.Publishing.{Keeps}
use Rattle.st_spool.specs.Standing.{StandsFor}
use Rattle.st_spool.specs.States.{SpoolView}

-- both drafts of the lane are of the shelf with this number
abbrev pub IsLaneOf : {T : Type 0} → (T → DraftOrigin) → ℕ → LaneView T → Type 0
IsLaneOf origin home l = ((origin l.block).home ≡ home) × ((origin l.index).home ≡ home)

-- a lane of this layout and shelf without records, of drafts that haven't failed
pub record IsNewLane {T : Type 0} (origin : T → DraftOrigin) (faults : T → ℕ) (home : ℕ)
    (layout : LanePlan) (l : LaneView T) : Type 0 where
  pub of_shelf : IsLaneOf origin home l
  pub size : l.filling.size ≡ layout.size
  pub most : l.filling.most ≡ layout.blocks
  pub none : l.filling.records ≡ 0
  pub whole : l.broken ≡ false
  pub block : faults l.block ≡ 0
  pub index : faults l.index ≡ 0

-- calls on a spool changed no pair, and nothing of the spool but its shelf
pub record KeepsSpool {D : Type 0} (log : D → Option Log) (old new : SpoolView D) : Type 0 where
  pub keeps : (earlier h : List Event) (f : Files)
      → StandsFor IsWholePair (log old.shelf) old.state earlier h f
      → Keeps IsWholePair (log old.shelf) (log new.shelf) new.state earlier h f
  pub state : new ≡ record old { shelf = new.shelf }
