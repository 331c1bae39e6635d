-- What a drill of the shelf ensures.
use Rattle.std.specs.Prelude.{◌≡◌, ◌≤◌, ◌⊎◌, ℕ, List, [], Some}
use Rattle.st_disk.specs.Disks.{Log, reads}
use Rattle.st_disk.specs.Pairs.{Entry, PairsIn}
use Rattle.st_drill.specs.Drilling as drills
use Rattle.st_drill.specs.declared.ends.DrillEnd.{DrillEnd}
use Rattle.st_drill.specs.declared.ends.DrillEnd.TheVariants as end
use Rattle.st_plan.specs.Jobs.{DrillPlan}
use Rattle.steno.specs.declared.status.Status.{Status}
use Rattle.steno.specs.declared.status.Status.TheVariants.{Done, WriteFault, DiskFault, NoMemory, StampsSpent}
use Rattle.steno.specs.Loading.{SaysOr}
use Rattle.steno.specs.Messages.{status_line, spent_line}
use Rattle.steno.specs.Scenes.{Scene}
use Rattle.steno.specs.Spooling.{AreWhole, NamesDamage, Says}
use Rattle.steno.specs.Statuses.{Ends}

-- the status and the message of a drill that ended so
abbrev pub SaysDrill : DrillEnd → Status → List ℕ → Type 0
SaysDrill end.Done status message = Says Done [] status message
SaysDrill end.WriteFault status message =
    Says WriteFault (status_line WriteFault) status message
SaysDrill end.DiskFault status message = Says DiskFault (status_line DiskFault) status message
SaysDrill (end.Damaged stamp d) status message = NamesDamage stamp d status message
SaysDrill (end.StampsSpent last) status message =
    SaysOr StampsSpent (spent_line last) status message
SaysDrill end.NoMemory status message = Says NoMemory (status_line NoMemory) status message

-- Packets that are made up were loaded into the shelf's spool, and queried: how that ended, with
-- its status and message, and, over a shelf whose log is known, what was published, what crashes
-- leave and what was written. The input is not read.
pub record DrillsShelf (drill : DrillPlan) (old new : Scene) (status : Status) (message : List ℕ)
    : Type 0 where
  pub ended : DrillEnd
  pub says : SaysDrill ended status message
  pub said : drills.SaysDrill ended
  pub job : (first : Log) → old.log ≡ Some first
      → drills.Drills drill.packets first new.log old.clock new.clock old.output new.output ended
  pub lent : new.loans.lent ≤ old.loans.lent
  pub input : new.input ≡ old.input

-- how a drill ends if no count of faults rises: if all pairs that it finds are whole, all is done,
-- unless memory runs out or no stamp is left
abbrev pub DrillsUnfailed : Scene → Status → Type 0
DrillsUnfailed old status =
    (first : Log) (pairs : List Entry) → old.log ≡ Some first → PairsIn (reads first) pairs
    → AreWhole pairs → Ends Done status ⊎ (status ≡ StampsSpent)
