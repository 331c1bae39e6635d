-- What a load of the shelf ensures.
use Rattle.std.specs.Prelude.{◌≡◌, ◌≤◌, ◌⊎◌, ℕ, List, [], Some, All}
use Rattle.st_base.specs.Records.{Rec}
use Rattle.st_block.specs.BlockText.{IsBlockSize, IsShort}
use Rattle.st_block.specs.declared.format.TheConstants.{MAX_BLOCKS}
use Rattle.st_disk.specs.Disks.{Log}
use Rattle.st_load.specs.Causes as causes
use Rattle.st_load.specs.Opening.{LoadsShelf}
use Rattle.st_load.specs.Stopping.{StopsInput}
use Rattle.st_load.specs.declared.ends.LoadEnd.{LoadEnd}
use Rattle.st_load.specs.declared.ends.LoadEnd.TheVariants as end
use Rattle.st_pcap.specs.Input.{End, Input, Whole}
use Rattle.st_plan.specs.Jobs.{LoadPlan}
use Rattle.steno.specs.declared.status.Status.{Status}
use Rattle.steno.specs.declared.status.Status.TheVariants.{Done, BadInput, ReadFault, WriteFault, DiskFault, NoMemory, StampsSpent}
use Rattle.steno.specs.Messages.{status_line, input_line, unfit_line, spent_line}
use Rattle.steno.specs.Scenes.{Scene}
use Rattle.steno.specs.Spooling.{Says}
use Rattle.steno.specs.Statuses.{Ends}

-- the layout and the limit of the plan are ones that a load may have
pub record IsSound (load : LoadPlan) : Type 0 where
  pub limit : 1 ≤ load.limit
  pub size : IsBlockSize load.plan.size
  pub some : 1 ≤ load.plan.blocks
  pub most : load.plan.blocks ≤ MAX_BLOCKS

-- the status and the message are these, unless there is no memory for the message
abbrev pub SaysOr : Status → List ℕ → Status → List ℕ → Type 0
SaysOr which line status message =
    Says which line status message ⊎ Says NoMemory (status_line NoMemory) status message

-- the status and the message of a load into blocks of this size that ended so
abbrev pub SaysLoad : ℕ → LoadEnd → Status → List ℕ → Type 0
SaysLoad size end.Done status message = Says Done [] status message
SaysLoad size (end.BadInput e) status message = SaysOr BadInput (input_line e) status message
SaysLoad size (end.TooLong number len) status message =
    SaysOr BadInput (unfit_line number len size) status message
SaysLoad size end.ReadFault status message =
    Says ReadFault (status_line ReadFault) status message
SaysLoad size end.WriteFault status message =
    Says WriteFault (status_line WriteFault) status message
SaysLoad size end.DiskFault status message =
    Says DiskFault (status_line DiskFault) status message
SaysLoad size (end.StampsSpent last) status message =
    SaysOr StampsSpent (spent_line last) status message
SaysLoad size end.NoMemory status message =
    Says NoMemory (status_line NoMemory) status message

-- Packets of the input were made pairs of the shelf: how that ended, with its status and message;
-- over an input whose bytes are known, how they ended it, if they did; and, over a shelf whose log
-- is known, what was published and removed, written, and what crashes leave.
pub record LoadsPairs (load : LoadPlan) (old new : Scene) (status : Status) (message : List ℕ)
    : Type 0 where
  pub ended : LoadEnd
  pub says : SaysLoad load.plan.size ended status message
  pub said : causes.Says load.plan.size ended
  pub stops : (bytes : List ℕ) → old.input ≡ Some bytes → StopsInput load.plan.size bytes ended
  pub job : (first : Log) → old.log ≡ Some first
      → LoadsShelf load.limit load.plan first new.log old.input old.clock new.clock
      old.output new.output ended
  pub loans : new.loans ≡ old.loans

-- a load takes all of these records of an input with this end: it is whole, and each of its packets
-- fits a block of this size
abbrev pub IsTaken : ℕ → List Rec → End → Type 0
IsTaken size rs end = (end ≡ Whole) × All (IsShort size) rs

-- How a load ends if no count of faults rises, unless memory runs out or no stamp is left: all is
-- done if the load takes the whole input, and else the input is refused.
pub record LoadsUnfailed (load : LoadPlan) (old : Scene) (status : Status) : Type 0 where
  pub done : (bytes : List ℕ) (rs : List Rec) (end : End) → old.input ≡ Some bytes
      → Input bytes rs end → IsTaken load.plan.size rs end
      → Ends Done status ⊎ (status ≡ StampsSpent)
  pub refused : (bytes : List ℕ) (rs : List Rec) (end : End) → old.input ≡ Some bytes
      → Input bytes rs end → (IsTaken load.plan.size rs end → ⊥)
      → Ends BadInput status ⊎ (status ≡ StampsSpent)
