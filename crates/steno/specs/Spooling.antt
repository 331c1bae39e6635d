-- What the commands over a shelf ensure, from how they end to the status and the message.
use Rattle.std.specs.Prelude.{◌≡◌, ◌⊎◌, ℕ, List, [], Some, All}
use Rattle.st_base.specs.declared.damages.Damage.{Damage}
use Rattle.st_commands.specs.declared.outcomes.Outcome.{Outcome}
use Rattle.st_commands.specs.declared.outcomes.Outcome.TheVariants as outcome
use Rattle.st_commands.specs.declared.outcomes.Report.{Report}
use Rattle.st_commands.specs.declared.outcomes.Report.TheVariants.{Summaries, Verdicts}
use Rattle.st_commands.specs.Commands.{GivesAllBack, KeepsPairs}
use Rattle.st_commands.specs.Reports.{Reports}
use Rattle.st_disk.specs.Disks.{Log, reads}
use Rattle.st_disk.specs.Pairs.{Entry, PairsIn}
use Rattle.st_pairs.specs.Pairs.{IsWholePair}
use Rattle.steno.specs.declared.status.Status.{Status}
use Rattle.steno.specs.declared.status.Status.TheVariants.{Done, WriteFault, DiskFault, Damaged, NoMemory}
use Rattle.steno.specs.Messages.{status_line, damaged_line}
use Rattle.steno.specs.Scenes.{Scene}
use Rattle.steno.specs.Statuses.{Ends}

-- the status and the message are these
abbrev pub Says : Status → List ℕ → Status → List ℕ → Type 0
Says which line status message = (status ≡ which) × (message ≡ line)

-- the message names the damage of this pair, unless there is no memory for it
abbrev pub NamesDamage : ℕ → Damage → Status → List ℕ → Type 0
NamesDamage stamp d status message =
    Says Damaged (damaged_line stamp d) status message
    ⊎ Says NoMemory (status_line NoMemory) status message

-- there is no message of damage, since the output has said all
abbrev pub SaidDamage : ℕ → Damage → Status → List ℕ → Type 0
SaidDamage stamp d status message = Says Damaged [] status message

-- the status and the message of a command over a shelf that ended so; `Tells` is how it tells
-- damage
abbrev pub SaysOutcome :
    (ℕ → Damage → Status → List ℕ → Type 0) → Outcome → Status → List ℕ → Type 0
SaysOutcome Tells outcome.Done status message = Says Done [] status message
SaysOutcome Tells outcome.WriteFault status message =
    Says WriteFault (status_line WriteFault) status message
SaysOutcome Tells outcome.DiskFault status message =
    Says DiskFault (status_line DiskFault) status message
SaysOutcome Tells (outcome.Damaged stamp d) status message = Tells stamp d status message
SaysOutcome Tells outcome.NoMemory status message =
    Says NoMemory (status_line NoMemory) status message

-- how each report tells damage: by its lines, or by the message
abbrev pub TellsDamage : Report → ℕ → Damage → Status → List ℕ → Type 0
TellsDamage Verdicts stamp d status message = SaidDamage stamp d status message
TellsDamage Summaries stamp d status message = NamesDamage stamp d status message

-- A line for each pair of the shelf was written, or the run ended in another way: the outcome, with
-- its status and message, and, over a shelf whose log is known, what is written and what crashes
-- leave.
pub record ReportsPairs (report : Report) (old new : Scene) (status : Status) (message : List ℕ)
    : Type 0 where
  pub outcome : Outcome
  pub says : SaysOutcome (TellsDamage report) outcome status message
  pub lines : (first : Log) (pairs : List Entry) → old.log ≡ Some first
      → PairsIn (reads first) pairs → Reports report pairs old.output new.output outcome
  pub images : (first : Log) → old.log ≡ Some first → KeepsPairs first new.log outcome
  pub back : GivesAllBack old.loans new.loans
  pub input : new.input ≡ old.input
  pub clock : new.clock ≡ old.clock

-- all these pairs are whole
abbrev pub AreWhole : List Entry → Type 0
AreWhole pairs = All (λ e. IsWholePair e.block e.index) pairs

-- how a list ends if no count of faults rises: if all pairs are whole, all is done, unless memory
-- runs out
abbrev pub ListsUnfailed : Scene → Status → Type 0
ListsUnfailed old status =
    (first : Log) (pairs : List Entry) → old.log ≡ Some first → PairsIn (reads first) pairs
    → AreWhole pairs → Ends Done status

-- how a check ends if no count of faults rises: if all pairs are whole, all is done, and else it
-- ends with `Damaged`; unless memory runs out
abbrev pub ChecksUnfailed : Scene → Status → Type 0
ChecksUnfailed old status =
    (first : Log) (pairs : List Entry) → old.log ≡ Some first → PairsIn (reads first) pairs
    → (AreWhole pairs → Ends Done status) × ((AreWhole pairs → ⊥) → Ends Damaged status)
