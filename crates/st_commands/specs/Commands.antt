-- What a command leaves of a shelf and of a spool over it.
use Rattle.std.specs.Prelude.{◌≡◌, ◌≢◌, ◌≤◌, ◌<◌, ◌+◌, ◌^◌, ℕ, List, Option, max}
use Rattle.st_base.specs.Faults.{Rose}
use Rattle.st_disk.specs.Disks.{Log, reads}
use Rattle.st_disk.specs.Events.{Event}
use Rattle.st_disk.specs.Pairs.{Files}
use Rattle.st_shelf.specs.Loans.{LoansView}
use Rattle.st_spool.specs.Entering.{Clears, SamePairs, FailsToEnter}
use Rattle.st_spool.specs.Publishing.{Keeps}
use Rattle.st_spool.specs.Standing.{StandsFor}
use Rattle.st_spool.specs.States.{SpoolView}
use Rattle.st_spool.specs.declared.opening.EnterErr.{EnterErr}
use Rattle.st_spool.specs.declared.opening.EnterErr.TheVariants as enter
use Rattle.st_pairs.specs.Pairs.{IsWholePair}
use Rattle.st_commands.specs.declared.outcomes.Outcome.{Outcome}
use Rattle.st_commands.specs.declared.outcomes.Outcome.TheVariants.{Done, WriteFault, DiskFault, Damaged, NoMemory}

-- as many files are lent as before, unless that number and two more pass the greatest u64; and in
-- between no more than two more were
pub record GivesAllBack (before now : LoansView) : Type 0 where
  pub most : now.lent ≤ before.lent
  pub exact : before.lent + 2 < 2 ^ 64 → now.lent ≡ before.lent
  pub peak : now.peak ≤ max before.peak (before.lent + 2)

-- calls on a spool changed no pair, and left its state and its shelf's number
pub record KeepsSpool {D : Type 0} (log : D → Option Log) (id faults : D → ℕ)
    (old new : SpoolView D) : Type 0 where
  pub keeps : (earlier h : List Event) (f : Files)
      → StandsFor IsWholePair (log old.shelf) old.state earlier h f
      → Keeps IsWholePair (log old.shelf) (log new.shelf) new.state earlier h f
  pub state : new ≡ record old { shelf = new.shelf }
  pub id_is : id new.shelf ≡ id old.shelf
  pub later : faults old.shelf ≤ faults new.shelf

-- calls on a spool changed no pair, left its state and its shelf's number, and gave back all files
-- that they were lent
pub record Stays {D : Type 0} (log : D → Option Log) (id faults : D → ℕ) (loans : D → LoansView)
    (old new : SpoolView D) : Type 0 where
  pub kept : KeepsSpool log id faults old new
  pub back : GivesAllBack (loans old.shelf) (loans new.shelf)

-- An output's count of faults never falls. It rose if writing failed, and stayed if the command
-- ended in another way.
pub record HasWriteFault (before now : ℕ) (outcome : Outcome) : Type 0 where
  pub later : before ≤ now
  pub rose : outcome ≡ WriteFault → Rose before now
  pub still : outcome ≢ WriteFault → now ≡ before

-- a shelf's count of faults never falls, and it rose if the shelf failed
pub record HasDiskFault (before now : ℕ) (outcome : Outcome) : Type 0 where
  pub later : before ≤ now
  pub rose : outcome ≡ DiskFault → Rose before now

-- how a command ends if its spool can't be opened, for this cause
abbrev pub EndsUnentered : EnterErr → Outcome → Type 0
EndsUnentered enter.DiskFault outcome = outcome ≡ DiskFault
EndsUnentered enter.NoMemory outcome = outcome ≡ NoMemory

-- What a command leaves of a shelf with this first log. Each crash after it leaves the pairs that
-- were read at first; a crash during it left these too, or what one might have left before. If
-- memory ran out or the shelf failed, the spool may not have been opened.
abbrev pub KeepsPairs : Log → Option Log → Outcome → Type 0
KeepsPairs first known DiskFault = FailsToEnter first known
KeepsPairs first known NoMemory = FailsToEnter first known
KeepsPairs first known outcome = Clears first known (SamePairs (reads first))

-- the ways in which a command ends if its spool can't be opened
abbrev pub IsUnentered : Outcome → Type 0
IsUnentered Done = ⊥
IsUnentered WriteFault = ⊥
IsUnentered DiskFault = Unit {0}
IsUnentered (Damaged stamp d) = ⊥
IsUnentered NoMemory = Unit {0}
