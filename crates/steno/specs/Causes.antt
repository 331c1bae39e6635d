-- When a run ends in a fault of the input, the output or the shelf, by their counts of faults.
use Rattle.std.specs.Prelude.{◌≡◌, ◌≢◌, ◌≤◌, ℕ, List}
use Rattle.st_base.specs.Faults.{Rose}
use Rattle.st_plan.specs.Plans.{IsPlan}
use Rattle.st_plan.specs.declared.jobs.Plan.{Plan}
use Rattle.st_plan.specs.declared.jobs.Plan.TheVariants as plan
use Rattle.steno.specs.declared.status.Status.{Status}
use Rattle.steno.specs.declared.status.Status.TheVariants.{Usage, ReadFault, WriteFault, DiskFault}

-- the counts of faults of the input, the output and the shelf
pub record FaultCounts : Type 0 where
  pub input : ℕ
  pub output : ℕ
  pub shelf : ℕ

-- these counts, as a record
abbrev pub counts : ℕ → ℕ → ℕ → FaultCounts
counts input output shelf = record { input = input; output = output; shelf = shelf }

-- a run ends in a fault only if the count of what failed rose, and no count falls
pub record HasCauses (old new : FaultCounts) (status : Status) : Type 0 where
  pub read : status ≡ ReadFault → Rose old.input new.input
  pub write : status ≡ WriteFault → Rose old.output new.output
  pub disk : status ≡ DiskFault → Rose old.shelf new.shelf
  pub reads : old.input ≤ new.input
  pub writes : old.output ≤ new.output
  pub disks : old.shelf ≤ new.shelf

-- no count rose
pub record NoneRose (old new : FaultCounts) : Type 0 where
  pub input : Rose old.input new.input → ⊥
  pub output : Rose old.output new.output → ⊥
  pub shelf : Rose old.shelf new.shelf → ⊥

-- the streams failed in no other way than the status says
pub record FailsSo (old new : FaultCounts) (status : Status) : Type 0 where
  pub input : status ≢ ReadFault → new.input ≡ old.input
  pub output : status ≢ WriteFault → new.output ≡ old.output

-- the counts that stay as they were if a run of this plan ends so
abbrev pub KeepsCounts : Plan → FaultCounts → FaultCounts → Status → Type 0
KeepsCounts (plan.Once job) old new status = FailsSo old new status × (new.shelf ≡ old.shelf)
KeepsCounts (plan.Load load) old new status = FailsSo old new status
KeepsCounts (plan.Query query) old new status =
    FailsSo old new status × (new.input ≡ old.input)
KeepsCounts (plan.List spool) old new status = FailsSo old new status
KeepsCounts (plan.Check spool) old new status = FailsSo old new status
KeepsCounts (plan.Drill drill) old new status =
    FailsSo old new status × (new.input ≡ old.input)

-- a run of this plan ends in a fault only with its cause
pub record HasPlanFaults (p : Plan) (old new : FaultCounts) (status : Status) : Type 0 where
  pub causes : HasCauses old new status
  pub keeps : KeepsCounts p old new status

-- a run of these arguments ends in a fault only with its cause; no count changes if it ends with
-- `Usage`, and otherwise those stay that a run of their plan keeps
pub record HasFaultCause (words : List (List ℕ)) (old new : FaultCounts) (status : Status)
    : Type 0 where
  pub causes : HasCauses old new status
  pub usage : status ≡ Usage → new ≡ old
  pub planned : (p : Plan) → IsPlan words p → KeepsCounts p old new status
