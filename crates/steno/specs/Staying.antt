-- What a run does not touch.
use Rattle.std.specs.Prelude.{◌≡◌, ◌⊎◌, ℕ, List, ⊤}
use Rattle.st_plan.specs.Jobs.{SpoolPlan}
use Rattle.st_plan.specs.Plans.{IsPlan}
use Rattle.st_plan.specs.declared.jobs.Plan.{Plan}
use Rattle.st_plan.specs.declared.jobs.Plan.TheVariants as plan
use Rattle.steno.specs.declared.status.Status.{Status}
use Rattle.steno.specs.declared.status.Status.TheVariants.{Done, Usage, BadQuery, Damaged}
use Rattle.steno.specs.Once.{IsSilent, IsUnread}

-- a run of this plan that ends so does not touch the input
abbrev pub SparesInput : Plan → Status → Type 0
SparesInput (plan.Once job) status = IsUnread status
SparesInput (plan.Query query) status = ⊤
SparesInput (plan.List spool) status = ⊤
SparesInput (plan.Check spool) status = ⊤
SparesInput (plan.Drill drill) status = ⊤
SparesInput p status = ⊥

-- a run of this plan that ends so does not touch the output
abbrev pub SparesOutput : Plan → Status → Type 0
SparesOutput (plan.Once job) status = IsSilent status
SparesOutput (plan.Query query) status = status ≡ BadQuery
SparesOutput p status = ⊥

-- a run of this plan that ends so does not touch the clock
abbrev pub SparesClock : Plan → Status → Type 0
SparesClock (plan.List spool) status = ⊤
SparesClock (plan.Check spool) status = ⊤
SparesClock p status = ⊥

-- a run of this plan that ends so does not touch the shelf
abbrev pub SparesShelf : Plan → Status → Type 0
SparesShelf (plan.Once job) status = ⊤
SparesShelf (plan.Query query) status = status ≡ BadQuery
SparesShelf p status = ⊥

-- all stays as it was
pub record IsSame {I O C D : Type 0} (input input' : I) (out out' : O) (clock clock' : C)
    (shelf shelf' : D) : Type 0 where
  pub input_is : input' ≡ input
  pub output_is : out' ≡ out
  pub clock_is : clock' ≡ clock
  pub shelf_is : shelf' ≡ shelf

-- what a run of this plan that ends so does not touch stays as it was
pub record Spares {I O C D : Type 0} (p : Plan) (status : Status) (input input' : I) (out out' : O)
    (clock clock' : C) (shelf shelf' : D) : Type 0 where
  pub input_is : SparesInput p status → input' ≡ input
  pub output_is : SparesOutput p status → out' ≡ out
  pub clock_is : SparesClock p status → clock' ≡ clock
  pub shelf_is : SparesShelf p status → shelf' ≡ shelf

-- A run that ends with `Usage` leaves all as it was, and a run of a plan leaves what `Spares` says.
pub record LeavesAlone {I O C D : Type 0} (words : List (List ℕ)) (status : Status)
    (input input' : I) (out out' : O) (clock clock' : C) (shelf shelf' : D) : Type 0 where
  pub usage : status ≡ Usage → IsSame input input' out out' clock clock' shelf shelf'
  pub planned : (p : Plan) → IsPlan words p
      → Spares p status input input' out out' clock clock' shelf shelf'

-- a run of these arguments that ends so writes no message: all is done, or a check found damage,
-- which its lines name
abbrev pub IsUnsaid : List (List ℕ) → Status → Type 0
IsUnsaid words status =
    (status ≡ Done)
    ⊎ ((spool : SpoolPlan) × IsPlan words (plan.Check spool) × (status ≡ Damaged))
