-- What the calls of a run ensure.
use Rattle.std.specs.Prelude.{◌≡◌, ◌≤◌, ◌⊎◌, ℕ, List, Some, ⊤}
use Rattle.st_base.specs.Records.{Rec}
use Rattle.st_pcap.specs.Input.{Input, End, Whole, Refused}
use Rattle.st_plan.specs.Plans.{IsPlan}
use Rattle.st_plan.specs.declared.jobs.Plan.{Plan}
use Rattle.st_plan.specs.declared.jobs.Plan.TheVariants as plan
use Rattle.st_plan.specs.declared.limits.TheConstants.{MAX_PACKETS}
use Rattle.st_query.specs.declared.errors.QueryErr.{QueryErr}
use Rattle.st_query.specs.declared.nodes.Node.{Node}
use Rattle.st_query.specs.Spelling.{Spells, Refuses}
use Rattle.st_commands.specs.declared.outcomes.Report.TheVariants.{Summaries, Verdicts}
use Rattle.steno.specs.declared.status.Status.{Status}
use Rattle.steno.specs.declared.status.Status.TheVariants.{Done, Usage, BadInput, BadQuery, NoMemory}
use Rattle.steno.specs.Asking.{AnswersShelf, QueriesUnfailed}
use Rattle.steno.specs.Drilling.{DrillsShelf, DrillsUnfailed}
use Rattle.steno.specs.Loading.{LoadsPairs, LoadsUnfailed, IsSound}
use Rattle.steno.specs.Messages.{status_line}
use Rattle.steno.specs.Once.{AnswersInput}
use Rattle.steno.specs.Plans.{AskNothing, query_of}
use Rattle.steno.specs.Scenes.{Scene}
use Rattle.steno.specs.Spooling.{ReportsPairs, ListsUnfailed, ChecksUnfailed}
use Rattle.steno.specs.Statuses.{Ends}

-- the run did nothing, and ended with this status and its line
pub record DoesNothing (which : Status) (old new : Scene) (status : Status) (message : List ℕ)
    : Type 0 where
  pub ended : status ≡ which
  pub line : message ≡ status_line which
  pub same : new ≡ old

-- what a run of this plan does that ends with this status and this message
abbrev pub Does : Plan → Scene → Scene → Status → List ℕ → Type 0
Does (plan.Once job) old new status message = AnswersInput job old new status message
Does (plan.Load load) old new status message = LoadsPairs load old new status message
Does (plan.Query query) old new status message =
    AnswersShelf query.job old new status message
Does (plan.List spool) old new status message = ReportsPairs Summaries old new status message
Does (plan.Check spool) old new status message = ReportsPairs Verdicts old new status message
Does (plan.Drill drill) old new status message = DrillsShelf drill old new status message

-- the layout and the limit of a load's plan are ones that a load may have, and the packets of a
-- drill's as many as a drill makes
abbrev pub IsSoundPlan : Plan → Type 0
IsSoundPlan (plan.Load load) = IsSound load
IsSoundPlan (plan.Drill drill) = drill.packets ≤ MAX_PACKETS
IsSoundPlan p = ⊤

-- A run of these arguments does what their plan asks for. One without a plan does nothing, nor does
-- one that had no memory to read its arguments.
abbrev pub EndsRun : List (List ℕ) → Scene → Scene → Status → List ℕ → Type 0
EndsRun words old new status message =
    (((p : Plan) → IsPlan words p → ⊥) × DoesNothing Usage old new status message)
    ⊎ (DoesNothing NoMemory old new status message
    ⊎ ((p : Plan) × IsPlan words p × Does p old new status message))

-- A run of a plan doesn't end with `Usage`. It ends with `BadQuery` only if the plan asks a query
-- that is refused, and if it does, in no other way unless memory runs out.
pub record HasPlanCause (p : Plan) (status : Status) : Type 0 where
  pub usage : status ≡ Usage → ⊥
  pub refused : status ≡ BadQuery
      → (text : List ℕ) × (e : QueryErr) × (query_of p ≡ Some text) × Refuses text e
  pub exact : (text : List ℕ) (e : QueryErr) → query_of p ≡ Some text → Refuses text e
      → Ends BadQuery status

-- A run ends with `Usage` if and only if its arguments have no plan, unless memory runs out. It
-- ends with `BadQuery` only if they ask a query that is refused, and if they do, in no other way
-- unless memory runs out.
pub record HasArgumentsCause (words : List (List ℕ)) (status : Status) : Type 0 where
  pub usage : status ≡ Usage → AskNothing words
  pub unplanned : AskNothing words → Ends Usage status
  pub refused : status ≡ BadQuery
      → (p : Plan) × (text : List ℕ) × (e : QueryErr) × IsPlan words p
      × (query_of p ≡ Some text) × Refuses text e
  pub exact : (p : Plan) (text : List ℕ) (e : QueryErr) → IsPlan words p
      → query_of p ≡ Some text → Refuses text e → Ends BadQuery status

-- over an input with this end all is done, or the input is refused, unless memory runs out
abbrev pub EndsBy : End → Status → Type 0
EndsBy Whole status = Ends Done status
EndsBy (Refused cause) status = Ends BadInput status

-- how a run of this plan ends if no count of faults rises
abbrev pub EndsUnfailed : Plan → Scene → Status → Type 0
EndsUnfailed (plan.Once job) old status =
    (bytes : List ℕ) (q : Node) (rs : List Rec) (end : End) → old.input ≡ Some bytes
    → Spells job.query q → Input bytes rs end → EndsBy end status
EndsUnfailed (plan.Load load) old status = LoadsUnfailed load old status
EndsUnfailed (plan.Query query) old status = QueriesUnfailed query.job old status
EndsUnfailed (plan.List spool) old status = ListsUnfailed old status
EndsUnfailed (plan.Check spool) old status = ChecksUnfailed old status
EndsUnfailed (plan.Drill drill) old status = DrillsUnfailed old status
