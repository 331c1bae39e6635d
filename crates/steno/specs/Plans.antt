-- What the arguments after the program's name ask for.
use Rattle.std.specs.Prelude.{ℕ, List, Option, Some, None}
use Rattle.st_plan.specs.Plans.{IsPlan}
use Rattle.st_plan.specs.declared.jobs.Plan.{Plan}
use Rattle.st_plan.specs.declared.jobs.Plan.TheVariants as plan

-- the arguments have no plan
abbrev pub AskNothing : List (List ℕ) → Type 0
AskNothing words = (p : Plan) → IsPlan words p → ⊥

-- the text of the query that a plan asks
abbrev pub query_of : Plan → Option (List ℕ)
query_of (plan.Once job) = Some job.query
query_of (plan.Load load) = None
query_of (plan.Query query) = Some query.job.query
query_of (plan.List spool) = None
query_of (plan.Check spool) = None
query_of (plan.Drill drill) = None
