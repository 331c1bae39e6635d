-- What a query over the pairs of a shelf ensures.
use Rattle.std.specs.Prelude.{◌≡◌, ◌⊎◌, ℕ, List, Some}
use Rattle.st_answer.specs.Bounds.{ReadsForAnswer}
use Rattle.st_answer.specs.Lending.{LendsNone}
use Rattle.st_answer.specs.Replies.{Question}
use Rattle.st_base.specs.Ticks.{Ticks}
use Rattle.st_commands.specs.Commands.{KeepsPairs}
use Rattle.st_commands.specs.Queries.{Answers}
use Rattle.st_commands.specs.declared.outcomes.Outcome.{Outcome}
use Rattle.st_disk.specs.Disks.{Log, reads}
use Rattle.st_disk.specs.Pairs.{Entry, PairsIn}
use Rattle.st_plan.specs.Jobs.{Job}
use Rattle.st_query.specs.declared.errors.QueryErr.{QueryErr}
use Rattle.st_query.specs.declared.nodes.Node.{Node}
use Rattle.st_query.specs.Spelling.{Spells, Refuses}
use Rattle.steno.specs.declared.status.Status.{Status}
use Rattle.steno.specs.declared.status.Status.TheVariants.{Done, BadQuery, NoMemory}
use Rattle.steno.specs.Messages.{status_line, query_line}
use Rattle.steno.specs.Scenes.{Scene}
use Rattle.steno.specs.Spooling.{AreWhole, NamesDamage, Says, SaysOutcome}
use Rattle.steno.specs.Statuses.{Ends}

-- what a job asks with this query, at this time of the clock, in microseconds since 1970
abbrev pub question : Job → Node → ℕ → Question
question job q now = record { node = q; now = now; limits = job.limits; unit = job.unit }

-- the query is refused, or there was no memory for it; nothing was written, and nothing done to the
-- shelf
pub record RefusesQuery (job : Job) (old new : Scene) (status : Status) (message : List ℕ)
    : Type 0 where
  pub says : ((e : QueryErr) × Refuses job.query e × Says BadQuery (query_line e) status message)
      ⊎ Says NoMemory (status_line NoMemory) status message
  pub output : new.output ≡ old.output
  pub log : new.log ≡ old.log
  pub loans : new.loans ≡ old.loans

-- The query was asked of the shelf: the outcome, with its status and message, and, over a shelf
-- whose log is known, what is written, what crashes leave, and how much of the block files was
-- read.
pub record RepliesTo (job : Job) (now : ℕ) (old new : Scene) (status : Status) (message : List ℕ)
    : Type 0 where
  pub q : Node
  pub spelled : Spells job.query q
  pub outcome : Outcome
  pub says : SaysOutcome NamesDamage outcome status message
  pub answers : (first : Log) (pairs : List Entry) → old.log ≡ Some first
      → PairsIn (reads first) pairs
      → Answers (question job q now) pairs old.output new.output outcome
  pub images : (first : Log) → old.log ≡ Some first → KeepsPairs first new.log outcome
  pub reads_most : (first : Log) (pairs : List Entry) → old.log ≡ Some first
      → PairsIn (reads first) pairs → ReadsForAnswer q now (Some pairs) old.loans new.loans
  pub back : LendsNone old.loans new.loans

-- A query over the pairs of the shelf was answered, or ended in another way. The clock is read
-- once, and the input is not read.
pub record AnswersShelf (job : Job) (old new : Scene) (status : Status) (message : List ℕ)
    : Type 0 where
  pub now : ℕ
  pub asks : Ticks old.clock new.clock now
  pub input : new.input ≡ old.input
  pub ends : RefusesQuery job old new status message ⊎ RepliesTo job now old new status message

-- how a query ends if no count of faults rises: if its text spells one and all pairs are whole, all
-- is done, unless memory runs out
abbrev pub QueriesUnfailed : Job → Scene → Status → Type 0
QueriesUnfailed job old status =
    (first : Log) (pairs : List Entry) (q : Node) → old.log ≡ Some first
    → PairsIn (reads first) pairs → AreWhole pairs → Spells job.query q → Ends Done status
