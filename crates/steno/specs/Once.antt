-- What a query over one input ensures.
use Rattle.std.specs.Prelude.{◌≡◌, ◌≢◌, ◌≤◌, ℕ, List, [], Option, Some}
use Rattle.st_base.specs.Faults.{Rose}
use Rattle.st_base.specs.Ticks.{Ticks}
use Rattle.st_pcap.specs.declared.errors.PcapErr.{PcapErr}
use Rattle.st_pcap.specs.Reading.{IsOutside}
use Rattle.st_plan.specs.Jobs.{Job}
use Rattle.st_query.specs.declared.errors.QueryErr.{QueryErr}
use Rattle.st_query.specs.Spelling.{Refuses}
use Rattle.steno.specs.declared.status.Status.{Status}
use Rattle.steno.specs.declared.status.Status.TheVariants.{Done, Usage, BadInput, BadQuery, ReadFault, WriteFault, NoMemory}
use Rattle.steno.specs.Gathering.{StopsAt}
use Rattle.steno.specs.Jobs.{IsAsked, Leaves}
use Rattle.steno.specs.Messages.{status_line, query_line, input_line}
use Rattle.steno.specs.Scenes.{Scene}
use Rattle.steno.specs.Statuses.{Ends}

-- a job over an input of these bytes ended so, with this message: it read the clock once, and left
-- this output
abbrev pub EndsJob :
    Job → Option (List ℕ) → Option (List ℕ) → List ℕ → Option (List ℕ) → Option (List ℕ) → Status
    → List ℕ → Type 0
EndsJob job clock ticked bytes old new status message =
    (now : ℕ) × Ticks clock ticked now × Leaves (IsAsked job now bytes) status message old new

-- the message of an answer that ended so, over any input
abbrev pub IsAnswerMessage : Status → List ℕ → Type 0
IsAnswerMessage Done message = message ≡ []
IsAnswerMessage BadInput message =
    (cause : PcapErr) × (IsOutside cause → ⊥) × (message ≡ input_line cause)
IsAnswerMessage ReadFault message = message ≡ status_line ReadFault
IsAnswerMessage WriteFault message = message ≡ status_line WriteFault
IsAnswerMessage NoMemory message = message ≡ status_line NoMemory
IsAnswerMessage status message = ⊥

-- the message of a job that ended so, over any input; it ends in no other way
abbrev pub IsJobMessage : Job → Status → List ℕ → Type 0
IsJobMessage job BadQuery message = (e : QueryErr) × Refuses job.query e × (message ≡ query_line e)
IsJobMessage job status message = IsAnswerMessage status message

-- a job ends with `BadQuery` only if its query is one that is refused, and then always, unless
-- memory runs out; it never ends with `Usage`
pub record HasQueryCause (job : Job) (status : Status) : Type 0 where
  pub planned : status ≢ Usage
  pub refused : status ≡ BadQuery → (e : QueryErr) × Refuses job.query e
  pub exact : (e : QueryErr) → Refuses job.query e → Ends BadQuery status

-- A fault of the input or of the output comes only if its count rose. No count falls, and each
-- stays as it was unless the run ends with that fault.
pub record HasStreamCause (before after old new : ℕ) (status : Status) : Type 0 where
  pub read : status ≡ ReadFault → Rose before after
  pub write : status ≡ WriteFault → Rose old new
  pub reads : before ≤ after
  pub writes : old ≤ new
  pub unread : status ≢ ReadFault → after ≡ before
  pub unwritten : status ≢ WriteFault → new ≡ old

-- how far a job that ended so read its input: to its end if all is done, and if the input is
-- refused as far as that takes
abbrev pub EndsInput : List ℕ → Status → Option (List ℕ) → Type 0
EndsInput bytes Done left = left ≡ Some []
EndsInput bytes BadInput left = (cause : PcapErr) × StopsAt bytes cause left
EndsInput bytes status left = Unit {0}

-- ways to end in which nothing is written
abbrev pub IsSilent : Status → Type 0
IsSilent Done = ⊥
IsSilent BadInput = ⊥
IsSilent WriteFault = ⊥
IsSilent status = Unit {0}

-- ways to end in which the input is not touched
abbrev pub IsUnread : Status → Type 0
IsUnread Usage = Unit {0}
IsUnread BadQuery = Unit {0}
IsUnread status = ⊥

-- the streams that a job doesn't touch: the input if the query is refused, and the output if
-- nothing is written
pub record LeavesStreams {I O : Type 0} (status : Status) (input input' : I)
    (out out' : O) : Type 0 where
  pub unread : IsUnread status → input' ≡ input
  pub unwritten : IsSilent status → out' ≡ out

-- A query over the input was answered, or ended in another way: the message over any input, and,
-- over an input whose bytes are known, what is written and read. The clock is read once.
pub record AnswersInput (job : Job) (old new : Scene) (status : Status) (message : List ℕ)
    : Type 0 where
  pub says : IsJobMessage job status message
  pub asks : (now : ℕ) × Ticks old.clock new.clock now
  pub ends : (bytes : List ℕ) → old.input ≡ Some bytes
      → EndsJob job old.clock new.clock bytes old.output new.output status message
  pub reads : (bytes : List ℕ) → old.input ≡ Some bytes → EndsInput bytes status new.input
  pub log : new.log ≡ old.log
  pub loans : new.loans ≡ old.loans
