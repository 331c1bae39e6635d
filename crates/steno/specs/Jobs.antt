-- What a query over one input is asked for, and what it leaves.
use Rattle.std.specs.Prelude.{◌≡◌, ◌⊎◌, ℕ, List, [], Option}
use Rattle.std.specs.Io.KnownBytes.{Keeps, Appends}
use Rattle.st_base.specs.Pieces.{AppendsPrefix}
use Rattle.st_base.specs.Records.{Rec}
use Rattle.st_pcap.specs.declared.errors.PcapErr.{PcapErr}
use Rattle.st_pcap.specs.Heads.{IsOfFileHead}
use Rattle.st_pcap.specs.Input.{Input, Whole, Refused}
use Rattle.st_pcap.specs.Text.{PcapText}
use Rattle.st_plan.specs.Jobs.{Job}
use Rattle.st_query.specs.declared.errors.QueryErr.{QueryErr}
use Rattle.st_query.specs.declared.nodes.Node.{Node}
use Rattle.st_query.specs.Answer.{AnswerOf}
use Rattle.st_query.specs.Spelling.{Spells, Refuses}
use Rattle.steno.specs.declared.status.Status.{Status}
use Rattle.steno.specs.declared.status.Status.TheVariants.{Done, BadInput, BadQuery, ReadFault, WriteFault, NoMemory}
use Rattle.st_answer.specs.Limited.{Limited}
use Rattle.steno.specs.Messages.{status_line, query_line, input_line}

-- the output is the pcap of the answer over these records, cut to the job's limits and in its unit
abbrev pub IsAnswered : Job → Node → ℕ → List Rec → List ℕ → Type 0
IsAnswered job q now rs output =
    (answer : List Rec) × (cut : List Rec) × AnswerOf q now rs answer
    × Limited job.limits answer cut × (output ≡ PcapText cut job.unit)

-- the output if the input is refused after these records: the answer over them, and nothing if it
-- is the file head that is refused
abbrev pub IsAnsweredBefore : Job → Node → ℕ → List Rec → PcapErr → List ℕ → Type 0
IsAnsweredBefore job q now rs cause output =
    (IsOfFileHead cause × (output ≡ []))
    ⊎ ((IsOfFileHead cause → ⊥) × IsAnswered job q now rs output)

-- the query over an input of these bytes ends so, with this output and this message, if no fault
-- comes and memory suffices
abbrev pub IsReply : Job → Node → ℕ → List ℕ → List ℕ → Status → List ℕ → Type 0
IsReply job q now bytes output Done message =
    (rs : List Rec) × Input bytes rs Whole × IsAnswered job q now rs output × (message ≡ [])
IsReply job q now bytes output BadInput message =
    (rs : List Rec) × (cause : PcapErr) × Input bytes rs (Refused cause)
    × IsAnsweredBefore job q now rs cause output × (message ≡ input_line cause)
IsReply job q now bytes output status message = ⊥

-- the job over an input of these bytes ends so, with this output and this message, if no fault
-- comes and memory suffices
abbrev pub IsAsked : Job → ℕ → List ℕ → List ℕ → Status → List ℕ → Type 0
IsAsked job now bytes output BadQuery message =
    (e : QueryErr) × Refuses job.query e × (output ≡ []) × (message ≡ query_line e)
IsAsked job now bytes output status message =
    (q : Node) × Spells job.query q × IsReply job q now bytes output status message

-- What a query adds to the output, `job` being the ways in which it may end without a fault: the
-- output of one of them; after a fault of the output a prefix of that; and nothing if reading the
-- input failed or memory ran out.
abbrev pub Leaves :
    (List ℕ → Status → List ℕ → Type 0) → Status → List ℕ → Option (List ℕ) → Option (List ℕ)
    → Type 0
Leaves job ReadFault message old new = Keeps old new × (message ≡ status_line ReadFault)
Leaves job NoMemory message old new = Keeps old new × (message ≡ status_line NoMemory)
Leaves job WriteFault message old new =
    (output : List ℕ) × (status : Status) × (silenced : List ℕ) × job output status silenced
    × AppendsPrefix old new output × (message ≡ status_line WriteFault)
Leaves job status message old new =
    (output : List ℕ) × job output status message × Appends old new output
