-- What a run reports when it ends, and how it tells that.
use Rattle.std.specs.Prelude.{◌≡◌, ◌≢◌, ◌≤◌, ◌⊎◌, ℕ, List, Option, None, Result, Ok, Err}
use Rattle.std.specs.Io.KnownBytes.{Appends}
use Rattle.st_base.specs.Faults.{Rose}
use Rattle.st_base.specs.Pieces.{AppendsPrefix}
use Rattle.st_pcap.specs.declared.errors.PcapErr.{PcapErr}
use Rattle.st_pcap.specs.declared.errors.PcapErr.TheVariants as cause
use Rattle.st_pcap.specs.Heads.{IsOfFileHead}
use Rattle.st_pcap.specs.Reading.{IsOutside}
use Rattle.st_query.specs.declared.errors.QueryErr.{QueryErr}
use Rattle.st_query.specs.declared.errors.QueryErr.TheVariants as refusal
use Rattle.steno.specs.declared.report.Report.{Report}
use Rattle.steno.specs.declared.status.Status.{Status}
use Rattle.steno.specs.declared.status.Status.TheVariants.{Done, BadInput, BadQuery, ReadFault, NoMemory}
use Rattle.steno.specs.Messages.{line_of, query_line, input_line}

-- the report whose line is the one that its status always has
abbrev pub plain_of : Status → Report
plain_of status = record { status = status; line = None }

-- the report is that of a query with this refusal, with its line; or that there was no memory
abbrev pub ReportsQuery : QueryErr → Report → Type 0
ReportsQuery e report =
    (report ≡ plain_of NoMemory)
    ⊎ ((e ≢ refusal.NoMemory) × (report.status ≡ BadQuery) × (line_of report ≡ query_line e))

-- the input is refused by this cause, with its line
pub record IsRefusal (e : PcapErr) (report : Report) : Type 0 where
  pub inside : IsOutside e → ⊥
  pub status : report.status ≡ BadInput
  pub line : line_of report ≡ input_line e

-- What a run reports of an input that ended so: Ok if it writes the answer over the records before
-- that end first, Err if it ends at once.
abbrev pub ReportsInput : Result (Unit {0}) PcapErr → Result Report Report → Type 0
ReportsInput (Ok done) (Ok report) = report ≡ plain_of Done
ReportsInput (Ok done) (Err report) = ⊥
ReportsInput (Err e) (Ok report) = IsRefusal e report × (IsOfFileHead e → ⊥)
ReportsInput (Err e) (Err report) =
    ((e ≢ cause.ReadFault) × (report ≡ plain_of NoMemory))
    ⊎ (((e ≡ cause.ReadFault) × (report ≡ plain_of ReadFault))
    ⊎ (IsRefusal e report × IsOfFileHead e))

-- the message was written, or a prefix of it and the count of faults rose; the count never falls
pub record Tells (old new : Option (List ℕ)) (before after : ℕ) (message : List ℕ) : Type 0 where
  pub put : Appends old new message ⊎ (AppendsPrefix old new message × Rose before after)
  pub later : before ≤ after
