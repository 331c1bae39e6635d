-- From what was gathered and written to what a run leaves and says.
use Rattle.std.proofs.Common.{◌≡◌, ◌≢◌, ◌⊎◌, ℕ, List, [], Option, Result, Ok, Err, refl, sym, ap, subst, ◌∙◌, inl, inr}
use Rattle.std.specs.Io.KnownBytes.{Appends}
use Rattle.std.proofs.KnownBytes.{Appends-nil, Keeps-refl}
use Rattle.st_base.specs.Pieces.{AppendsPrefix}
use Rattle.st_base.specs.Records.{Rec}
use Rattle.st_pcap.specs.declared.errors.PcapErr.{PcapErr}
use Rattle.st_pcap.specs.declared.errors.PcapErr.TheVariants as cause
use Rattle.st_pcap.specs.Reading.{IsOutside}
use Rattle.st_pcap.specs.Text.{PcapText}
use Rattle.st_plan.specs.Jobs.{Job}
use Rattle.st_query.specs.declared.errors.QueryErr.{QueryErr}
use Rattle.st_query.specs.declared.nodes.Node.{Node}
use Rattle.st_query.specs.Answer.{AnswerOf}
use Rattle.st_query.specs.Meaning.{Matches}
use Rattle.st_query.specs.Spelling.{Spells}
use Rattle.st_query.proofs.Readings.{not_both}
use Rattle.steno.specs.declared.report.Report.{Report}
use Rattle.steno.specs.declared.status.Status.{Status}
use Rattle.steno.specs.declared.status.Status.TheVariants.{Done, Usage, BadInput, BadQuery, ReadFault, WriteFault, DiskFault, Damaged, NoMemory, StampsSpent}
use Rattle.steno.specs.Gathering.{IsGathered, Selects, StopsAt, ReadsUpTo}
use Rattle.steno.specs.Jobs.{IsReply, IsAsked, Leaves}
use Rattle.st_answer.specs.Limited.{Limited}
use Rattle.steno.specs.Messages.{line_of, input_line}
use Rattle.steno.specs.Reports.{plain_of, IsRefusal, ReportsInput, ReportsQuery}
use Rattle.steno.specs.Once.{EndsInput, IsJobMessage, IsAnswerMessage, HasQueryCause, IsSilent, IsUnread}

-- what the report of a query leaves
abbrev pub LeavesReply : Job → Node → ℕ → List ℕ → Option (List ℕ) → Option (List ℕ) → Report → Type 0
LeavesReply job q now bytes old new r = Leaves (IsReply job q now bytes) r.status (line_of r) old new

-- the run ended at once, as its input did
pub stopped_leaves : (job : Job) (q : Node) (now : ℕ) (bytes : List ℕ) (kept : List Rec) (end : Result (Unit {0}) PcapErr) (report : Report) (old : Option (List ℕ))
    → IsGathered q now bytes kept end → ReportsInput end (Err report) → LeavesReply job q now bytes old old report
stopped_leaves job q now bytes kept (Ok done) report old h r = absurd r
stopped_leaves job q now bytes kept (Err e) report old h (inl (other, plain)) = subst (LeavesReply job q now bytes old old) (sym plain) (Keeps-refl old, refl)
stopped_leaves job q now bytes kept (Err e) report old h (inr (inl (fault, plain))) = subst (LeavesReply job q now bytes old old) (sym plain) (Keeps-refl old, refl)
stopped_leaves job q now bytes kept (Err e) report old (inl outside) (inr (inr (refused, head))) = absurd (refused.inside outside)
stopped_leaves job q now bytes kept (Err e) report old (inr (rs, cut, selected)) (inr (inr (refused, head))) =
    subst (λ s. Leaves (IsReply job q now bytes) s (line_of report) old old) (sym refused.status) ([], (rs, e, cut, inl (head, refl), refused.line), Appends-nil old)

-- the answer was written
pub written_leaves : (job : Job) (q : Node) (now : ℕ) (bytes : List ℕ) (kept answer cut : List Rec) (end : Result (Unit {0}) PcapErr) (report : Report) (old new : Option (List ℕ))
    → IsGathered q now bytes kept end → ReportsInput end (Ok report) → ((rs : List Rec) → Selects (Matches q now) rs kept → AnswerOf q now rs answer)
    → Limited job.limits answer cut → Appends old new (PcapText cut job.unit) → LeavesReply job q now bytes old new report
written_leaves job q now bytes kept answer cut (Ok done) report old new (rs, whole, selected) plain sorts limited put =
    subst (LeavesReply job q now bytes old new) (sym plain) (PcapText cut job.unit, (rs, whole, (answer, cut, sorts rs selected, limited, refl), refl), put)
written_leaves job q now bytes kept answer cut (Err e) report old new (inl outside) (refused, records) sorts limited put = absurd (refused.inside outside)
written_leaves job q now bytes kept answer cut (Err e) report old new (inr (rs, ends, selected)) (refused, records) sorts limited put =
    subst (λ s. Leaves (IsReply job q now bytes) s (line_of report) old new) (sym refused.status)
    (PcapText cut job.unit, (rs, e, ends, inr (records, (answer, cut, sorts rs selected, limited, refl)), refused.line), put)

-- a prefix of the answer was written
pub failed_leaves : (job : Job) (q : Node) (now : ℕ) (bytes : List ℕ) (kept answer cut : List Rec) (end : Result (Unit {0}) PcapErr) (report : Report) (old new : Option (List ℕ))
    → IsGathered q now bytes kept end → ReportsInput end (Ok report) → ((rs : List Rec) → Selects (Matches q now) rs kept → AnswerOf q now rs answer)
    → Limited job.limits answer cut → AppendsPrefix old new (PcapText cut job.unit) → LeavesReply job q now bytes old new (plain_of WriteFault)
failed_leaves job q now bytes kept answer cut (Ok done) report old new (rs, whole, selected) plain sorts limited put =
    (PcapText cut job.unit, Done, [], (rs, whole, (answer, cut, sorts rs selected, limited, refl), refl), put, refl)
failed_leaves job q now bytes kept answer cut (Err e) report old new (inl outside) (refused, records) sorts limited put = absurd (refused.inside outside)
failed_leaves job q now bytes kept answer cut (Err e) report old new (inr (rs, ends, selected)) (refused, records) sorts limited put =
    (PcapText cut job.unit, BadInput, input_line e, (rs, e, ends, inr (records, (answer, cut, sorts rs selected, limited, refl)), refl), put, refl)

-- nothing was written, since memory ran out
pub memory_leaves : (job : Job) (now : ℕ) (bytes : List ℕ) (old : Option (List ℕ)) (report : Report) → report ≡ plain_of NoMemory
    → Leaves (IsAsked job now bytes) report.status (line_of report) old old
memory_leaves job now bytes old report plain = subst (λ (r : Report). Leaves (IsAsked job now bytes) r.status (line_of r) old old) (sym plain) (Keeps-refl old, refl)

-- what a run says that ended at once
pub stopped_says : (end : Result (Unit {0}) PcapErr) (report : Report) → ReportsInput end (Err report) → IsAnswerMessage report.status (line_of report)
stopped_says (Ok done) report r = absurd r
stopped_says (Err e) report (inl (other, plain)) = subst (λ (r : Report). IsAnswerMessage r.status (line_of r)) (sym plain) refl
stopped_says (Err e) report (inr (inl (fault, plain))) = subst (λ (r : Report). IsAnswerMessage r.status (line_of r)) (sym plain) refl
stopped_says (Err e) report (inr (inr (refused, head))) = subst (λ s. IsAnswerMessage s (line_of report)) (sym refused.status) (e, refused.inside, refused.line)

-- what a run says that answered first
pub going_says : (end : Result (Unit {0}) PcapErr) (report : Report) → ReportsInput end (Ok report) → IsAnswerMessage report.status (line_of report)
going_says (Ok done) report plain = subst (λ (r : Report). IsAnswerMessage r.status (line_of r)) (sym plain) refl
going_says (Err e) report (refused, records) = subst (λ s. IsAnswerMessage s (line_of report)) (sym refused.status) (e, refused.inside, refused.line)

-- what a run says that ended for another reason than its input
pub memory_says : (report : Report) → report ≡ plain_of NoMemory → IsAnswerMessage report.status (line_of report)
memory_says report plain = subst (λ (r : Report). IsAnswerMessage r.status (line_of r)) (sym plain) refl

pub failed_says : (report : Report) → report ≡ plain_of WriteFault → IsAnswerMessage report.status (line_of report)
failed_says report plain = subst (λ (r : Report). IsAnswerMessage r.status (line_of r)) (sym plain) refl

-- how a run that ended at once did not end, and when its input failed
pub stopped_reads : (end : Result (Unit {0}) PcapErr) (report : Report) → ReportsInput end (Err report) → report.status ≡ ReadFault → end ≡ Err cause.ReadFault
stopped_reads (Ok done) report r e = absurd r
stopped_reads (Err e) report (inl (other, plain)) h = let bad : NoMemory ≡ ReadFault = sym (ap (λ (r : Report). r.status) plain) ∙ h in absurd (cc)
stopped_reads (Err e) report (inr (inl (fault, plain))) h = ap Err fault
stopped_reads (Err e) report (inr (inr (refused, head))) h = let bad : BadInput ≡ ReadFault = sym refused.status ∙ h in absurd (cc)

pub stopped_fault : (end : Result (Unit {0}) PcapErr) (report : Report) → ReportsInput end (Err report) → end ≡ Err cause.ReadFault → report.status ≡ ReadFault
stopped_fault (Ok done) report r h = absurd r
stopped_fault (Err e) report (inl (other, plain)) h = let same : e ≡ cause.ReadFault = cc in absurd (other same)
stopped_fault (Err e) report (inr (inl (fault, plain))) h = ap (λ (r : Report). r.status) plain
stopped_fault (Err e) report (inr (inr (refused, head))) h = let same : e ≡ cause.ReadFault = cc in absurd (refused.inside (inl same))

pub going_reads : (end : Result (Unit {0}) PcapErr) (report : Report) → ReportsInput end (Ok report) → end ≡ Err cause.ReadFault → ⊥
going_reads (Ok done) report r h = cc
going_reads (Err e) report (refused, records) h = let same : e ≡ cause.ReadFault = cc in refused.inside (inl same)

pub stopped_other : (end : Result (Unit {0}) PcapErr) (report : Report) → ReportsInput end (Err report) → (report.status ≢ Done) × (report.status ≢ WriteFault)
stopped_other (Ok done) report r = absurd r
stopped_other (Err e) report (inl (other, plain)) =
    let is : report.status ≡ NoMemory = ap (λ (r : Report). r.status) plain in
    (λ h. let bad : NoMemory ≡ Done = sym is ∙ h in cc, λ h. let bad : NoMemory ≡ WriteFault = sym is ∙ h in cc)
stopped_other (Err e) report (inr (inl (fault, plain))) =
    let is : report.status ≡ ReadFault = ap (λ (r : Report). r.status) plain in
    (λ h. let bad : ReadFault ≡ Done = sym is ∙ h in cc, λ h. let bad : ReadFault ≡ WriteFault = sym is ∙ h in cc)
stopped_other (Err e) report (inr (inr (refused, head))) =
    (λ h. let bad : BadInput ≡ Done = sym refused.status ∙ h in cc, λ h. let bad : BadInput ≡ WriteFault = sym refused.status ∙ h in cc)

-- how a run that answers first ends
pub going_ends : (end : Result (Unit {0}) PcapErr) (report : Report) → ReportsInput end (Ok report) → ((report.status ≡ Done) × (end ≡ Ok tt)) ⊎ (report.status ≡ BadInput)
going_ends (Ok done) report plain = inl (ap (λ (r : Report). r.status) plain, refl)
going_ends (Err e) report (refused, records) = inr refused.status

pub going_other : (end : Result (Unit {0}) PcapErr) (report : Report) → ReportsInput end (Ok report) → (report.status ≢ ReadFault) × (report.status ≢ WriteFault) × (IsSilent report.status → ⊥)
going_other end report r = elim (going_ends end report r) [
  | inl (done, whole) ↦ (
    λ h. let bad : Done ≡ ReadFault = sym done ∙ h in cc,
    λ h. let bad : Done ≡ WriteFault = sym done ∙ h in cc,
    λ s. subst IsSilent done s,
  )
  | inr refused ↦ (
    λ h. let bad : BadInput ≡ ReadFault = sym refused ∙ h in cc,
    λ h. let bad : BadInput ≡ WriteFault = sym refused ∙ h in cc,
    λ s. subst IsSilent refused s,
  )
]

-- where the query is one, a reply is no refusal of it
pub reply_cause : (job : Job) (q : Node) (status : Status) (message : List ℕ) → Spells job.query q → IsAnswerMessage status message → HasQueryCause job status
reply_cause job q status message spelled says = record {
  planned = λ h. subst (λ s. IsAnswerMessage s message) h says;
  refused = λ h. absurd (subst (λ s. IsAnswerMessage s message) h says);
  exact = λ e refused. absurd (not_both job.query q e spelled refused);
}

-- how far a run that ended so read its input
pub plain_input : (bytes : List ℕ) (left : Option (List ℕ)) (report : Report) (status : Status) → EndsInput bytes status left → report ≡ plain_of status → EndsInput bytes report.status left
plain_input bytes left report status h plain = subst (λ (r : Report). EndsInput bytes r.status left) (sym plain) h

pub query_input : (bytes : List ℕ) (left : Option (List ℕ)) (error : QueryErr) (report : Report) → ReportsQuery error report → EndsInput bytes report.status left
query_input bytes left error report (inl plain) = plain_input bytes left report NoMemory tt plain
query_input bytes left error report (inr (other, status, line)) = subst (λ s. EndsInput bytes s left) (sym status) tt

refused_input : (bytes : List ℕ) (left : Option (List ℕ)) (e : PcapErr) (report : Report) → IsRefusal e report → IsOutside e ⊎ StopsAt bytes e left → EndsInput bytes report.status left
refused_input bytes left e report refused (inl outside) = absurd (refused.inside outside)
refused_input bytes left e report refused (inr stops) = subst (λ s. EndsInput bytes s left) (sym refused.status) (e, stops)

pub stopped_input : (bytes : List ℕ) (left : Option (List ℕ)) (end : Result (Unit {0}) PcapErr) (report : Report) → ReportsInput end (Err report) → ReadsUpTo bytes end left
    → EndsInput bytes report.status left
stopped_input bytes left (Ok done) report r h = absurd r
stopped_input bytes left (Err e) report (inl (other, plain)) h = plain_input bytes left report NoMemory tt plain
stopped_input bytes left (Err e) report (inr (inl (fault, plain))) h = plain_input bytes left report ReadFault tt plain
stopped_input bytes left (Err e) report (inr (inr (refused, head))) h = refused_input bytes left e report refused h

pub going_input : (bytes : List ℕ) (left : Option (List ℕ)) (end : Result (Unit {0}) PcapErr) (report : Report) → ReportsInput end (Ok report) → ReadsUpTo bytes end left
    → EndsInput bytes report.status left
going_input bytes left (Ok done) report plain h = plain_input bytes left report Done h plain
going_input bytes left (Err e) report (refused, records) h = refused_input bytes left e report refused h

-- what says a reply touched its input
pub reply_reads : (status : Status) (message : List ℕ) → IsAnswerMessage status message → IsUnread status → ⊥
reply_reads Usage message says unread = says
reply_reads BadQuery message says unread = says
reply_reads Done message says unread = unread
reply_reads BadInput message says unread = unread
reply_reads ReadFault message says unread = unread
reply_reads WriteFault message says unread = unread
reply_reads NoMemory message says unread = unread
reply_reads DiskFault message says unread = unread
reply_reads Damaged message says unread = unread
reply_reads StampsSpent message says unread = unread

-- what a reply says is what its job does
pub reply_answers : (job : Job) (status : Status) (message : List ℕ) → IsAnswerMessage status message → IsJobMessage job status message
reply_answers job BadQuery message says = absurd says
reply_answers job Usage message says = says
reply_answers job Done message says = says
reply_answers job BadInput message says = says
reply_answers job ReadFault message says = says
reply_answers job WriteFault message says = says
reply_answers job NoMemory message says = says
reply_answers job DiskFault message says = says
reply_answers job Damaged message says = says
reply_answers job StampsSpent message says = says
