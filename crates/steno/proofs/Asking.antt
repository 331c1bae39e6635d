-- From a reply to the query of a plan to what the plan asks for.
use Rattle.std.proofs.Common.{◌≡◌, ◌≢◌, ℕ, List, [], Option, refl, sym, subst, inl, inr}
use Rattle.std.proofs.KnownBytes.{Appends-nil, Keeps-refl}
use Rattle.st_base.specs.Records.{Rec}
use Rattle.st_pcap.specs.declared.errors.PcapErr.{PcapErr}
use Rattle.st_pcap.specs.Input.{Input, End, Whole, Refused}
use Rattle.st_pcap.proofs.Uniqueness.{one_input}
use Rattle.st_plan.specs.Jobs.{Job}
use Rattle.st_query.specs.declared.errors.QueryErr.{QueryErr}
use Rattle.st_query.specs.declared.errors.QueryErr.TheVariants as refusal
use Rattle.st_query.specs.declared.nodes.Node.{Node}
use Rattle.st_query.specs.Spelling.{Spells, Refuses}
use Rattle.st_query.proofs.Readings.{not_both}
use Rattle.steno.specs.declared.report.Report.{Report}
use Rattle.steno.specs.declared.status.Status.{Status}
use Rattle.steno.specs.declared.status.Status.TheVariants.{Done, Usage, BadInput, BadQuery, ReadFault, WriteFault, DiskFault, Damaged, NoMemory, StampsSpent}
use Rattle.steno.specs.Jobs.{IsReply, IsAsked, Leaves}
use Rattle.steno.specs.Messages.{line_of}
use Rattle.steno.specs.Reports.{ReportsQuery}
use Rattle.steno.specs.Running.{EndsBy}

-- a reply to the query of a plan is what the plan asks for
pub asked_of_reply : (job : Job) (q : Node) (now : ℕ) (bytes output : List ℕ) (status : Status) (message : List ℕ)
    → Spells job.query q → IsReply job q now bytes output status message → IsAsked job now bytes output status message
asked_of_reply job q now bytes output Done message spelled reply = (q, spelled, reply)
asked_of_reply job q now bytes output BadInput message spelled reply = (q, spelled, reply)
asked_of_reply job q now bytes output Usage message spelled reply = (q, spelled, reply)
asked_of_reply job q now bytes output BadQuery message spelled reply = absurd reply
asked_of_reply job q now bytes output ReadFault message spelled reply = (q, spelled, reply)
asked_of_reply job q now bytes output WriteFault message spelled reply = (q, spelled, reply)
asked_of_reply job q now bytes output DiskFault message spelled reply = (q, spelled, reply)
asked_of_reply job q now bytes output Damaged message spelled reply = (q, spelled, reply)
asked_of_reply job q now bytes output NoMemory message spelled reply = (q, spelled, reply)
asked_of_reply job q now bytes output StampsSpent message spelled reply = (q, spelled, reply)

pub asked_leaves : (job : Job) (q : Node) (now : ℕ) (bytes : List ℕ) (status : Status) (message : List ℕ) (old new : Option (List ℕ))
    → Spells job.query q → Leaves (IsReply job q now bytes) status message old new → Leaves (IsAsked job now bytes) status message old new
asked_leaves job q now bytes Done message old new spelled (output, reply, put) = (output, (q, spelled, reply), put)
asked_leaves job q now bytes BadInput message old new spelled (output, reply, put) = (output, (q, spelled, reply), put)
asked_leaves job q now bytes WriteFault message old new spelled (output, status, silenced, reply, put, said) =
    (output, status, silenced, asked_of_reply job q now bytes output status silenced spelled reply, put, said)
asked_leaves job q now bytes ReadFault message old new spelled h = h
asked_leaves job q now bytes NoMemory message old new spelled h = h
asked_leaves job q now bytes Usage message old new spelled h = absurd h.1
asked_leaves job q now bytes BadQuery message old new spelled h = absurd h.1
asked_leaves job q now bytes DiskFault message old new spelled h = absurd h.1
asked_leaves job q now bytes Damaged message old new spelled h = absurd h.1
asked_leaves job q now bytes StampsSpent message old new spelled h = absurd h.1

whole_only : (bytes : List ℕ) (rs qs : List Rec) (cause : PcapErr) → Input bytes rs Whole → Input bytes qs (Refused cause) → ⊥
whole_only bytes rs qs cause h k = let bad : Whole ≡ Refused cause = (one_input bytes rs qs Whole (Refused cause) h k).1 in cc

-- where the query is one and nothing fails, the input's end decides, unless memory runs out
pub completes : (job : Job) (q : Node) (now : ℕ) (bytes : List ℕ) (rs : List Rec) (end : End) (status : Status) (message : List ℕ) (old new : Option (List ℕ))
    → Spells job.query q → Input bytes rs end → (status ≡ ReadFault → ⊥) → (status ≡ WriteFault → ⊥)
    → Leaves (IsAsked job now bytes) status message old new → EndsBy end status
completes job q now bytes rs Whole Done message old new spelled given read write h = inl refl
completes job q now bytes rs (Refused cause) BadInput message old new spelled given read write h = inl refl
completes job q now bytes rs Whole BadInput message old new spelled given read write (output, (p, said, (qs, cause, cut, reply, line)), put) =
    absurd (whole_only bytes rs qs cause given cut)
completes job q now bytes rs (Refused cause) Done message old new spelled given read write (output, (p, said, (qs, whole, reply, line)), put) =
    absurd (whole_only bytes qs rs cause whole given)
completes job q now bytes rs Whole NoMemory message old new spelled given read write h = inr refl
completes job q now bytes rs (Refused cause) NoMemory message old new spelled given read write h = inr refl
completes job q now bytes rs end ReadFault message old new spelled given read write h = absurd (read refl)
completes job q now bytes rs end WriteFault message old new spelled given read write h = absurd (write refl)
completes job q now bytes rs end BadQuery message old new spelled given read write (output, (e, refused, empty, said), put) =
    absurd (not_both job.query q e spelled refused)
completes job q now bytes rs end Usage message old new spelled given read write (output, (p, said, reply), put) = absurd reply
completes job q now bytes rs end DiskFault message old new spelled given read write (output, (p, said, reply), put) = absurd reply
completes job q now bytes rs end Damaged message old new spelled given read write (output, (p, said, reply), put) = absurd reply
completes job q now bytes rs end StampsSpent message old new spelled given read write (output, (p, said, reply), put) = absurd reply

-- what a query that is refused leaves
pub refused_leaves : (job : Job) (now : ℕ) (bytes : List ℕ) (error : QueryErr) (report : Report) (old : Option (List ℕ))
    → (error ≢ refusal.NoMemory → Refuses job.query error) → ReportsQuery error report → Leaves (IsAsked job now bytes) report.status (line_of report) old old
refused_leaves job now bytes error report old refuses (inl e) =
    subst (λ (r : Report). Leaves (IsAsked job now bytes) r.status (line_of r) old old) (sym e) (Keeps-refl old, refl)
refused_leaves job now bytes error report old refuses (inr (other, status, line)) =
    subst (λ s. Leaves (IsAsked job now bytes) s (line_of report) old old) (sym status) ([], (error, refuses other, refl, line), Appends-nil old)
