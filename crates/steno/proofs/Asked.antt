-- From the outcome of a query over a shelf to how the run ends.
use Rattle.std.proofs.Common.{◌≡◌, ℕ, List, [], Option, sym, subst, ◌∙◌, inl, inr}
use Rattle.std.proofs.lemmas.List.Elements.{All-contains}
use Rattle.st_answer.specs.Replies.{Question}
use Rattle.st_commands.specs.Queries.{Answers}
use Rattle.st_commands.specs.declared.outcomes.Outcome.{Outcome}
use Rattle.st_commands.specs.declared.outcomes.Outcome.TheVariants as outcome
use Rattle.st_disk.specs.Pairs.{Entry}
use Rattle.st_pairs.specs.Pairs.{IsWholePair}
use Rattle.st_plan.specs.Jobs.{Job}
use Rattle.st_base.specs.declared.limits.Limits.{Limits}
use Rattle.st_pcap.specs.declared.forms.Unit as unit
use Rattle.st_query.specs.declared.nodes.Node.{Node}
use Rattle.st_query.specs.Spelling.{Spells}
use Rattle.st_query.proofs.Readings.{not_both}
use Rattle.steno.specs.declared.status.Status.{Status}
use Rattle.steno.specs.declared.status.Status.TheVariants.{Done, Usage, BadQuery, WriteFault, DiskFault, Damaged, NoMemory}
use Rattle.steno.specs.Asking.{AnswersShelf, QueriesUnfailed, question}
use Rattle.steno.specs.Causes.{FaultCounts, HasCauses, NoneRose}
use Rattle.steno.specs.Once.{HasQueryCause}
use Rattle.steno.specs.Scenes.{Scene}
use Rattle.steno.specs.Spooling.{AreWhole, NamesDamage, SaysOutcome}
use Rattle.steno.specs.Statuses.{Ends}
use Rattle.steno.proofs.Spooled.{said_done, named_open}

-- an answer over whole pairs that no fault ends
well : (q : Question) (o : Outcome) (pairs : List Entry) (old new : Option (List ℕ)) (status : Status) (message : List ℕ) → SaysOutcome NamesDamage o status message → Answers q pairs old new o
    → (status ≡ WriteFault → ⊥) → (status ≡ DiskFault → ⊥) → AreWhole pairs → Ends Done status
well q outcome.Done pairs old new status message says answers write disk whole = inl says.0
well q outcome.WriteFault pairs old new status message says answers write disk whole = absurd (write says.0)
well q outcome.DiskFault pairs old new status message says answers write disk whole = absurd (disk says.0)
well q (outcome.Damaged stamp d) pairs old new status message says answers write disk whole =
    absurd (answers.hurt.3 (All-contains (λ e. IsWholePair e.block e.index) pairs answers.hurt.0 whole answers.hurt.1))
well q outcome.NoMemory pairs old new status message says answers write disk whole = inr says.0

-- a command over a shelf ends in no other way
other_end : (o : Outcome) (status : Status) (message : List ℕ) → SaysOutcome NamesDamage o status message → (x : Status) → status ≡ x
    → (Done ≡ x → ⊥) → (WriteFault ≡ x → ⊥) → (DiskFault ≡ x → ⊥) → (Damaged ≡ x → ⊥) → (NoMemory ≡ x → ⊥) → ⊥
other_end outcome.Done status message says x h done write disk hurt memory = done (sym says.0 ∙ h)
other_end outcome.WriteFault status message says x h done write disk hurt memory = write (sym says.0 ∙ h)
other_end outcome.DiskFault status message says x h done write disk hurt memory = disk (sym says.0 ∙ h)
other_end (outcome.Damaged stamp d) status message (inl says) x h done write disk hurt memory = hurt (sym says.0 ∙ h)
other_end (outcome.Damaged stamp d) status message (inr says) x h done write disk hurt memory = memory (sym says.0 ∙ h)
other_end outcome.NoMemory status message says x h done write disk hurt memory = memory (sym says.0 ∙ h)

-- an answer in a job's unit and within its limits
pub question_same : (job : Job) (u : unit.Unit) (l : Limits) (q : Node) (now : ℕ) (pairs : List Entry) (old new : Option (List ℕ)) (o : Outcome) → u ≡ job.unit → l ≡ job.limits
    → Answers (record { node = q; now = now; limits = l; unit = u }) pairs old new o → Answers (question job q now) pairs old new o
question_same job u l q now pairs old new o same_unit same_limits answers =
    subst (λ v. Answers (record { node = q; now = now; limits = job.limits; unit = v }) pairs old new o) same_unit
    (subst (λ k. Answers (record { node = q; now = now; limits = k; unit = u }) pairs old new o) same_limits answers)

pub query_ends : (job : Job) (old new : Scene) (before after : FaultCounts) (status : Status) (message : List ℕ)
    → AnswersShelf job old new status message → HasCauses before after status → NoneRose before after → QueriesUnfailed job old status
query_ends job old new before after status message ran cause none = λ first pairs q known found whole spelled.
    elim ran.ends [
      | inl refused ↦ elim refused.says [
        | inl (e, refuses, says) ↦ absurd (not_both job.query q e spelled refuses)
        | inr says ↦ inr says.0
      ]
      | inr replied ↦ well _ replied.outcome pairs old.output new.output status message replied.says (replied.answers first pairs known found)
          (λ e. none.output (cause.write e)) (λ e. none.shelf (cause.disk e)) whole
    ]

-- a query that is done has no message
pub query_done : (job : Job) (old new : Scene) (message : List ℕ) → AnswersShelf job old new Done message → message ≡ []
query_done job old new message ran = elim ran.ends [
  | inl refused ↦ elim refused.says [
    | inl (e, refuses, says) ↦ let bad : Done ≡ BadQuery = says.0 in absurd (cc)
    | inr says ↦ let bad : Done ≡ NoMemory = says.0 in absurd (cc)
  ]
  | inr replied ↦ said_done NamesDamage replied.outcome message (λ stamp d. named_open stamp d message) replied.says
]

-- a query that is one is not refused, nor are its arguments
pub answered_cause : (job : Job) (q : Node) (o : Outcome) (status : Status) (message : List ℕ) → Spells job.query q → SaysOutcome NamesDamage o status message → HasQueryCause job status
answered_cause job q o status message spelled says = record {
  planned = λ h. other_end o status message says Usage h (λ b. cc) (λ b. cc) (λ b. cc) (λ b. cc) (λ b. cc);
  refused = λ h. absurd (other_end o status message says BadQuery h (λ b. cc) (λ b. cc) (λ b. cc) (λ b. cc) (λ b. cc));
  exact = λ e refused. absurd (not_both job.query q e spelled refused);
}
