-- From what a run does for a plan to what it does for the arguments that have it.
use Rattle.std.proofs.Common.{◌≡◌, ◌≢◌, ℕ, List, [], Some, refl, sym, ap, subst, inl, inr}
use Rattle.st_pcap.specs.Input.{End, Whole, Refused}
use Rattle.st_commands.specs.declared.outcomes.Report.TheVariants.{Summaries, Verdicts}
use Rattle.st_plan.specs.Jobs.{DrillPlan, QueryPlan, SpoolPlan}
use Rattle.st_plan.specs.Plans.{IsPlan}
use Rattle.st_plan.specs.declared.jobs.Plan.{Plan}
use Rattle.st_plan.specs.declared.jobs.Plan.TheVariants as plan
use Rattle.st_plan.proofs.OnePlan.{one_plan}
use Rattle.steno.specs.declared.report.Report.{Report}
use Rattle.steno.specs.declared.status.Status.{Status}
use Rattle.steno.specs.declared.status.Status.TheVariants.{Done, Usage, BadQuery, WriteFault, NoMemory}
use Rattle.steno.specs.Messages.{line_of}
use Rattle.steno.specs.Plans.{query_of}
use Rattle.steno.specs.Reports.{plain_of}
use Rattle.steno.specs.Causes.{FaultCounts, HasCauses, HasFaultCause, HasPlanFaults, KeepsCounts, NoneRose}
use Rattle.steno.specs.Running.{DoesNothing, Does, EndsRun, EndsBy, EndsUnfailed, HasPlanCause, HasArgumentsCause, IsSoundPlan}
use Rattle.steno.specs.Drilling.{DrillsShelf}
use Rattle.steno.specs.Scenes.{Scene}
use Rattle.steno.specs.Spooling.{NamesDamage, ReportsPairs, SaidDamage}
use Rattle.steno.specs.Staying.{IsUnsaid, LeavesAlone, Spares}
use Rattle.steno.proofs.Asking.{completes}
use Rattle.steno.proofs.Loaded.{load_ends, load_done}
use Rattle.steno.proofs.Drilled.{drill_ends, drill_done}
use Rattle.steno.proofs.Sound.{sound, sound_count}
use Rattle.steno.proofs.Asked.{query_ends, query_done}
use Rattle.steno.proofs.Spooled.{list_ends, check_ends, said_done, said_damaged, named_open, said_open}

-- a report of nothing but its status
pub nothing_done : (which : Status) (old : Scene) (report : Report) → report ≡ plain_of which → DoesNothing which old old report.status (line_of report)
nothing_done which old report is = record {
  ended = ap (λ (r : Report). r.status) is;
  line = ap line_of is;
  same = refl;
}

-- the cause of an end is that of the arguments' one plan
pub word_cause : (words : List (List ℕ)) (p : Plan) (status : Status) → IsPlan words p → HasPlanCause p status → HasArgumentsCause words status
word_cause words p status plan cause = record {
  usage = λ e q other. cause.usage e;
  unplanned = λ none. absurd (none p plan);
  refused = λ e. let r = cause.refused e in (p, r.0, r.1, plan, r.2, r.3);
  exact = λ q text e other asks refused.
      let same = one_plan words q p other plan in
      cause.exact text e (subst (λ x. query_of x ≡ Some text) same asks) refused;
}

-- arguments without a plan ask for nothing
pub unplanned_cause : (words : List (List ℕ)) (report : Report) → report ≡ plain_of Usage → ((p : Plan) → IsPlan words p → ⊥) → HasArgumentsCause words report.status
unplanned_cause words report is none =
    subst (λ (r : Report). HasArgumentsCause words r.status) (sym is) (record {
      usage = λ _ p plan. none p plan;
      unplanned = λ _. inl refl;
      refused = λ e. let bad : Usage ≡ BadQuery = e in absurd (cc);
      exact = λ p text e plan asks refused. absurd (none p plan);
    })

memory_by : (end : End) → EndsBy end NoMemory
memory_by Whole = inr refl
memory_by (Refused cause) = inr refl

-- the faults of a run are those of the arguments' one plan
pub word_fault : (words : List (List ℕ)) (p : Plan) (old new : FaultCounts) (status : Status) → IsPlan words p → HasPlanCause p status → HasPlanFaults p old new status
    → HasFaultCause words old new status
word_fault words p old new status plan cause fault = record {
  causes = fault.causes;
  usage = λ e. absurd (cause.usage e);
  planned = λ q other. subst (λ x. KeepsCounts x old new status) (one_plan words p q plan other) fault.keeps;
}

-- and so is what it leaves alone
pub word_alone : {I O C D : Type 0} (words : List (List ℕ)) (p : Plan) (status : Status) (i i' : I) (o o' : O) (t t' : C) (d d' : D) → IsPlan words p → HasPlanCause p status
    → Spares p status i i' o o' t t' d d' → LeavesAlone words status i i' o o' t t' d d'
word_alone words p status i i' o o' t t' d d' plan cause spares = record {
  usage = λ e. absurd (cause.usage e);
  planned = λ q other. subst (λ x. Spares x status i i' o o' t t' d d') (one_plan words p q plan other) spares;
}

-- if memory runs out a run may end so
memory_ends : (p : Plan) (old : Scene) → EndsUnfailed p old NoMemory
memory_ends (plan.Once job) old = λ bytes q rs end told spelled given. memory_by end
memory_ends (plan.Load load) old = record { done = λ bytes rs end told given taken. inl (inr refl); refused = λ bytes rs end told given other. inl (inr refl) }
memory_ends (plan.Query query) old = λ first pairs q known found whole spelled. inr refl
memory_ends (plan.List spool) old = λ first pairs known found whole. inr refl
memory_ends (plan.Check spool) old = λ first pairs known found. (λ whole. inr refl, λ torn. inr refl)
memory_ends (plan.Drill drill) old = λ first pairs known found whole. inl (inr refl)

-- a plan's run ends so if no count rises
does_ends : (p : Plan) (old new : Scene) (before after : FaultCounts) (status : Status) (message : List ℕ)
    → Does p old new status message → HasCauses before after status → NoneRose before after → EndsUnfailed p old status
does_ends (plan.Once job) old new before after status message does cause none = λ bytes q rs end told spelled given.
    let ended = does.ends bytes told in
    completes job q ended.0 bytes rs end status message old.output new.output spelled given
    (λ e. none.input (cause.read e)) (λ e. none.output (cause.write e)) ended.2
does_ends (plan.Load load) old new before after status message does cause none = load_ends load old new before after status message does cause none
does_ends (plan.Query query) old new before after status message does cause none = query_ends query.job old new before after status message does cause none
does_ends (plan.List spool) old new before after status message does cause none = list_ends old new before after status message does cause none
does_ends (plan.Check spool) old new before after status message does cause none = check_ends old new before after status message does cause none
does_ends (plan.Drill drill) old new before after status message does cause none = drill_ends drill old new before after status message does cause none

-- and so does that of the arguments that have it
pub run_ends : (words : List (List ℕ)) (p : Plan) (old new : Scene) (before after : FaultCounts) (status : Status) (message : List ℕ) → IsPlan words p
    → EndsRun words old new status message → HasCauses before after status → NoneRose before after → EndsUnfailed p old status
run_ends words p old new before after status message plan (inl (none, nothing)) cause quiet = absurd (none p plan)
run_ends words p old new before after status message plan (inr (inl nothing)) cause quiet = subst (EndsUnfailed p old) (sym nothing.ended) (memory_ends p old)
run_ends words p old new before after status message plan (inr (inr (q, other, does))) cause quiet =
    subst (λ x. EndsUnfailed x old status) (one_plan words q p other plan) (does_ends q old new before after status message does cause quiet)

-- the plan of some arguments is sound
pub sound_plan : (words : List (List ℕ)) (p : Plan) → IsPlan words p → IsSoundPlan p
sound_plan words (plan.Once job) is = tt
sound_plan words (plan.Load load) is = sound words load is
sound_plan words (plan.Query query) is = tt
sound_plan words (plan.List spool) is = tt
sound_plan words (plan.Check spool) is = tt
sound_plan words (plan.Drill drill) is = sound_count words drill is

-- a plan's run that is done has no message
done_unsaid : (p : Plan) (old new : Scene) (message : List ℕ) → Does p old new Done message → message ≡ []
done_unsaid (plan.Once job) old new message does = does.says
done_unsaid (plan.Load load) old new message does = load_done load.plan.size does.ended message does.says
done_unsaid (plan.Query query) old new message does = query_done query.job old new message does
done_unsaid (plan.List spool) old new message does = said_done NamesDamage does.outcome message (λ stamp d. named_open stamp d message) does.says
done_unsaid (plan.Check spool) old new message does = said_done SaidDamage does.outcome message (λ stamp d. said_open stamp d message) does.says
done_unsaid (plan.Drill drill) old new message does = drill_done does.ended message does.says

-- nor has a check that found damage, nor the run of the arguments
pub unsaid : (words : List (List ℕ)) (p : Plan) (old new : Scene) (status : Status) (message : List ℕ) → IsPlan words p → Does p old new status message → IsUnsaid words status → message ≡ []
unsaid words p old new status message planned does (inl done) = done_unsaid p old new message (subst (λ s. Does p old new s message) done does)
unsaid words p old new status message planned does (inr (spool, checks, hurt)) =
    let ran = subst (λ s. Does (plan.Check spool) old new s message) hurt (subst (λ x. Does x old new status message) (one_plan words p (plan.Check spool) planned checks) does) in
    said_damaged ran.outcome message ran.says

-- what a plan's command does is what the plan asks for
pub does_list : (p : Plan) (spool : SpoolPlan) (old new : Scene) (status : Status) (message : List ℕ) → p ≡ plan.List spool → ReportsPairs Summaries old new status message
    → Does p old new status message
does_list p spool old new status message is ran = subst (λ x. Does x old new status message) (sym is) ran

pub does_check : (p : Plan) (spool : SpoolPlan) (old new : Scene) (status : Status) (message : List ℕ) → p ≡ plan.Check spool → ReportsPairs Verdicts old new status message
    → Does p old new status message
does_check p spool old new status message is ran = subst (λ x. Does x old new status message) (sym is) ran

pub does_drill : (p : Plan) (drill : DrillPlan) (old new : Scene) (status : Status) (message : List ℕ) → p ≡ plan.Drill drill → DrillsShelf drill old new status message
    → Does p old new status message
does_drill p drill old new status message is ran = subst (λ x. Does x old new status message) (sym is) ran

pub query_keeps : (p : Plan) (query : QueryPlan) (old new : FaultCounts) (status : Status) → p ≡ plan.Query query → new.input ≡ old.input → (status ≢ WriteFault → new.output ≡ old.output)
    → KeepsCounts p old new status
query_keeps p query old new status is input output = subst (λ x. KeepsCounts x old new status) (sym is) (record { input = λ other. input; output = output }, input)

pub drill_keeps : (p : Plan) (drill : DrillPlan) (old new : FaultCounts) (status : Status) → p ≡ plan.Drill drill → new.input ≡ old.input → (status ≢ WriteFault → new.output ≡ old.output)
    → KeepsCounts p old new status
drill_keeps p drill old new status is input output = subst (λ x. KeepsCounts x old new status) (sym is) (record { input = λ other. input; output = output }, input)
