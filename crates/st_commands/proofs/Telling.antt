-- What the summary row says of a whole pair.
use Rattle.std.proofs.Common.{◌≡◌, ℕ, List, sym, ◌∙◌, ap, subst, Some, None, Result, Ok, Err}
use Rattle.st_base.specs.Damages.{damage_view}
use Rattle.st_base.specs.declared.damages.Damage.{Damage}
use Rattle.st_eval.specs.Refusals.{NoDamage, damage_in}
use Rattle.st_eval.specs.declared.errors.EvalErr.{EvalErr}
use Rattle.st_eval.specs.declared.errors.EvalErr.TheVariants as eval
use Rattle.st_disk.specs.Pairs.{Entry}
use Rattle.st_eval.specs.Selection.{summary_view}
use Rattle.st_eval.specs.declared.summaries.Summary.{Summary}
use Rattle.st_index.specs.Verdict.{Judges}
use Rattle.st_index.specs.declared.checker.Verdict.{Verdict}
use Rattle.st_index.specs.declared.checker.Verdict.TheVariants.{Whole, Differs}
use Rattle.std.proofs.Common.{String, string_bytes}
use Rattle.std.specs.Global.{Global}
use Rattle.std.specs.Prelude.{IfOk}
use Rattle.std.specs.declared.alloc.AllocError.{AllocError}
use Rattle.st_commands.specs.Lines.{summary_line, verdict_line}
use Rattle.st_commands.specs.Reports.{LineView, line_view, verdict_outcome, TellsPair, IsSaid}
use Rattle.st_commands.specs.Telling.{TellsSummary, TellsVerdict, MakesLine, line_result}
use Rattle.st_commands.specs.declared.outcomes.Line.{Line}
use Rattle.st_commands.specs.declared.outcomes.Outcome.{Outcome}
use Rattle.st_commands.specs.declared.outcomes.Outcome.TheVariants.{Done}
use Rattle.st_commands.specs.declared.outcomes.PairErr.{PairErr}
use Rattle.st_commands.specs.declared.outcomes.PairErr.TheVariants as pair
use Rattle.st_commands.specs.declared.outcomes.Report.TheVariants.{Summaries, Verdicts}

-- an error that says nothing of the file's bytes is no damage
pub not_damaged : (d : Damage) (e : EvalErr) → e ≡ eval.Damaged d → NoDamage e → ⊥
not_damaged d e is none = let no : Some (damage_view d) ≡ None = ap damage_in (sym is) ∙ none in absurd (cc)

-- the line of a summary
pub told_summary : (e : Entry) (stamp : ℕ) (said : Summary) (text : Result (String Global) AllocError) (r : Result Line PairErr) → stamp ≡ e.stamp
    → TellsSummary e.block e.index (Ok said) → IfOk text (λ t. string_bytes t ≡ summary_line stamp (summary_view said)) → MakesLine text Done r
    → TellsPair Summaries e (line_result r)
told_summary e stamp said text (Ok l) same says texts made =
    let written : string_bytes l.text ≡ summary_line stamp (summary_view said) = subst (λ (t : Result (String Global) AllocError). IfOk t (λ t. string_bytes t ≡ summary_line stamp (summary_view said))) made.0 texts in
    let at : summary_line stamp (summary_view said) ≡ summary_line e.stamp (summary_view said) = ap (λ n. summary_line n (summary_view said)) same in
    let is : line_view l ≡ record { text = summary_line e.stamp (summary_view said); outcome = Done } =
    ap (λ (t : List ℕ). let v : LineView = record { text = t; outcome = l.outcome } in v) (written ∙ at)
    ∙ ap (λ (o : Outcome). let v : LineView = record { text = summary_line e.stamp (summary_view said); outcome = o } in v) made.1 in
    (said, says, is)
told_summary e stamp said text (Err x) same says texts made = subst (λ (y : PairErr). TellsPair Summaries e (Err y)) (sym made) tt

pub told_error : (e : Entry) (x : PairErr) → TellsSummary e.block e.index (Err x) → TellsPair Summaries e (Err x)
told_error e pair.DiskFault says = tt
told_error e (pair.Damaged d) says = says
told_error e pair.NoMemory says = tt

-- the line of a verdict
pub told_verdict : (e : Entry) (stamp : ℕ) (v : Verdict) (r : Result LineView PairErr) → stamp ≡ e.stamp → Judges e.block e.index v → TellsVerdict stamp v r
    → TellsPair Verdicts e r
told_verdict e stamp v (Ok l) same judges made =
    (v, judges, made ∙ ap (λ (n : ℕ). let w : LineView = record { text = verdict_line n v; outcome = verdict_outcome n v } in w) same)
told_verdict e stamp v (Err x) same judges made = subst (λ (y : PairErr). TellsPair Verdicts e (Err y)) (sym made) tt

-- what a verdict's line says is no fault
pub verdict_said : (stamp : ℕ) (v : Verdict) → IsSaid (verdict_outcome stamp v)
verdict_said stamp (Whole n) = tt
verdict_said stamp (Differs p d) = tt

pub line_said : (stamp : ℕ) (v : Verdict) (r : Result Line PairErr) → TellsVerdict stamp v (line_result r) → IfOk r (λ l. IsSaid l.outcome)
line_said stamp v (Ok l) made = subst IsSaid (sym (ap (λ (w : LineView). w.outcome) made)) (verdict_said stamp v)
line_said stamp v (Err x) made = tt
