use Rattle.std.proofs.Common.{sym, subst}
use Rattle.st_commands.specs.Reports.{TellsPair}
use Rattle.st_commands.specs.Telling.{line_result}
use Rattle.st_commands.specs.declared.outcomes.Report.{Report}
use Rattle.std.specs.Prelude.{Err}
use Rattle.st_commands.proofs.Telling.{told_summary, told_error, told_verdict}
use Rattle.st_commands.proofs.pairs.line_at.Goals as goal

pub returns-in-Ok-clause-tells : goal.returns-in-Ok-clause-tells
returns-in-Ok-clause-tells g c = λ log earlier h f e after known stands is.
    subst (λ (r : Report). TellsPair r e (line_result c.line.result)) (sym c.in-Summaries.is)
    (told_summary e c.stamp_of-stamp.result c.in-Ok.said c.summary_text.result c.line.result
    (c.stamp_of-stamp.ensures earlier h f e after stands is) (c.in-Ok.ensures.says log earlier h f e after known stands is) c.summary_text.ensures c.line.ensures)

pub returns-in-Err-clause-tells : goal.returns-in-Err-clause-tells
returns-in-Err-clause-tells g c = λ log earlier h f e after known stands is.
    subst (λ (r : Report). TellsPair r e (Err c.in-Err.error)) (sym c.in-Summaries.is)
    (told_error e c.in-Err.error (c.in-Err.ensures.says log earlier h f e after known stands is))

pub returns-in-Ok-verdict_at-clause-tells : goal.returns-in-Ok-verdict_at-clause-tells
returns-in-Ok-verdict_at-clause-tells g c = λ log earlier h f e after known stands is.
    subst (λ (r : Report). TellsPair r e (line_result c.line_of_verdict.result)) (sym c.in-Verdicts.is)
    (told_verdict e c.stamp_of-stamp.result c.in-Ok-verdict_at.verdict (line_result c.line_of_verdict.result)
    (c.stamp_of-stamp.ensures earlier h f e after stands is) (c.in-Ok-verdict_at.ensures.judges log earlier h f e after known stands is) c.line_of_verdict.ensures.tells)
