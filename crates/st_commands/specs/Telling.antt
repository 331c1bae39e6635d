-- What the calls on one pair ensure.
use Rattle.std.specs.Prelude.{◌≡◌, ℕ, List, Result, Ok, Err, String}
use Rattle.std.specs.Global.{Global}
use Rattle.std.specs.declared.alloc.AllocError.{AllocError}
use Rattle.st_block.specs.Scan.{PositionedRecord}
use Rattle.st_eval.specs.Selection.{summary_view}
use Rattle.st_eval.specs.declared.summaries.Summary.{Summary}
use Rattle.st_index.specs.declared.checker.Verdict.{Verdict}
use Rattle.st_rows.specs.Rows.{IsSummary}
use Rattle.st_rows.specs.Whole.{IsWhole}
use Rattle.st_table.specs.Errors.{NoCheckFailed}
use Rattle.st_table.specs.declared.errors.TableErr.{TableErr}
use Rattle.st_table.specs.declared.errors.TableErr.TheVariants as table
use Rattle.st_commands.specs.Lines.{verdict_line}
use Rattle.st_pairs.specs.Pairs.{IsWholePair}
use Rattle.st_commands.specs.Reports.{LineView, line_view, verdict_outcome}
use Rattle.st_commands.specs.declared.outcomes.Line.{Line}
use Rattle.st_commands.specs.declared.outcomes.Outcome.{Outcome}
use Rattle.st_commands.specs.declared.outcomes.Outcome.TheVariants.{DiskFault, Damaged, NoMemory}
use Rattle.st_commands.specs.declared.outcomes.PairErr.{PairErr}
use Rattle.st_commands.specs.declared.outcomes.PairErr.TheVariants as pair

-- the view of a line, or the error
abbrev pub line_result : Result Line PairErr → Result LineView PairErr
line_result (Ok l) = Ok (line_view l)
line_result (Err e) = Err e

-- an error that is no damage
abbrev pub IsUnhurt : PairErr → Type 0
IsUnhurt pair.DiskFault = Unit {0}
IsUnhurt (pair.Damaged d) = ⊥
IsUnhurt pair.NoMemory = Unit {0}

-- why there is no line if the table fails so: a fault only after a fault, damage only after a check
-- that failed
pub record FailsByTable (error : TableErr) (e : PairErr) : Type 0 where
  pub fault : e ≡ pair.DiskFault → error ≡ table.ReadFault
  pub unhurt : NoCheckFailed error → IsUnhurt e

-- the summary of a pair's packets; if the pair is whole no error is damage
abbrev pub TellsSummary : List ℕ → List ℕ → Result Summary PairErr → Type 0
TellsSummary block index (Ok s) =
    (given : List PositionedRecord) → IsWhole block index given → IsSummary given (summary_view s)
TellsSummary block index (Err e) = IsWholePair block index → IsUnhurt e

-- the line of the pair with this stamp and this verdict, or memory ran out
abbrev pub TellsVerdict : ℕ → Verdict → Result LineView PairErr → Type 0
TellsVerdict stamp v (Ok l) =
    l ≡ record { text = verdict_line stamp v; outcome = verdict_outcome stamp v }
TellsVerdict stamp v (Err e) = e ≡ pair.NoMemory

-- a line of this text and outcome, or memory ran out
abbrev pub MakesLine : Result (String Global) AllocError → Outcome → Result Line PairErr → Type 0
MakesLine text outcome (Ok l) = (text ≡ Ok l.text) × (l.outcome ≡ outcome)
MakesLine text outcome (Err e) = e ≡ pair.NoMemory

-- how a command ends if there is no line of the pair with this stamp, for this cause
abbrev pub Stops : ℕ → PairErr → Outcome → Type 0
Stops stamp pair.DiskFault outcome = outcome ≡ DiskFault
Stops stamp (pair.Damaged d) outcome = outcome ≡ Damaged stamp d
Stops stamp pair.NoMemory outcome = outcome ≡ NoMemory
