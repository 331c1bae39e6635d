-- The verdict on a pair, from that on its index against the rows of the packets.
use Rattle.std.proofs.Common.{◌≡◌, ℕ, List, length, Option, Some, None, Result, Ok, Err, refl, ap, ◌∙◌, arith}
use Rattle.std.specs.Prelude.{IsSome, IfOk}
use Rattle.std.proofs.lemmas.List.{length-map}
use Rattle.st_tblock.specs.Block.{RowView}
use Rattle.st_block.specs.Scan.{PositionedRecord, IsFile, records_in}
use Rattle.st_block.proofs.Unhurt.{file_unhurt}
use Rattle.st_rows.specs.Rows.{AreRowsOf}
use Rattle.st_index.specs.Summaries.{SummaryOf}
use Rattle.st_index.specs.Verdict.{Judges}
use Rattle.st_index.specs.CheckIndex.{JudgesIndex}
use Rattle.st_index.specs.declared.summary.Summary.{Summary}
use Rattle.st_index.specs.declared.checker.Part.TheVariants as part
use Rattle.st_index.specs.declared.checker.CheckErr.{CheckErr}
use Rattle.st_index.specs.declared.checker.Verdict.{Verdict}
use Rattle.st_index.specs.declared.checker.Verdict.TheVariants.{Whole, Differs}
use Rattle.st_index.proofs.PairStands.{whole_by_rows}

-- the packets of a file have a summary
pub some_summary : (block : List ℕ) (given : List PositionedRecord) (s : Option Summary) → IsFile block given → SummaryOf given s → IsSome s
some_summary block given None f none =
    let some = f.file.some in
    let size : length (records_in given) ≡ length given = length-map given (λ (x : PositionedRecord). x.1) in
    let zero : length given ≡ 0 = ap length none in
    absurd (omega arith)
some_summary block given (Some s) f is = refl

-- the verdict on the index is that on the pair
pub judges_pair : (block bytes : List ℕ) (given : List PositionedRecord) (wanted : List RowView) (packets : ℕ) (v : Verdict) → IsFile block given → AreRowsOf given wanted → packets ≡ length given → JudgesIndex bytes wanted packets v → Judges block bytes v
judges_pair block bytes given wanted packets (Whole n) f are count (rows, table, content, same, e) =
    (given, whole_by_rows block bytes given rows wanted f table are same, e ∙ count)
judges_pair block bytes given wanted packets (Differs part.Block d) f are count j = absurd j
judges_pair block bytes given wanted packets (Differs part.Index d) f are count j = (file_unhurt block given f, j)
judges_pair block bytes given wanted packets (Differs part.Rows d) f are count (rows, table, content, differs) =
    record { given = given; file = f; rows = rows; table = table; content = content; wanted = wanted; of_packets = are; differs = differs }

pub judged : (block bytes : List ℕ) (given : List PositionedRecord) (wanted : List RowView) (packets : ℕ) (r : Result Verdict CheckErr) → IsFile block given → AreRowsOf given wanted → packets ≡ length given → IfOk r (JudgesIndex bytes wanted packets) → IfOk r (Judges block bytes)
judged block bytes given wanted packets (Ok v) f are count j = judges_pair block bytes given wanted packets v f are count j
judged block bytes given wanted packets (Err e) f are count j = tt
