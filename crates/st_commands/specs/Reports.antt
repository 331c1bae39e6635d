-- What a command writes of the pairs of a file set, a line for each, by stamp.
use Rattle.std.specs.Prelude.{◌≡◌, ◌⊎◌, ℕ, List, [], ◌∷◌, Option, Result, Ok, Err, string_bytes}
use Rattle.std.specs.List.{flat_map}
use Rattle.std.specs.Io.KnownBytes.{Appends}
use Rattle.st_base.specs.Pieces.{AppendsPrefix}
use Rattle.st_block.specs.Scan.{PositionedRecord}
use Rattle.st_disk.specs.Pairs.{Entry}
use Rattle.st_eval.specs.Selection.{summary_view}
use Rattle.st_eval.specs.declared.summaries.Summary.{Summary}
use Rattle.st_index.specs.Verdict.{Judges}
use Rattle.st_index.specs.declared.checker.Verdict.{Verdict}
use Rattle.st_index.specs.declared.checker.Verdict.TheVariants.{Whole, Differs}
use Rattle.st_rows.specs.Rows.{IsSummary}
use Rattle.st_rows.specs.Whole.{IsWhole}
use Rattle.st_commands.specs.Lines.{summary_line, verdict_line}
use Rattle.st_pairs.specs.Pairs.{IsWholePair}
use Rattle.st_commands.specs.declared.outcomes.Line.{Line}
use Rattle.st_commands.specs.declared.outcomes.Outcome.{Outcome}
use Rattle.st_commands.specs.declared.outcomes.Outcome.TheVariants.{Done, WriteFault, DiskFault, Damaged, NoMemory}
use Rattle.st_commands.specs.declared.outcomes.PairErr.{PairErr}
use Rattle.st_commands.specs.declared.outcomes.PairErr.TheVariants as pair
use Rattle.st_commands.specs.declared.outcomes.Report.{Report}
use Rattle.st_commands.specs.declared.outcomes.Report.TheVariants.{Summaries, Verdicts}

-- what contracts see of a line: its text, and how a command ends by it, unless an earlier line said
-- that its pair is damaged
pub record LineView : Type 0 where
  pub text : List ℕ
  pub outcome : Outcome

-- the view of a line
abbrev pub line_view : Line → LineView
line_view l = record { text = string_bytes l.text; outcome = l.outcome }

-- how a check ends by the verdict on the pair with this stamp
abbrev pub verdict_outcome : ℕ → Verdict → Outcome
verdict_outcome stamp (Whole packets) = Done
verdict_outcome stamp (Differs part d) = Damaged stamp d

-- the summary is that of the pair's packets, if the pair is whole
abbrev pub SummarizesPair : Entry → Summary → Type 0
SummarizesPair e s =
    (given : List PositionedRecord) → IsWhole e.block e.index given
    → IsSummary given (summary_view s)

-- this is the pair's line: of what its summary row says, or of the verdict on it
abbrev pub IsLine : Report → Entry → LineView → Type 0
IsLine Summaries e l =
    (s : Summary) × SummarizesPair e s
    × (l ≡ record { text = summary_line e.stamp (summary_view s); outcome = Done })
IsLine Verdicts e l =
    (v : Verdict) × Judges e.block e.index v
    × (l ≡ record { text = verdict_line e.stamp v; outcome = verdict_outcome e.stamp v })

-- a pair has no line because it is damaged: only if its summary row is asked for, and it isn't
-- whole
abbrev pub HasNoLine : Report → Entry → Type 0
HasNoLine Summaries e = IsWholePair e.block e.index → ⊥
HasNoLine Verdicts e = ⊥

-- an Ok is the pair's line; an error that is damage comes only of a pair that has no line
abbrev pub TellsPair : Report → Entry → Result LineView PairErr → Type 0
TellsPair report e (Ok l) = IsLine report e l
TellsPair report e (Err (pair.Damaged d)) = HasNoLine report e
TellsPair report e (Err other) = Unit {0}

-- these are the lines of the first of the pairs, and the rest are the pairs after those
abbrev pub AreLines : Report → List Entry → List LineView → List Entry → Type 0
AreLines report pairs [] rest = pairs ≡ rest
AreLines report [] (l ∷ lines) rest = ⊥
AreLines report (e ∷ pairs) (l ∷ lines) rest = IsLine report e l × AreLines report pairs lines rest

-- the outcomes that a line may have
abbrev pub IsSaid : Outcome → Type 0
IsSaid Done = Unit {0}
IsSaid WriteFault = ⊥
IsSaid DiskFault = ⊥
IsSaid (Damaged stamp d) = Unit {0}
IsSaid NoMemory = ⊥

-- the text of lines
abbrev pub text_of : List LineView → List ℕ
text_of lines = flat_map (λ (l : LineView). l.text) lines

-- the first of two outcomes, or the next if the first is `Done`
abbrev pub first_of_two : Outcome → Outcome → Outcome
first_of_two Done next = next
first_of_two WriteFault next = WriteFault
first_of_two DiskFault next = DiskFault
first_of_two (Damaged s d) next = Damaged s d
first_of_two NoMemory next = NoMemory

-- how a command ends by these lines: with the first damage, if there is one
abbrev pub outcome_of : List LineView → Outcome
outcome_of [] = Done
outcome_of (l ∷ lines) = first_of_two l.outcome (outcome_of lines)

-- the lines of all pairs were written, and the command ended by them
pub record WritesAll (report : Report) (pairs : List Entry) (old new : Option (List ℕ))
    (outcome : Outcome) : Type 0 where
  pub lines : List LineView
  pub are : AreLines report pairs lines []
  pub says : outcome_of lines ≡ outcome
  pub put : Appends old new (text_of lines)

-- the lines of the first pairs were written whole, but not that of the pair of this stamp, because
-- it is damaged
pub record StopsAt (report : Report) (pairs : List Entry) (old new : Option (List ℕ)) (stamp : ℕ)
    : Type 0 where
  pub lines : List LineView
  pub e : Entry
  pub rest : List Entry
  pub are : AreLines report pairs lines (e ∷ rest)
  pub stamp_is : e.stamp ≡ stamp
  pub none : HasNoLine report e
  pub put : Appends old new (text_of lines)

-- `Put` holds of the text of the lines of the first pairs
pub record WritesSome (report : Report) (pairs : List Entry) (Put : List ℕ → Type 0) : Type 0 where
  pub lines : List LineView
  pub rest : List Entry
  pub are : AreLines report pairs lines rest
  pub put : Put (text_of lines)

-- what a report on these pairs that ended so wrote: all lines, or if it ended early those of the
-- first pairs
abbrev pub Reports :
    Report → List Entry → Option (List ℕ) → Option (List ℕ) → Outcome → Type 0
Reports report pairs old new Done = WritesAll report pairs old new Done
Reports report pairs old new WriteFault = WritesSome report pairs (AppendsPrefix old new)
Reports report pairs old new DiskFault = WritesSome report pairs (Appends old new)
Reports report pairs old new (Damaged stamp d) =
    WritesAll report pairs old new (Damaged stamp d) ⊎ StopsAt report pairs old new stamp
Reports report pairs old new NoMemory = WritesSome report pairs (Appends old new)
