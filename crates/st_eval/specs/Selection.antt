-- What a query selects: of the packets of a pair, the positions of those that match.
use Rattle.std.specs.Prelude.{◌≡◌, ℕ, ◌↔◌, List, Bool, Option, Some, None, IsTrue, Contains, Result, Ok, Err}
use Rattle.st_base.specs.Records.{Rec}
use Rattle.st_tblock.specs.Block.{RowView}
use Rattle.st_block.specs.Scan.{PositionedRecord}
use Rattle.st_query.specs.declared.nodes.Node.{Node}
use Rattle.st_query.specs.Meaning.{Matches}
use Rattle.st_table.specs.TableFile.{IsTable, HasIndex, footer_at}
use Rattle.st_table.specs.Index.{Decodes}
use Rattle.st_table.specs.Marks.{Checked}
use Rattle.st_table.specs.declared.index.IndexEntry.{IndexEntry}
use Rattle.st_rows.specs.Positions.{has, Rising}
use Rattle.st_rows.specs.Rows.{AreRowsOf, PositionsRise, AllFit, SummaryView, IsSummary}
use Rattle.st_eval.specs.Refusals.{NoDamage}
use Rattle.st_eval.specs.declared.errors.EvalErr.{EvalErr}
use Rattle.st_eval.specs.declared.summaries.Summary.{Summary}

-- the packet at this position matches the query
abbrev pub MatchesAt : Node → ℕ → List PositionedRecord → ℕ → Type 0
MatchesAt q now given p = (r : Rec) × Contains given (p, r) × Matches q now r

-- these are the positions of exactly the packets that match the query, and they rise
pub record AreMatching (q : Node) (now : ℕ) (given : List PositionedRecord) (ps : List ℕ) : Type 0
  where
    pub rising : Rising ps
    pub exact : (p : ℕ) → IsTrue (has ps p) ↔ MatchesAt q now given p

-- the content is known, it has this index block, a table was entered over it with these entries,
-- and the data blocks that count as checked hold all their checks
pub record IsEntered (content : Option (List ℕ)) (entries : List IndexEntry) (checked : List Bool)
    (bytes : List ℕ) (index : List RowView) : Type 0 where
  pub known : content ≡ Some bytes
  pub has : HasIndex bytes index
  pub decoded : Decodes index entries
  pub marks : Checked (footer_at bytes) bytes None entries checked

-- such a content is a table of these rows
pub record IsOver (content : Option (List ℕ)) (entries : List IndexEntry) (checked : List Bool)
    (rows : List RowView) : Type 0 where
  pub bytes : List ℕ
  pub index : List RowView
  pub is : IsEntered content entries checked bytes index
  pub table : IsTable bytes rows

-- these are the rows of the index of these packets, whose positions rise and whose numbers fit
pub record IsIndexOf (given : List PositionedRecord) (rows : List RowView) : Type 0 where
  pub are : AreRowsOf given rows
  pub rise : PositionsRise given
  pub fit : AllFit given

-- the positions of the packets that match, or an error that is no damage
abbrev pub Selects : Node → ℕ → List PositionedRecord → Result (List ℕ) EvalErr → Type 0
Selects q now given (Ok ps) = AreMatching q now given ps
Selects q now given (Err e) = NoDamage e

-- what a `Summary` says
abbrev pub summary_view : Summary → SummaryView
summary_view s = record { packets = s.packets; first = s.first; last = s.last }

-- the summary of the packets, or an error that is no damage
abbrev pub Summarizes : List PositionedRecord → Result Summary EvalErr → Type 0
Summarizes given (Ok s) = IsSummary given (summary_view s)
Summarizes given (Err e) = NoDamage e
