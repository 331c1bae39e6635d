-- Which positions the rows of an index select for a query. Nothing here speaks of packets, but the
-- last law.
use Rattle.std.specs.Prelude.{ℕ, ◌↔◌, List, Bool, false, ◌&&◌, ◌||◌, Option, Some, None, IsTrue}
use Rattle.std.specs.List.{list_any}
use Rattle.st_walk.specs.declared.text.Key.{Key}
use Rattle.st_walk.specs.KeyText.{key_text}
use Rattle.st_query.specs.declared.nodes.Node.{Node}
use Rattle.st_query.specs.Trees.{Tree, both, either, one, tree, InRange}
use Rattle.st_tblock.specs.Block.{RowView}
use Rattle.st_table.specs.RowOrder.{in_range}
use Rattle.st_block.specs.Scan.{PositionedRecord}
use Rattle.st_rows.specs.Positions.{has, positions_in}
use Rattle.st_eval.specs.Ranges.{range_of}
use Rattle.st_eval.specs.Selection.{MatchesAt, IsIndexOf}

-- the row's value says the position
abbrev pub row_has : ℕ → RowView → Bool
row_has p row = has (positions_in row.1) p

-- one of the rows between two keys says the position
abbrev pub any_has : List ℕ → List ℕ → List RowView → ℕ → Bool
any_has low high rows p = list_any (row_has p) (in_range low high rows)

-- the rows of a range of keys say the position
abbrev pub picks : List RowView → Option (Key × Key) → ℕ → Bool
picks rows None p = false
picks rows (Some x) p = any_has (key_text x.0) (key_text x.1) rows p

-- the rows select the position for the query: both parts of an `and`, one part or both of an `or`
abbrev pub selects : List RowView → Tree → ℕ → ℕ → Bool
selects rows (both a b) now p = selects rows a now p && selects rows b now p
selects rows (either a b) now p = selects rows a now p || selects rows b now p
selects rows (one q) now p = picks rows (range_of q now) p

-- the rows of packets select the positions of exactly those that match
abbrev pub SelectsMatching : Type 0
SelectsMatching =
    (given : List PositionedRecord) (rows : List RowView) (q : Node) (now p : ℕ)
    → IsIndexOf given rows → InRange (tree q)
    → IsTrue (selects rows (tree q) now p) ↔ MatchesAt q now given p
