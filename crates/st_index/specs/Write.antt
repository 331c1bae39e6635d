-- What writing an index puts into its file: the table of a maker's rows.
use Rattle.std.specs.Prelude.{◌≡◌, ℕ, ◌+◌, ◌*◌, ◌<◌, ◌≤◌, ◌^◌, List, [], ◌∷◌, ◌++◌, IsTrue, Contains, Bool, true, false, Option, None, Some, Result, Ok, Err}
use Rattle.std.specs.Io.KnownBytes.{Appends}
use Rattle.st_base.specs.Pieces.{AppendsPrefix}
use Rattle.st_walk.specs.KeyText.{key_text, Fits}
use Rattle.st_block.specs.Scan.{PositionedRecord}
use Rattle.st_block.specs.declared.format.TheConstants.{BLOCK_HEAD}
use Rattle.st_tblock.specs.Block.{RowView, is_above}
use Rattle.st_table.specs.TableFile.{IsTable}
use Rattle.st_table.specs.TableBuilderView.{TableBuilderView, no_rows, room_of, written_by, after_row, finishing}
use Rattle.st_table.specs.Builder.{Builds, last_added}
use Rattle.st_table.specs.declared.limits.TheConstants.{ROOM_LIMIT}
use Rattle.st_rows.specs.Rows.{AreRowsOf}
use Rattle.st_index.specs.EntryLists.{KeyList}
use Rattle.st_index.specs.KeyLists.{Ascend, count_of}
use Rattle.st_index.specs.RowList.{rows_of, summary_row}
use Rattle.st_index.specs.declared.summary.Summary.{Summary}
use Rattle.st_index.specs.declared.maker.IndexMaker.{IndexMaker}

-- a table's builder after these rows
abbrev pub after_rows : TableBuilderView → List RowView → TableBuilderView
after_rows k [] = k
after_rows k (r ∷ rs) = after_rows (after_row k r) rs

-- what these rows write: the data blocks that they fill
abbrev pub rows_text : TableBuilderView → List RowView → List ℕ
rows_text k [] = []
rows_text k (r ∷ rs) = written_by k r ++ rows_text (after_row k r) rs

-- the file of these rows
abbrev pub table_text : List RowView → List ℕ
table_text rows = rows_text no_rows rows ++ finishing (after_rows no_rows rows)

-- the index file of a maker
abbrev pub index_text : IndexMaker → List ℕ
index_text m = table_text (rows_of m)

-- these bytes are a table of exactly the rows of these packets
abbrev pub IsIndexOf : List PositionedRecord → List ℕ → Type 0
IsIndexOf given bytes = (rows : List RowView) × IsTable bytes rows × AreRowsOf given rows

-- a builder that had bytes and rows has these more
abbrev pub BuildsOn : TableBuilderView → TableBuilderView → List ℕ → List RowView → Type 0
BuildsOn old new text rows =
    (bytes : List ℕ) (before : List RowView) → Builds old bytes before
    → Builds new (bytes ++ text) (before ++ rows)

-- the room that a position takes at most: four bytes, and with the first one its row's key of 17
-- bytes and what the table adds to a row
abbrev pub ROOM_OF_POSITION : ℕ
ROOM_OF_POSITION = 53

-- the room that the summary row takes, if it is still to come
abbrev pub summary_room : Option Summary → ℕ
summary_room None = 0
summary_room (Some s) = room_of (summary_row s)

-- A builder may add the rows of this summary, if there is one, and of these lists: the summary row
-- would be the first, the keys are above the last one and rise, and there is room for all.
pub record IsReady (k : TableBuilderView) (summary : Option Summary) (lists : List KeyList) :
    Type 0 where
  pub first : (s : Summary) → summary ≡ Some s → last_added k ≡ None
  pub above : (x : KeyList) → Contains lists x → Fits x.0
      → IsTrue (is_above (last_added k) (key_text x.0))
  pub ascend : Ascend lists
  pub few : 4 * count_of lists + BLOCK_HEAD ≤ 2 ^ 32
  pub room : k.spent + summary_room summary + ROOM_OF_POSITION * count_of lists < ROOM_LIMIT

-- the first of the rows to come is put, or there is none; after an error a prefix of what they all
-- write is there
abbrev pub PutsRow : {E : Type 0} → TableBuilderView → TableBuilderView → List RowView
    → List RowView → Option (List ℕ) → Option (List ℕ) → Result Bool E → Type 0
PutsRow old new left more before now (Ok true) =
    (r : RowView) × (left ≡ r ∷ more) × (new ≡ after_row old r)
    × Appends before now (written_by old r) × BuildsOn old new (written_by old r) (r ∷ [])
PutsRow old new left more before now (Ok false) =
    (left ≡ []) × (new ≡ old) × Appends before now []
PutsRow old new left more before now (Err e) = AppendsPrefix before now (rows_text old left)

-- all rows to come are put, or after an error a prefix of what they write is there
abbrev pub PutsRows : {T E : Type 0} → TableBuilderView → TableBuilderView → List RowView
    → Option (List ℕ) → Option (List ℕ) → Result T E → Type 0
PutsRows old new left before now (Ok u) =
    (new ≡ after_rows old left) × Appends before now (rows_text old left)
    × BuildsOn old new (rows_text old left) left
PutsRows old new left before now (Err e) = AppendsPrefix before now (rows_text old left)
