-- The rows of a maker's index, and what going over them gives.
use Rattle.std.specs.Prelude.{◌≡◌, ◌<◌, List, [], ◌∷◌, length, map, Bool, true, false, Option, None, Some, Result, Ok, Err}
use Rattle.st_walk.specs.KeyText.{key_text, Fits}
use Rattle.st_tblock.specs.Block.{RowView}
use Rattle.st_rows.specs.Positions.{positions_value}
use Rattle.st_rows.specs.Rows.{summary_key, summary_value}
use Rattle.st_index.specs.Summaries.{summary_view}
use Rattle.st_index.specs.EntryLists.{KeyList}
use Rattle.st_index.specs.KeyLists.{key_lists, lists_left}
use Rattle.st_index.specs.declared.summary.Summary.{Summary}
use Rattle.st_index.specs.declared.maker.IndexMaker.{IndexMaker}
use Rattle.st_index.specs.declared.row_list.RowList.{RowList}

-- the summary row
abbrev pub summary_row : Summary → RowView
summary_row s = (summary_key, summary_value (summary_view s))

-- the row of a key and its positions
abbrev pub key_row : KeyList → RowView
key_row x = (key_text x.0, positions_value x.1)

-- the summary row, where there is a summary, before the rows of keys
abbrev pub rows_from : Option Summary → List KeyList → List RowView
rows_from None lists = map key_row lists
rows_from (Some s) lists = summary_row s ∷ map key_row lists

-- the rows of a maker's index
abbrev pub rows_of : IndexMaker → List RowView
rows_of m = rows_from m.summary (key_lists m.lists)

-- the rows that are still to come
abbrev pub rows_left : RowList → List RowView
rows_left w = rows_from w.summary (lists_left w.lists)

-- the row that is held
abbrev pub held_row : RowList → RowView
held_row w = (w.key.items, w.value.items)

-- the first of the rows to come is held then, or there is none
abbrev pub NextRow : {E : Type 0} → List RowView → List RowView → RowList → Result Bool E → Type 0
NextRow left more w (Ok true) = left ≡ held_row w ∷ more
NextRow left more w (Ok false) = (left ≡ []) × (more ≡ [])
NextRow left more w (Err e) = Unit {0}

-- the row that is held is the summary row, or that of the first of these keys, which fits its kind
-- and has positions; the other rows are then those of keys
abbrev pub IsNextOf : Option Summary → List KeyList → RowList → Type 0
IsNextOf (Some s) lists w =
    (w.summary ≡ None) × (lists_left w.lists ≡ lists) × (held_row w ≡ summary_row s)
IsNextOf None lists w =
    (x : KeyList) × (w.summary ≡ None) × (lists ≡ x ∷ lists_left w.lists)
    × (held_row w ≡ key_row x) × Fits x.0 × (0 < length x.1)

-- a row that is given is the next of those to come
abbrev pub RowFits : {E : Type 0} → RowList → RowList → Result Bool E → Type 0
RowFits old new (Ok true) = IsNextOf old.summary (lists_left old.lists) new
RowFits old new (Ok false) = Unit {0}
RowFits old new (Err e) = Unit {0}
