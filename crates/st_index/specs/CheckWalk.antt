-- What reading the rows of an index against those that are wanted gives, by `walk`.
use Rattle.std.specs.Prelude.{◌≡◌, ℕ, List, [], ◌++◌, Option, option_map, Result, Ok, Err}
use Rattle.std.specs.Option.{option_or}
use Rattle.st_base.specs.Damages.{DamageView, damage_view}
use Rattle.st_tblock.specs.Block.{RowView}
use Rattle.st_table.specs.Cursor.{CursorView, Goes, IsDone, RefusesNext}
use Rattle.st_table.specs.declared.errors.TableErr.{TableErr}
use Rattle.st_index.specs.CheckRows.{rows_wrong}
use Rattle.st_index.specs.CheckContent.{Remembers}
use Rattle.st_index.specs.declared.checker.walk.Found.{Found}

-- some rows were compared with those wanted, of which these are left: what is wrong with all rows
-- is what is wrong so far, or else with the rows to come, the first of which has this number
pub record Compares (number : ℕ) (d : Option DamageView) (rows left wanted : List RowView)
    : Type 0 where
  pub goes : (more : List RowView)
      → rows_wrong 0 (rows ++ more) wanted ≡ option_or d (rows_wrong number more left)

-- a reading went on and gave these rows to its end, and this is what is wrong with them; or the
-- block after them is refused
abbrev pub Walks : ℕ → List ℕ → List RowView → CursorView → CursorView → List RowView
    → Result Found TableErr → Type 0
Walks limit bytes index old new wanted (Ok f) =
    (rows : List RowView) × Goes limit bytes index old new rows × (new.rows ≡ [])
    × IsDone index new.next new.high × Remembers f.content rows
    × (option_map damage_view f.rows ≡ rows_wrong 0 rows wanted)
Walks limit bytes index old new wanted (Err e) =
    (rows : List RowView) × Goes limit bytes index old new rows
    × RefusesNext limit bytes index new.next e
