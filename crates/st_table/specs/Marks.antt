-- What `marks` remembers of the data blocks that were checked to their end.
use Rattle.std.specs.Prelude.{ℕ, List, [], ◌∷◌, Bool, Option, Some, IsTrue}
use Rattle.st_tblock.specs.Block.{RowView}
use Rattle.st_table.specs.TableFile.{Stored, Between}
use Rattle.st_table.specs.declared.index.IndexEntry.{IndexEntry}

-- the blocks whose index entries are marked are good and lie between their index keys
abbrev pub Checked : ℕ → List ℕ → Option (List ℕ) → List IndexEntry → List Bool → Type 0
Checked limit bytes low [] marks = Unit {0}
Checked limit bytes low (e ∷ entries) [] = Unit {0}
Checked limit bytes low (e ∷ entries) (m ∷ marks) =
    (IsTrue m → (rows : List RowView) × Stored limit bytes e.handle rows × Between low e.key rows)
    × Checked limit bytes (Some e.key) entries marks
