-- What checking an index against the rows that are wanted gives, by `index`.
use Rattle.std.specs.Prelude.{◌≡◌, ℕ, List, None, Some, option_map, Result, Ok, Err}
use Rattle.st_base.specs.Damages.{damage_view}
use Rattle.st_tblock.specs.Block.{RowView}
use Rattle.st_table.specs.TableFile.{IsTable}
use Rattle.st_table.specs.declared.errors.TableErr.{TableErr}
use Rattle.st_table.specs.declared.errors.TableErr.TheVariants as table_err
use Rattle.st_index.specs.CheckRows.{content_wrong, rows_wrong}
use Rattle.st_index.specs.CheckContent.{Remembers}
use Rattle.st_index.specs.Verdict.{IsDamage, RefusesData, FailsAsIndex}
use Rattle.st_index.specs.declared.checker.Part.TheVariants as part
use Rattle.st_index.specs.declared.checker.Verdict.{Verdict}
use Rattle.st_index.specs.declared.checker.Verdict.TheVariants.{Whole, Differs}
use Rattle.st_index.specs.declared.checker.CheckErr.{CheckErr}
use Rattle.st_index.specs.declared.checker.CheckErr.TheVariants as check_err
use Rattle.st_index.specs.declared.checker.walk.Found.{Found}

-- all rows of a table were read, and this is what is wrong with them; or one of its data blocks is
-- refused
abbrev pub ReadsTable : List ℕ → List RowView → Result Found TableErr → Type 0
ReadsTable bytes wanted (Ok f) =
    (rows : List RowView) × IsTable bytes rows × Remembers f.content rows
    × (option_map damage_view f.rows ≡ rows_wrong 0 rows wanted)
ReadsTable bytes wanted (Err e) = RefusesData bytes e

-- a table's error is the verdict that its check fails, or an error of the same cause
abbrev pub Refuses : TableErr → Result Verdict CheckErr → Type 0
Refuses e (Ok (Whole packets)) = ⊥
Refuses e (Ok (Differs part.Block d)) = ⊥
Refuses e (Ok (Differs part.Index d)) = IsDamage e (damage_view d)
Refuses e (Ok (Differs part.Rows d)) = ⊥
Refuses e (Err check_err.ReadFault) = e ≡ table_err.ReadFault
Refuses e (Err check_err.NoMemory) = e ≡ table_err.NoMemory

-- the verdict on an index whose rows are to be these, of this number of packets
abbrev pub JudgesIndex : List ℕ → List RowView → ℕ → Verdict → Type 0
JudgesIndex bytes wanted packets (Whole n) =
    (rows : List RowView) × IsTable bytes rows × (content_wrong rows ≡ None)
    × (rows_wrong 0 rows wanted ≡ None) × (n ≡ packets)
JudgesIndex bytes wanted packets (Differs part.Block d) = ⊥
JudgesIndex bytes wanted packets (Differs part.Index d) = FailsAsIndex bytes (damage_view d)
JudgesIndex bytes wanted packets (Differs part.Rows d) =
    (rows : List RowView) × IsTable bytes rows × (content_wrong rows ≡ None)
    × (rows_wrong 0 rows wanted ≡ Some (damage_view d))

-- the verdict on what is wrong with the rows of a table
abbrev pub JudgesFound : Found → ℕ → Verdict → Type 0
JudgesFound f packets v =
    (bytes : List ℕ) (rows wanted : List RowView) → IsTable bytes rows → Remembers f.content rows
    → option_map damage_view f.rows ≡ rows_wrong 0 rows wanted → JudgesIndex bytes wanted packets v
