-- What an error of a call on a table says.
use Rattle.std.specs.Prelude.{ℕ, ◌≡◌}
use Rattle.st_base.specs.Damages.{DamageView, damage_view}
use Rattle.st_tblock.specs.declared.cursor.CursorErr.{CursorErr}
use Rattle.st_tblock.specs.declared.cursor.CursorErr.TheVariants as cursor
use Rattle.st_table.specs.declared.errors.TableErr.{TableErr}
use Rattle.st_table.specs.declared.errors.TableErr.TheVariants as error

-- what contracts see of a `TableErr`: its variant and its numbers
pub data TableErrView : Type 0 where
  ReadFault : TableErrView
  Damaged : DamageView → TableErrView
  Compressed : ℕ → TableErrView
  NoMemory : TableErrView

-- what a `TableErr` says
abbrev pub err_view : TableErr → TableErrView
err_view error.ReadFault = ReadFault
err_view (error.Damaged d) = Damaged (damage_view d)
err_view (error.Compressed place) = Compressed place
err_view error.NoMemory = NoMemory

-- an error that says nothing of the file's bytes: the file failed, or memory ran out
abbrev pub NoCheckFailed : TableErr → Type 0
NoCheckFailed error.ReadFault = Unit {0}
NoCheckFailed (error.Damaged d) = ⊥
NoCheckFailed (error.Compressed place) = ⊥
NoCheckFailed error.NoMemory = Unit {0}

-- a table's error says what a cursor's error says
abbrev pub Repeats : CursorErr → TableErr → Type 0
Repeats (cursor.Damaged d) e = err_view e ≡ Damaged (damage_view d)
Repeats cursor.NoMemory e = e ≡ error.NoMemory
