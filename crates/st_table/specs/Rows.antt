-- What `rows` finds along a block: the block's own checks, and a check of each row by the index
-- keys around the block. The base is the block's offset in its file.
use Rattle.std.specs.Borrow.{Bor}
use Rattle.std.specs.Option.{option_or}
use Rattle.std.specs.Prelude.{ℕ, ◌+◌, List, [], Bool, if◌then◌else◌, ◌≡◌, All, Option, Some, None, IsTrue, ◌&&◌, Result, Ok, Err, ◌⊎◌}
use Rattle.st_base.specs.Damages.{DamageView, unmet}
use Rattle.st_tblock.specs.Block.{RowView, is_above, is_before, Entry, IsBlock, next_in, key_of, is_had, BlockReading, Rows, start, restarts_in}
use Rattle.st_tblock.specs.Cursor.{damage_at}
use Rattle.st_tblock.specs.EntryCursorView.{EntryCursorView, past_entry}
use Rattle.st_tblock.specs.Lookup.{lookup}
use Rattle.st_tblock.specs.Parsing.{Read}
use Rattle.st_table.specs.Errors.{Damaged, err_view, NoCheckFailed}
use Rattle.st_table.specs.RowOrder.{in_range}
use Rattle.st_table.specs.TableFile.{is_at_most}
use Rattle.st_table.specs.declared.errors.TableErr.{TableErr}

-- the index keys around a data block: that of the block before it, where there is one, and its own
pub record BoundsView : Type 0 where
  pub low : Option (List ℕ)
  pub high : List ℕ

-- a row whose key lies between these
abbrev pub lies_in : BoundsView → RowView → Bool
lies_in a r = is_above a.low r.0 && is_at_most a.high r.0

-- the row that an entry spells
abbrev pub row_of : BlockReading → (Entry × List ℕ) → RowView
row_of w x = (key_of w.last x.0, x.0.value)

-- what is wrong with the next row, by a test of rows: its entry's offset in the file
abbrev pub row_wrong : (RowView → Bool) → ℕ → BlockReading → Read Entry → Option DamageView
row_wrong takes base w None = None
row_wrong takes base w (Some x) = if takes (row_of w x) then None else Some (unmet (base + w.at))

-- the first check that fails at the next entry, or at the block's end
abbrev pub entry_wrong : (RowView → Bool) → ℕ → BlockReading → Option DamageView
entry_wrong takes base w = option_or (damage_at base w w.rest) (row_wrong takes base w (next_in w))

-- a reading of a block has read these rows, each of which passes the test
pub record HasRead (takes : RowView → Bool) (block : List ℕ) (w : BlockReading)
    (rows : List RowView) : Type 0 where
  pub text : List ℕ
  pub restarts : List ℕ
  pub split : restarts_in block ≡ Some (text, restarts)
  pub entries : Rows (start text restarts) rows w
  pub pass : All (λ r. IsTrue (takes r)) rows

-- the first check of a block that fails: that of its restarts, or one after rows that pass
abbrev pub Fails : (RowView → Bool) → ℕ → List ℕ → DamageView → Type 0
Fails takes base block f =
    ((restarts_in block ≡ None) × (f ≡ unmet base))
    ⊎ ((w : BlockReading) × (rows : List RowView) × HasRead takes block w rows
    × (entry_wrong takes base w ≡ Some f))

-- an error on a block at this base: of no check, or of the first check that fails
abbrev pub RefusesBlock : (RowView → Bool) → ℕ → List ℕ → TableErr → Type 0
RefusesBlock takes base block e =
    NoCheckFailed e ⊎ ((f : DamageView) × Fails takes base block f × (err_view e ≡ Damaged f))

-- an error at the next entry: of no check, or of the first check that fails there
abbrev pub RefusesEntry : (RowView → Bool) → EntryCursorView → TableErr → Type 0
RefusesEntry takes s e =
    NoCheckFailed e
    ⊎ ((f : DamageView) × (entry_wrong takes s.base s.reading ≡ Some f) × (err_view e ≡ Damaged f))

-- a cursor goes past the next row, which passes the test, and gives its value; or is at the block's
-- end
abbrev pub StepsOn : (RowView → Bool) → EntryCursorView → EntryCursorView
    → Result (Option (Bor (List ℕ))) TableErr → Type 0
StepsOn takes old new (Ok None) =
    (old.reading.rest ≡ []) × IsTrue (is_had old.reading.at old.reading.left)
StepsOn takes old new (Ok (Some v)) =
    (x : Entry × List ℕ) × (next_in old.reading ≡ Some x) × (x.0.value ≡ v.now)
    × IsTrue (takes (row_of old.reading x)) × (new ≡ past_entry old x)
StepsOn takes old new (Err e) = RefusesEntry takes old e

-- the value of a key in a block, each of whose rows passes the test
abbrev pub ReadsValue : (RowView → Bool) → List ℕ → ℕ → List ℕ → Result (Option (List ℕ)) TableErr
    → Type 0
ReadsValue takes key base block (Ok answer) =
    (rows : List RowView) × IsBlock block rows × All (λ r. IsTrue (takes r)) rows
    × (answer ≡ lookup key rows)
ReadsValue takes key base block (Err e) = RefusesBlock takes base block e

-- the answer for a key after one more row, whose key may be the wanted one
abbrev pub answer_after : List ℕ → RowView → Option (List ℕ) → Option (List ℕ)
answer_after wanted r found =
    if is_before r.0 wanted then found else if is_before wanted r.0 then found else Some r.1

-- a block's rows, each of which passes the test; those between two keys are kept
abbrev pub KeepsRange : (RowView → Bool) → List ℕ → List ℕ → List ℕ → List RowView → Type 0
KeepsRange takes block low high kept =
    (rows : List RowView) × IsBlock block rows × All (λ r. IsTrue (takes r)) rows
    × (kept ≡ in_range low high rows)
