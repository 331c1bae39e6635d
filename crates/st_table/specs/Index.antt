-- What `index` finds in a table's footer and in its index block.
use Rattle.std.specs.Prelude.{ℕ, ◌+◌, List, [], ◌∷◌, length, Bool, if◌then◌else◌, ◌≡◌, ◌≤◌, Option, Some, None, IsTrue, take, drop, Result, Ok, Err, ◌⊎◌, true, false, nat_lt}
use Rattle.st_base.specs.Damages.{DamageView}
use Rattle.st_tblock.specs.Block.{RowView, Entry, IsBlock, next_in, key_of, is_had}
use Rattle.st_tblock.specs.EntryCursorView.{EntryCursorView, past_entry}
use Rattle.st_tblock.specs.Handles.{handle_in, IsHandle, footer_in}
use Rattle.st_tblock.specs.Parsing.{Read}
use Rattle.st_tblock.specs.declared.format.TheConstants.{FOOTER_SIZE}
use Rattle.st_tblock.specs.declared.handle.Handle.{Handle}
use Rattle.st_table.specs.Errors.{TableErrView, Damaged, err_view, NoCheckFailed}
use Rattle.st_table.specs.IndexLookup.{found_at}
use Rattle.st_table.specs.Rows.{RefusesBlock, RefusesEntry, BoundsView}
use Rattle.st_table.specs.Stored.{stored_wrong}
use Rattle.st_table.specs.TableFile.{HasIndex, footer_at}
use Rattle.st_table.specs.declared.errors.TableErr.{TableErr}
use Rattle.st_table.specs.declared.index.IndexEntry.{IndexEntry}

-- what was read leaves nothing after it
abbrev pub is_whole : {X : Type 0} → Read X → Bool
is_whole None = false
is_whole (Some (x, [])) = true
is_whole (Some (x, b ∷ rest)) = false

-- a row whose value is one handle
abbrev pub holds_handle : RowView → Bool
holds_handle r = is_whole (handle_in r.1)

-- these entries are an index's rows, each with its handle
abbrev pub Decodes : List RowView → List IndexEntry → Type 0
Decodes [] [] = Unit {0}
Decodes [] (e ∷ entries) = ⊥
Decodes (r ∷ rows) [] = ⊥
Decodes (r ∷ rows) (e ∷ entries) = (e.key ≡ r.0) × IsHandle r.1 e.handle × Decodes rows entries

-- a cursor goes past the next row, whose value is one handle, or is at the block's end
abbrev pub StepsIndex : EntryCursorView → EntryCursorView → Result (Option IndexEntry) TableErr
    → Type 0
StepsIndex old new (Ok None) =
    (old.reading.rest ≡ []) × IsTrue (is_had old.reading.at old.reading.left)
StepsIndex old new (Ok (Some e)) =
    (x : Entry × List ℕ) × (next_in old.reading ≡ Some x) × (e.key ≡ key_of old.reading.last x.0)
    × IsHandle x.0.value e.handle × (new ≡ past_entry old x)
StepsIndex old new (Err e) = RefusesEntry holds_handle old e

-- a block's rows with their handles
abbrev pub HasEntries : List ℕ → List IndexEntry → Type 0
HasEntries block entries = (rows : List RowView) × IsBlock block rows × Decodes rows entries

-- an error on a block that a handle names: of no check, or of its first check that fails, the last
-- of which is a test of its rows
abbrev pub RefusesStored : (RowView → Bool) → ℕ → List ℕ → Handle → TableErr → Type 0
RefusesStored takes limit bytes h e =
    NoCheckFailed e
    ⊎ ((stored_wrong limit bytes h ≡ Some (err_view e))
    ⊎ ((stored_wrong limit bytes h ≡ None)
    × RefusesBlock takes h.offset (take h.size (drop h.offset bytes)) e))

-- the first check of a footer that fails, with its place in the file
abbrev pub moved : ℕ → Result (Handle × Handle) DamageView → Option TableErrView
moved at (Ok x) = None
moved at (Err f) = Some (Damaged (record { place = at + f.place; found = f.found; want = f.want }))

-- what is wrong with where a table's footer is, or with its bytes
abbrev pub footer_wrong : List ℕ → Option TableErrView
footer_wrong bytes =
    if nat_lt (length bytes) FOOTER_SIZE then
    Some (Damaged (record { place = 0; found = length bytes; want = FOOTER_SIZE }))
    else moved (footer_at bytes) (footer_in (drop (footer_at bytes) bytes))

-- the handle of the index block, from a table's footer
abbrev pub ReadsFooter : List ℕ → Result Handle TableErr → Type 0
ReadsFooter bytes (Ok h) =
    (FOOTER_SIZE ≤ length bytes)
    × ((meta : Handle) × (footer_in (drop (footer_at bytes) bytes) ≡ Ok (meta, h)))
ReadsFooter bytes (Err e) = NoCheckFailed e ⊎ (footer_wrong bytes ≡ Some (err_view e))

-- these entries are those of the index block that the footer names, and both passed their checks
pub record Entered (bytes : List ℕ) (entries : List IndexEntry) : Type 0 where
  pub index : List RowView
  pub has : HasIndex bytes index
  pub decoded : Decodes index entries

-- an error on entering a table: of no check, or of the first check that fails, of its footer or
-- then of its index block
abbrev pub RefusesTable : List ℕ → TableErr → Type 0
RefusesTable bytes e =
    NoCheckFailed e
    ⊎ ((footer_wrong bytes ≡ Some (err_view e))
    ⊎ ((named : Handle) × ReadsFooter bytes (Ok named)
    × RefusesStored holds_handle (footer_at bytes) bytes named e))

-- the index keys around the block of an index entry
abbrev pub around : (Option (List ℕ) × RowView) → BoundsView
around x = record { low = x.0; high = x.1.0 }

-- the index entry of this number names a block by this handle, and these are the index keys around
-- that
pub record IsBlockAt (index : List RowView) (i : ℕ) (a : BoundsView) (h : Handle) : Type 0 where
  pub low : Option (List ℕ)
  pub entry : RowView
  pub here : found_at index i ≡ Some (low, entry)
  pub keys : a ≡ around (low, entry)
  pub named : IsHandle entry.1 h
