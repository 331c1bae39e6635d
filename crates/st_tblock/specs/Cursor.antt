-- What a cursor over a block gives. The base is the block's offset in its file.
use Rattle.std.specs.Prelude.{◌≡◌, ℕ, ◌+◌, List, [], ◌∷◌, Option, Some, None, Result, Ok, Err, if◌then◌else◌, IsTrue}
use Rattle.st_base.specs.Damages.{DamageView, damage_view, unmet}
use Rattle.st_tblock.specs.Parsing.{Read}
use Rattle.st_tblock.specs.EntryCursorView.{EntryCursorView, past_entry}
use Rattle.st_tblock.specs.Block.{RowView, Entry, BlockReading, next_in, key_of, is_had, restarts_in, start}
use Rattle.st_base.specs.declared.damages.Damage.{Damage}
use Rattle.std.specs.Borrow.{Bor}
use Rattle.st_tblock.specs.declared.entry.Parts.{Parts}
use Rattle.st_tblock.specs.declared.cursor.CursorErr.{CursorErr}
use Rattle.st_tblock.specs.declared.cursor.CursorErr.TheVariants.{Damaged, NoMemory}

-- the damage at this offset, where no entry could be read
abbrev pub entry_damage : ℕ → Read Entry → Option DamageView
entry_damage base None = Some (unmet base)
entry_damage base (Some x) = None

-- the first check that fails at the next entry; at the end, that of the restarts, at the block's
-- offset
abbrev pub damage_at : ℕ → BlockReading → List ℕ → Option DamageView
damage_at base w [] = if is_had w.at w.left then None else Some (unmet base)
damage_at base w (b ∷ bytes) = entry_damage (base + w.at) (next_in w)

-- the parts of an entry where they lie
abbrev pub entry_of : Parts → Entry
entry_of p = record { shared = p.shared; unshared = p.unshared.now; value = p.value.now }

-- the next entry and the text after it, or the end, or the check that fails there
abbrev pub Ahead : EntryCursorView → Result (Option (Parts × Bor (List ℕ))) Damage → Type 0
Ahead s (Ok None) = (s.reading.rest ≡ []) × IsTrue (is_had s.reading.at s.reading.left)
Ahead s (Ok (Some x)) = next_in s.reading ≡ Some (entry_of x.0, x.1.now)
Ahead s (Err d) = damage_at s.base s.reading s.reading.rest ≡ Some (damage_view d)

-- a new cursor is before the first entry; it is refused if and only if the restarts don't fit, or
-- don't begin with 0 and rise
abbrev pub Begins : List ℕ → ℕ → Result EntryCursorView Damage → Type 0
Begins bytes base (Ok s) =
    (x : List ℕ × List ℕ) × (restarts_in bytes ≡ Some x)
    × (s ≡ record { base = base; reading = start x.0 x.1 })
Begins bytes base (Err d) = (restarts_in bytes ≡ None) × (damage_view d ≡ unmet base)

-- the next entry's key and value are given, and the reading is past it; else it stays
abbrev pub Gives : EntryCursorView → EntryCursorView → Result (Option RowView) CursorErr → Type 0
Gives old new (Ok None) =
    (old.reading.rest ≡ []) × IsTrue (is_had old.reading.at old.reading.left) × (new ≡ old)
Gives old new (Ok (Some r)) =
    (x : Entry × List ℕ) × (next_in old.reading ≡ Some x)
    × (key_of old.reading.last x.0 ≡ r.0) × (x.0.value ≡ r.1) × (new ≡ past_entry old x)
Gives old new (Err (Damaged d)) =
    (damage_at old.base old.reading old.reading.rest ≡ Some (damage_view d)) × (new ≡ old)
Gives old new (Err NoMemory) = new ≡ old

-- the next entry's value alone is given, where it lies in the block
abbrev pub Steps : EntryCursorView → EntryCursorView → Result (Option (Bor (List ℕ))) CursorErr
    → Type 0
Steps old new (Ok None) =
    (old.reading.rest ≡ []) × IsTrue (is_had old.reading.at old.reading.left) × (new ≡ old)
Steps old new (Ok (Some v)) =
    (x : Entry × List ℕ) × (next_in old.reading ≡ Some x)
    × (x.0.value ≡ v.now) × (new ≡ past_entry old x)
Steps old new (Err (Damaged d)) =
    (damage_at old.base old.reading old.reading.rest ≡ Some (damage_view d)) × (new ≡ old)
Steps old new (Err NoMemory) = new ≡ old
