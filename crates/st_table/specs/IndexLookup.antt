-- Which block the index names for a key, and what that block says.
use Rattle.std.specs.Prelude.{ℕ, List, [], ◌∷◌, if◌then◌else◌, ◌≡◌, Option, Some, None, take, drop}
use Rattle.st_tblock.specs.Block.{RowView, is_before}
use Rattle.st_tblock.specs.Lookup.{lookup}
use Rattle.st_table.specs.RowOrder.{last_key}
use Rattle.st_table.specs.TableFile.{NamesBlock}

-- the first index entry whose key is not below this one, with the index key before it: the block
-- that may have the key
abbrev pub entry_for : List ℕ → Option (List ℕ) → List RowView → Option (Option (List ℕ) × RowView)
entry_for key low [] = None
entry_for key low (e ∷ index) =
    if is_before e.0 key then entry_for key (Some e.0) index else Some (low, e)

-- the first of the rows that are left, with the key before it
abbrev pub first_after : Option (List ℕ) → List RowView → Option (Option (List ℕ) × RowView)
first_after low [] = None
first_after low (r ∷ rows) = Some (low, r)

-- the index entry of this number, with the index key before it, where there is such an entry
abbrev pub found_at : List RowView → ℕ → Option (Option (List ℕ) × RowView)
found_at index i = first_after (last_key None (take i index)) (drop i index)

-- the answer for a key is its value in the block that the index names for it; where the index names
-- none, there is no value
abbrev pub Named :
    ℕ → List ℕ → List ℕ → Option (List ℕ) → Option (Option (List ℕ) × RowView) → Type 0
Named limit bytes key answer None = answer ≡ None
Named limit bytes key answer (Some x) =
    (here : List RowView) × NamesBlock limit bytes x.0 x.1 here × (answer ≡ lookup key here)
