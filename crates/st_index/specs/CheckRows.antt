-- What is wrong with the rows of an index whose table is good: the summary row's value, the
-- positions of the other rows, and the rows themselves, compared with those of the packets.
use Rattle.std.specs.Prelude.{ℕ, ◌+◌, ◌-◌, ◌%◌, ◌^◌, min, List, [], ◌∷◌, ◌++◌, length, Bool, true, false, ◌&&◌, Option, None, Some, option_map, nat_eq, nat_lt, if◌then◌else◌}
use Rattle.std.specs.Option.{option_or}
use Rattle.byteorder.specs.Endian.{big_bytes, big_number}
use Rattle.st_base.specs.Damages.{DamageView, unmet}
use Rattle.st_tblock.specs.Block.{RowView}
use Rattle.st_block.specs.Fields.{not_same}
use Rattle.st_rows.specs.Positions.{positions_in}
use Rattle.st_rows.specs.declared.format.TheConstants.{SUMMARY_KIND, INDEX_VERSION, POSITION_SIZE, SUMMARY_SIZE}
use Rattle.st_index.specs.declared.checker.difference.TheConstants.{NO_BYTE}

-- this is the key of the summary row
abbrev pub is_summary_key : List ℕ → Bool
is_summary_key [] = false
is_summary_key (b ∷ []) = nat_eq b SUMMARY_KIND
is_summary_key (b ∷ c ∷ key) = false

-- the value of the summary row, where the rows have one
abbrev pub summary_in : List RowView → Option (List ℕ)
summary_in [] = None
summary_in (r ∷ rows) = if is_summary_key r.0 then Some r.1 else summary_in rows

-- the first check of the summary row that fails: that it is there, its value's length, the version
abbrev pub summary_wrong : Option (List ℕ) → Option DamageView
summary_wrong None = Some (unmet 0)
summary_wrong (Some value) =
    option_or (not_same 0 (length value) SUMMARY_SIZE)
    (not_same 0 (big_number POSITION_SIZE value) INDEX_VERSION)

-- each position is above the one before it
abbrev pub rises : List ℕ → Bool
rises [] = true
rises (p ∷ []) = true
rises (p ∷ q ∷ ps) = nat_lt p q && rises (q ∷ ps)

-- the first check of a row's positions that fails: four bytes each, and that they rise
abbrev pub positions_wrong : List ℕ → Option DamageView
positions_wrong value =
    option_or (not_same 0 (length value % POSITION_SIZE) 0)
    (if rises (positions_in value) then None else Some (unmet 0))

-- the first check that fails of a row's positions; the summary row has none
abbrev pub value_wrong : RowView → Option DamageView
value_wrong r = if is_summary_key r.0 then None else positions_wrong r.1

-- the first check that fails of the positions of some rows, row by row
abbrev pub values_wrong : List RowView → Option DamageView
values_wrong [] = None
values_wrong (r ∷ rows) = option_or (value_wrong r) (values_wrong rows)

-- the first check that fails of what the rows of an index say: of the summary row, then of the
-- positions of the others
abbrev pub content_wrong : List RowView → Option DamageView
content_wrong rows = option_or (summary_wrong (summary_in rows)) (values_wrong rows)

-- the length of a key in four bytes, or the greatest number of four bytes where the key is longer
unfoldable pub length_text : List ℕ → List ℕ
length_text key = big_bytes POSITION_SIZE (min (length key) (2 ^ 32 - 1))

-- a row as bytes: the length of its key, the key, and the value
abbrev pub row_text : RowView → List ℕ
row_text r = length_text r.0 ++ (r.0 ++ r.1)

-- the first byte that differs, and what the other bytes have in its place; 256 is no byte
abbrev pub first_difference : List ℕ → List ℕ → Option (ℕ × ℕ)
first_difference [] [] = None
first_difference [] (b ∷ wanted) = Some (NO_BYTE, b)
first_difference (a ∷ found) [] = Some (a, NO_BYTE)
first_difference (a ∷ found) (b ∷ wanted) =
    if nat_eq a b then first_difference found wanted else Some (a, b)

-- the damage at the row of this number, unless its bytes are those wanted
abbrev pub row_wrong : ℕ → List ℕ → List ℕ → Option DamageView
row_wrong number found wanted =
    option_map (λ x. record { place = number; found = x.0; want = x.1 })
    (first_difference found wanted)

-- the damage at the first row that differs from the one wanted, where the first has this number; a
-- row that isn't there has no bytes
abbrev pub rows_wrong : ℕ → List RowView → List RowView → Option DamageView
rows_wrong number [] [] = None
rows_wrong number [] (q ∷ wanted) = row_wrong number [] (row_text q)
rows_wrong number (r ∷ found) [] = row_wrong number (row_text r) []
rows_wrong number (r ∷ found) (q ∷ wanted) =
    option_or (row_wrong number (row_text r) (row_text q)) (rows_wrong (number + 1) found wanted)
