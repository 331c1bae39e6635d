-- What is wrong with the value of a row: docs/FORMAT.md, "What a reader of rows checks".
use Rattle.std.specs.Prelude.{ℕ, ◌%◌, List, [], ◌∷◌, length, Bool, true, ◌&&◌, nat_lt, if◌then◌else◌, Option, Some, None}
use Rattle.std.specs.Option.{option_or}
use Rattle.byteorder.specs.Endian.{big_number}
use Rattle.st_base.specs.Damages.{DamageView, unmet}
use Rattle.st_block.specs.Fields.{not_same}
use Rattle.st_rows.specs.Positions.{positions_in}
use Rattle.st_rows.specs.declared.format.TheConstants.{INDEX_VERSION, POSITION_SIZE, SUMMARY_SIZE}

-- each position is below the next
abbrev pub rises : List ℕ → Bool
rises [] = true
rises (p ∷ []) = true
rises (p ∷ q ∷ rest) = nat_lt p q && rises (q ∷ rest)

-- what is wrong with the order of positions
abbrev pub order_wrong : List ℕ → Option DamageView
order_wrong ps = if rises ps then None else Some (unmet 0)

-- the first check that fails of the value of a key's row: that it is positions of four bytes each,
-- and that they rise
abbrev pub positions_wrong : List ℕ → Option DamageView
positions_wrong value =
    option_or (not_same 0 (length value % POSITION_SIZE) 0) (order_wrong (positions_in value))

-- the first check that fails of the value of the summary row: that there is one, its length, and
-- the version
abbrev pub summary_wrong : Option (List ℕ) → Option DamageView
summary_wrong None = Some (unmet 0)
summary_wrong (Some value) =
    option_or (not_same 0 (length value) SUMMARY_SIZE)
    (not_same 0 (big_number POSITION_SIZE value) INDEX_VERSION)
