-- Lists of positions, and the bytes by which a row's value says them.
use Rattle.std.specs.Prelude.{ℕ, ◌<◌, List, [], ◌∷◌, Bool, nat_eq, AllPairs}
use Rattle.std.specs.List.{list_any, flat_map}
use Rattle.byteorder.specs.Endian.{big_number, big_bytes}
use Rattle.st_rows.specs.declared.format.TheConstants.{POSITION_SIZE}

-- the position is among these
abbrev pub has : List ℕ → ℕ → Bool
has ps p = list_any (nat_eq p) ps

-- positions strictly rise
abbrev pub Rising : List ℕ → Type 0
Rising ps = AllPairs (λ p q. p < q) ps

-- the value of a row with these positions: four bytes each, the highest first
abbrev pub positions_value : List ℕ → List ℕ
positions_value ps = flat_map (big_bytes POSITION_SIZE) ps

-- the positions that a row's value says; one to three bytes at its end say none
abbrev pub positions_in : List ℕ → List ℕ
positions_in [] = []
positions_in (a ∷ []) = []
positions_in (a ∷ b ∷ []) = []
positions_in (a ∷ b ∷ c ∷ []) = []
positions_in (a ∷ b ∷ c ∷ d ∷ rest) =
    big_number POSITION_SIZE (a ∷ b ∷ c ∷ d ∷ []) ∷ positions_in rest
