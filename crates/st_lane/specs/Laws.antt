-- Laws of lanes and of cuts, which the functions of `laws` ensure.
use Rattle.std.specs.Prelude.{◌≡◌, ℕ, ◌≤◌, Option, List, [], ◌∷◌, ◌++◌, length, All}
use Rattle.st_base.specs.Records.{Rec}
use Rattle.st_block.specs.BlockText.{IsShort, blocks}
use Rattle.st_lane.specs.Cut.{Cut, EndsList}
use Rattle.st_lane.specs.Filling.{FillingView, Fills}
use Rattle.st_lane.specs.Lane.{IsTextButLast}

-- records are cut in one way only
abbrev pub OneCut : Type 0
OneCut =
    (size most : ℕ) (rs : List Rec) (lists others : List (List Rec)) → Cut size most rs lists
    → Cut size most rs others → lists ≡ others

-- no records are cut into no lists
abbrev pub CutOfNone : Type 0
CutOfNone = (size most : ℕ) → Cut size most [] []

-- records of which the file has as many blocks as are allowed, or fewer, are one list
abbrev pub CutEnds : Type 0
CutEnds =
    (size most : ℕ) (rs : List Rec) → All (IsShort size) rs → 1 ≤ length rs
    → length (blocks size rs) ≤ most → Cut size most rs (rs ∷ [])

-- where a list ends before a record, the others are those of that record and all that follow
abbrev pub CutGoesOn : Type 0
CutGoesOn =
    (size most : ℕ) (rs rest : List Rec) (r : Rec) (lists : List (List Rec))
    → All (IsShort size) rs → 1 ≤ length rs → length (blocks size rs) ≤ most
    → EndsList size most rs r → Cut size most (r ∷ rest) lists
    → Cut size most (rs ++ r ∷ rest) (rs ∷ lists)

-- what a lane keeps and what its draft of the block file has are of one list of records only
abbrev pub OneLane : Type 0
OneLane =
    (f : FillingView) (block : Option (List ℕ)) (rs qs : List Rec) → Fills f rs → Fills f qs
    → IsTextButLast f.size rs block → IsTextButLast f.size qs block → rs ≡ qs
