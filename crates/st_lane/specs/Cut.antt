-- How records are cut into pairs: each pair takes as many of those to come as its file has blocks
-- for.
use Rattle.std.specs.Prelude.{◌≡◌, ℕ, ◌<◌, ◌≤◌, List, [], ◌∷◌, ◌++◌, length, All}
use Rattle.st_base.specs.Records.{Rec}
use Rattle.st_block.specs.BlockText.{IsShort, blocks}

-- The list `first` is the longest prefix of `first ++ rest` whose file has at most `most` blocks: a
-- file of it and of one or more of the rest has more. It has at least one record.
pub record IsLongest (size most : ℕ) (first rest : List Rec) : Type 0 where
  pub some : 1 ≤ length first
  pub fits : length (blocks size first) ≤ most
  pub longest : (more left : List Rec) → rest ≡ more ++ left → 1 ≤ length more
      → most < length (blocks size (first ++ more))

-- records in lists, of which each is the longest prefix of the records that are left
abbrev pub AreLongest : ℕ → ℕ → List (List Rec) → List Rec → Type 0
AreLongest size most [] rs = rs ≡ []
AreLongest size most (first ∷ lists) rs =
    (rest : List Rec) × (rs ≡ first ++ rest) × IsLongest size most first rest
    × AreLongest size most lists rest

-- the records of each pair, where a block has this size and a file at most this many blocks; each
-- record is short enough for a block
pub record Cut (size most : ℕ) (rs : List Rec) (lists : List (List Rec)) : Type 0 where
  pub short : All (IsShort size) rs
  pub are : AreLongest size most lists rs

-- The file of these records and of this one has more than `most` blocks. So a list of the cut that
-- begins with these records ends with them, if this record is the next.
abbrev pub EndsList : ℕ → ℕ → List Rec → Rec → Type 0
EndsList size most rs r = most < length (blocks size (rs ++ r ∷ []))
