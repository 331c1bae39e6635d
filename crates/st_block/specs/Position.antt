-- Where the head of each record lies in a block file.
use Rattle.std.specs.Prelude.{◌≡◌, ℕ, ◌+◌, ◌*◌, List, [], ◌∷◌, ◌++◌, length, slice_index}
use Rattle.st_base.specs.Records.{Rec}
use Rattle.st_block.specs.BlockText.{room, used_bytes, blocks}
use Rattle.st_block.specs.declared.format.TheConstants.{BLOCK_HEAD}

-- the positions of records that follow each other, where the first has this one
abbrev pub positions_from : ℕ → List Rec → List ℕ
positions_from position [] = []
positions_from position (r ∷ rs) = position ∷ positions_from (position + room r) rs

-- the positions of the records of blocks that are numbered from this number on
abbrev pub positions_in_blocks : ℕ → ℕ → List (List Rec) → List ℕ
positions_in_blocks size number [] = []
positions_in_blocks size number (b ∷ bs) =
    positions_from (size * number + BLOCK_HEAD) b ++ positions_in_blocks size (number + 1) bs

-- the positions of the records of a file, in the records' order
abbrev pub positions : ℕ → List Rec → List ℕ
positions size rs = positions_in_blocks size 0 (blocks size rs)

-- the position of the record of this number, counted from 0: the offset of its head in the file
abbrev pub PositionOf : ℕ → List Rec → ℕ → ℕ
PositionOf size rs i = slice_index (positions size rs) i

-- the record that follows these is in the block of this number, at this offset
pub record IsLastAt (size number offset : ℕ) (rs : List Rec) (r : Rec) : Type 0 where
  pub done : List (List Rec)
  pub here : List Rec
  pub split : blocks size (rs ++ r ∷ []) ≡ done ++ (here ++ r ∷ []) ∷ []
  pub before : length done ≡ number
  pub here_used : used_bytes here ≡ offset
