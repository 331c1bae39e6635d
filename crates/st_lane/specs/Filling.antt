-- What a lane keeps of its records: those of the block at hand, and the index of all of them.
use Rattle.std.specs.Prelude.{◌≡◌, ℕ, ◌+◌, ◌*◌, ◌<◌, ◌≤◌, List, [], ◌∷◌, ◌++◌, length, All, Option, Result, Ok, Err, MatchResult, IsSome}
use Rattle.std.specs.Io.KnownBytes.{Appends}
use Rattle.st_base.specs.Records.{Rec, InRange}
use Rattle.st_block.specs.BlockText.{IsBlockSize, IsShort, room, block_text, blocks}
use Rattle.st_block.specs.Position.{positions}
use Rattle.st_block.specs.Builder.{BlockBuilderView, HoldsRecords}
use Rattle.st_block.specs.Scan.{PositionedRecord, positions_in, records_in}
use Rattle.st_block.specs.declared.format.TheConstants.{MAX_BLOCKS, BLOCK_HEAD}
use Rattle.st_table.specs.declared.build_errors.BuildErr.{BuildErr}
use Rattle.st_table.specs.declared.build_errors.BuildErr.TheVariants as build_err
use Rattle.st_index.specs.Maker.{HasRecords}
use Rattle.st_index.specs.declared.maker.IndexMaker.{IndexMaker}
use Rattle.st_lane.specs.declared.filling.Place.{Place}
use Rattle.st_lane.specs.declared.filling.Place.TheVariants as place

-- the block size, how many blocks the file may have, how many were written; the block at hand; the
-- index of all records; and how many records there are
pub record FillingView : Type 0 where
  pub size : ℕ
  pub most : ℕ
  pub done : ℕ
  pub here : BlockBuilderView
  pub maker : IndexMaker
  pub records : ℕ

-- some blocks without the last
abbrev pub but_last : List (List Rec) → List (List Rec)
but_last [] = []
but_last (b ∷ []) = []
but_last (b ∷ c ∷ bs) = b ∷ but_last (c ∷ bs)

-- the records of the last of some blocks
abbrev pub last_block : List (List Rec) → List Rec
last_block [] = []
last_block (b ∷ []) = b
last_block (b ∷ c ∷ bs) = last_block (c ∷ bs)

-- What is kept is of these records, in their order, and of no others: their file has no more blocks
-- than are allowed, the block at hand holds those of the last one, and the index has each record at
-- its position.
pub record Fills (f : FillingView) (rs : List Rec) : Type 0 where
  pub size : IsBlockSize f.size
  pub allowed : f.most ≤ MAX_BLOCKS
  pub count : f.records ≡ length rs
  pub few : length (blocks f.size rs) ≤ f.most
  pub done : f.done ≡ length (but_last (blocks f.size rs))
  pub here : HoldsRecords f.here (last_block (blocks f.size rs))
  pub given : List PositionedRecord
  pub records : records_in given ≡ rs
  pub positions : positions_in given ≡ positions f.size rs
  pub made : HasRecords f.maker given
  pub range : All InRange rs
  pub short : All (IsShort f.size) rs

-- what always holds of the numbers, also if a block couldn't be written
pub record IsSteady (f : FillingView) : Type 0 where
  pub size : IsBlockSize f.size
  pub same : f.here.size ≡ f.size
  pub most : f.most ≤ MAX_BLOCKS
  pub done : f.done < f.most
  pub used : f.here.used ≤ f.size
  pub begun : BLOCK_HEAD ≤ f.here.used
  pub end : f.maker.end ≤ f.size * f.done + f.here.used
  pub few : f.records ≤ f.size * f.done + f.here.used
  pub some : 1 ≤ f.records → (1 ≤ f.here.count) × IsSome f.maker.summary
  pub none : f.records ≡ 0 → f.here.used ≡ BLOCK_HEAD

-- a file of the lane's records has to end before this one: a block takes it, there are others, but
-- the block at hand has no room for it, and none may follow
pub record IsFull (f : FillingView) (r : Rec) : Type 0 where
  pub short : IsShort f.size r
  pub others : 1 ≤ f.records
  pub room : f.size < f.here.used + room r
  pub last : f.done + 1 ≡ f.most

-- where a record has its place: in the block at hand, if it fits there; else in the next block, or,
-- if none is allowed, nowhere; one that is too long fits no block
abbrev pub IsPlace : FillingView → Rec → Place → Type 0
IsPlace f r place.Here =
    IsShort f.size r × (f.here.used + room r ≤ f.size) × (f.done < f.most)
IsPlace f r place.Next =
    IsShort f.size r × (f.size < f.here.used + room r) × (1 ≤ f.records) × (f.done + 1 < f.most)
IsPlace f r place.Nowhere = IsFull f r
IsPlace f r place.TooLong = IsShort f.size r → ⊥

-- at Ok there is this record after the others, and after an error there are the same ones
abbrev pub Adds : {T E : Type 0} → FillingView → FillingView → Rec → Result T E → Type 0
Adds old new r result =
    (rs : List Rec) → Fills old rs
    → MatchResult result (λ _. Fills new (rs ++ r ∷ [])) (λ _. Fills new rs)

-- At Ok the record begins the next block, and the block at hand was put to a sink. If memory ran
-- out the records are the same. After a fault nothing is said.
abbrev pub Begins : Option (List ℕ) → Option (List ℕ) → FillingView → FillingView → Rec → List Rec
    → Result (Unit {0}) BuildErr → Type 0
Begins before now old new r rs (Ok u) =
    Fills new (rs ++ r ∷ [])
    × Appends before now (block_text old.size old.done (last_block (blocks old.size rs)))
Begins before now old new r rs (Err build_err.WriteFault) = Unit {0}
Begins before now old new r rs (Err build_err.NoMemory) = Fills new rs
