-- What a lane represents, and what its calls make of it.
use Rattle.std.specs.Prelude.{◌≡◌, ℕ, ◌+◌, Bool, true, false, List, [], ◌∷◌, ◌++◌, length, Option, Some, Result, Ok, Err}
use Rattle.st_base.specs.Records.{Rec}
use Rattle.st_block.specs.BlockText.{IsShort, blocks, blocks_text}
use Rattle.st_disk.specs.declared.naming.Kind.TheVariants as kind
use Rattle.st_shelf.specs.Origins.{DraftOrigin}
use Rattle.st_lane.specs.Filling.{FillingView, but_last, Fills}
use Rattle.st_lane.specs.declared.errors.Pushed.{Pushed}
use Rattle.st_lane.specs.declared.errors.Pushed.TheVariants.{Kept, Ready}
use Rattle.st_lane.specs.declared.errors.LaneErr.{LaneErr}
use Rattle.st_lane.specs.declared.errors.LaneErr.TheVariants as lane_err

-- what contracts see of a lane: its two drafts, what it keeps of its records, and whether a write
-- failed
pub record LaneView (T : Type 0) : Type 0 where
  pub block : T
  pub index : T
  pub filling : FillingView
  pub broken : Bool

-- the first draft is of a block file, and the other one of an index
abbrev pub AreOfKinds : DraftOrigin → DraftOrigin → Type 0
AreOfKinds block index = (block.kind ≡ kind.Block) × (index.kind ≡ kind.Index)

-- a lane of these drafts that has no records yet
abbrev pub Begun : {T : Type 0} → T → T → ℕ → ℕ → LaneView T → Type 0
Begun block index size most l =
    (l.block ≡ block) × (l.index ≡ index) × (l.filling.size ≡ size) × (l.filling.most ≡ most)
    × (l.filling.records ≡ 0) × (l.broken ≡ false)

-- the lane has the same block size and the same limit of blocks as before, the same index draft,
-- and a block draft of the same origin
abbrev pub IsSameLane : {T : Type 0} → (T → DraftOrigin) → LaneView T → LaneView T → Type 0
IsSameLane origin old new =
    (origin new.block ≡ origin old.block) × (new.index ≡ old.index)
    × (new.filling.size ≡ old.filling.size) × (new.filling.most ≡ old.filling.most)

-- these are the bytes of the file of these records without its last block
abbrev pub IsTextButLast : ℕ → List Rec → Option (List ℕ) → Type 0
IsTextButLast size rs written = written ≡ Some (blocks_text size 0 (but_last (blocks size rs)))

-- A lane that isn't broken represents these records, in this order and no others: the block draft
-- has all blocks of their file but the one at hand, and the index draft has nothing yet.
pub record Represents {T : Type 0} (written : T → Option (List ℕ)) (l : LaneView T)
    (rs : List Rec) : Type 0 where
  pub whole : l.broken ≡ false
  pub fills : Fills l.filling rs
  pub block : IsTextButLast l.filling.size rs (written l.block)
  pub index : written l.index ≡ Some []

-- A push to a lane of these records: the record follows them, or they stay as they were. After a
-- fault nothing is said of the records.
abbrev pub Pushes : {T : Type 0} → (T → Option (List ℕ)) → LaneView T → LaneView T → List Rec → Rec
    → Result Pushed LaneErr → Type 0
Pushes written old new rs r (Ok Kept) = Represents written new (rs ++ r ∷ [])
Pushes written old new rs r (Ok Ready) = new ≡ old
Pushes written old new rs r (Err (lane_err.DiskFault lost)) = Unit {0}
Pushes written old new rs r (Err (lane_err.TooLong len)) = new ≡ old
Pushes written old new rs r (Err lane_err.NoMemory) = Represents written new rs

-- how many records there are after a push: one more if it was kept
abbrev pub pushed_count : ℕ → Result Pushed LaneErr → ℕ
pushed_count n (Ok Kept) = n + 1
pushed_count n (Ok Ready) = n
pushed_count n (Err e) = n

-- `TooLong` comes if and only if the body is too long for a block, and has the body's length
pub record RefusesLong (size : ℕ) (r : Rec) (result : Result Pushed LaneErr) : Type 0 where
  pub long : (IsShort size r → ⊥) → result ≡ Err (lane_err.TooLong (length r.body))
  pub only : (len : ℕ) → result ≡ Err (lane_err.TooLong len)
      → (IsShort size r → ⊥) × (len ≡ length r.body)

-- Whatever is known of the drafts: a fault breaks the lane and says how many records are lost, and
-- nothing else breaks it. If memory runs out nothing is written. `Ready` and `TooLong` leave the
-- lane as it was.
abbrev pub Leaves : {T : Type 0} → LaneView T → LaneView T → Result Pushed LaneErr → Type 0
Leaves old new (Ok Kept) = new.broken ≡ false
Leaves old new (Ok Ready) = new ≡ old
Leaves old new (Err (lane_err.DiskFault lost)) =
    (new.broken ≡ true) × (lost ≡ old.filling.records)
Leaves old new (Err (lane_err.TooLong len)) = new ≡ old
Leaves old new (Err lane_err.NoMemory) = (new.broken ≡ false) × (new.block ≡ old.block)
