-- A block that is being built.
use Rattle.std.specs.Prelude.{◌≡◌, ℕ, ◌+◌, ◌-◌, ◌≤◌, List, [], ◌∷◌, ◌++◌, length, take, drop, replicate, nat_eq, if◌then◌else◌}
use Rattle.byteorder.specs.Endian.{little_bytes}
use Rattle.st_base.specs.Records.{Rec, time}
use Rattle.st_block.specs.Fields.{text}
use Rattle.st_block.specs.BlockText.{room, used_bytes, record_head, records_fields, last_of}
use Rattle.st_block.specs.declared.format.TheConstants.{MAX_BLOCK, BLOCK_HEAD, RECORD_HEAD}

-- what contracts see of a builder: the block size, how many bytes are used, how many records
-- there are, the offset of the last one's head in the block, the times of the first and the last
-- record, and the bytes
pub record BlockBuilderView : Type 0 where
  pub size : ℕ
  pub used : ℕ
  pub count : ℕ
  pub last : ℕ
  pub first_time : ℕ × ℕ
  pub last_time : ℕ × ℕ
  pub bytes : List ℕ

-- a builder knows the times of the first and the last of these records, and where the last begins
abbrev pub HasEnds : BlockBuilderView → List Rec → Type 0
HasEnds d [] = Unit {0}
HasEnds d (r ∷ rs) =
    (d.first_time ≡ time r) × (d.last_time ≡ time (last_of r rs))
    × (d.last + room (last_of r rs) ≡ used_bytes (r ∷ rs))

-- a builder holds these records, in this order, and no others
pub record HoldsRecords (d : BlockBuilderView) (rs : List Rec) : Type 0 where
  pub used : d.used ≡ used_bytes rs
  pub count : d.count ≡ length rs
  pub head : List ℕ
  pub head_size : length head ≡ BLOCK_HEAD
  pub bytes : d.bytes ≡ head ++ (text (records_fields rs) ++ replicate (d.size - d.used) 0)
  pub ends : HasEnds d rs

-- these bytes with a part written over them, from this offset on
unfoldable pub with_part : ℕ → List ℕ → List ℕ → List ℕ
with_part at part bytes = take at bytes ++ (part ++ drop (at + length part) bytes)

-- these bytes with this distance written into the head of their last record, if there is one
abbrev pub with_distance : ℕ → ℕ → ℕ → List ℕ → List ℕ
with_distance count last distance bytes =
    if nat_eq count 0 then bytes else with_part last (little_bytes 4 distance) bytes

-- these bytes with a record written at this offset, and the distance to it into the one before
abbrev pub with_record : ℕ → ℕ → ℕ → Rec → List ℕ → List ℕ
with_record count last at r bytes =
    with_part (at + RECORD_HEAD) r.body
    (with_part at (text (record_head 0 r)) (with_distance count last (at - last) bytes))

-- a builder keeps its size and its records, as it does when its block is finished
pub record KeepsRecords (old new : BlockBuilderView) : Type 0 where
  pub size : new.size ≡ old.size
  pub used : new.used ≡ old.used
  pub count : new.count ≡ old.count
  pub records : (rs : List Rec) → HoldsRecords old rs → HoldsRecords new rs

-- what always holds of a builder: all its numbers lie within its bytes, and these are as many as
-- its size
pub record IsSoundBuilder (d : BlockBuilderView) : Type 0 where
  pub whole : length d.bytes ≡ d.size
  pub most : d.size ≤ MAX_BLOCK
  pub used : d.used ≤ d.size
  pub last : d.last + 4 ≤ d.used
  pub count : d.count + BLOCK_HEAD ≤ d.used
