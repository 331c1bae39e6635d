-- Block files: which bytes a file is, from the list of its records. The layout is this project's
-- own, after the blocks of Linux's TPACKET_V3.
use Rattle.std.specs.Prelude.{◌≡◌, ℕ, ◌+◌, ◌-◌, ◌*◌, ◌/◌, ◌^◌, ◌≤◌, ◌<◌, List, [], ◌∷◌, ◌++◌, length, All, nat_le, if◌then◌else◌}
use Rattle.st_base.specs.Records.{Rec, InRange, time}
use Rattle.st_block.specs.Fields.{Field, Number, Any, Nanoseconds, Zeros, Body, text}
use Rattle.st_block.specs.declared.format.TheConstants.{VERSION, MIN_BLOCK, MAX_BLOCK, MAX_BLOCKS, ALIGNMENT, BLOCK_HEAD, BLOCK_STATUS, RECORD_HEAD, HEAD_ZEROS, RECORD_STATUS}

-- a block size: a power of two from 4,096 to 1,048,576 bytes
pub record IsBlockSize (size : ℕ) : Type 0 where
  pub power : ℕ
  pub is : size ≡ 2 ^ power
  pub least : MIN_BLOCK ≤ size
  pub most : size ≤ MAX_BLOCK

-- a length up to the next multiple of 16
abbrev pub padded_len : ℕ → ℕ
padded_len n = (n + (ALIGNMENT - 1)) / ALIGNMENT * ALIGNMENT

-- how many bytes a record takes: its head, its body, and zeros up to a multiple of 16
abbrev pub room : Rec → ℕ
room r = RECORD_HEAD + padded_len (length r.body)

-- how many bytes of a block are used: its head, and those that its records take
abbrev pub used_bytes : List Rec → ℕ
used_bytes [] = BLOCK_HEAD
used_bytes (r ∷ rs) = room r + used_bytes rs

-- the head of a record, 48 bytes: the distance to the next head of the block, seconds,
-- nanoseconds, captured and original length, the status, the offset of the body twice, and zeros
unfoldable pub record_head : ℕ → Rec → List Field
record_head next r =
    Number 4 next ∷ Any 4 r.sec ∷ Nanoseconds r.nsec ∷ Any 4 (length r.body) ∷ Any 4 r.orig
    ∷ Number 4 RECORD_STATUS ∷ Number 2 RECORD_HEAD ∷ Number 2 RECORD_HEAD ∷ Zeros HEAD_ZEROS ∷ []

-- a record: its head, its body, and zeros up to a multiple of 16
abbrev pub record_fields : ℕ → Rec → List Field
record_fields next r =
    record_head next r
    ++ Body r.body ∷ Zeros (padded_len (length r.body) - length r.body) ∷ []

-- how far it is from a record's head to the next one's, and 0 if none follows in the block
abbrev pub distance : Rec → List Rec → ℕ
distance r [] = 0
distance r (q ∷ rs) = room r

-- the records of a block, one after the other
abbrev pub records_fields : List Rec → List Field
records_fields [] = []
records_fields (r ∷ rs) = record_fields (distance r rs) r ++ records_fields rs

-- the last of some records that begin with this one
abbrev pub last_of : Rec → List Rec → Rec
last_of r [] = r
last_of r (q ∷ rs) = last_of q rs

-- the first part of a block's head: layout version, block size, status, number of records, offset
-- of the first, used bytes, and number of the block
abbrev pub head_counts : ℕ → ℕ → ℕ → ℕ → List Field
head_counts size number count used =
    Number 4 VERSION ∷ Number 4 size ∷ Number 4 BLOCK_STATUS ∷ Number 4 count
    ∷ Number 4 BLOCK_HEAD ∷ Number 4 used ∷ Number 8 number ∷ []

-- the other part: the times of the first and of the last record
abbrev pub head_times : ℕ × ℕ → ℕ × ℕ → List Field
head_times first last = Number 4 first.0 ∷ Number 4 first.1 ∷ Number 4 last.0 ∷ Number 4 last.1 ∷ []

-- the head of a block, 48 bytes, from its numbers
unfoldable pub block_head : ℕ → ℕ → ℕ → ℕ → ℕ × ℕ → ℕ × ℕ → List Field
block_head size number count used first last =
    head_counts size number count used ++ head_times first last

-- the head of the block of these records
abbrev pub head_of_block : ℕ → ℕ → Rec → List Rec → List Field
head_of_block size number r rs =
    block_head size number (length (r ∷ rs)) (used_bytes (r ∷ rs)) (time r) (time (last_of r rs))

-- a block of at least one record: its head, its records, and zeros up to its size
abbrev pub block_fields : ℕ → ℕ → List Rec → List Field
block_fields size number [] = []
block_fields size number (r ∷ rs) =
    head_of_block size number r rs
    ++ (records_fields (r ∷ rs) ++ Zeros (size - used_bytes (r ∷ rs)) ∷ [])

-- the bytes of a block with this number
abbrev pub block_text : ℕ → ℕ → List Rec → List ℕ
block_text size number rs = text (block_fields size number rs)

-- The records of each block, if these records are in the block at hand already: the next one
-- joins them if it fits, and else begins the next block.
abbrev pub blocks_from : ℕ → List Rec → List Rec → List (List Rec)
blocks_from size here [] = here ∷ []
blocks_from size here (r ∷ rs) =
    if nat_le (used_bytes here + room r) size then blocks_from size (here ++ r ∷ []) rs
    else here ∷ blocks_from size (r ∷ []) rs

-- the records of each block of a file
abbrev pub blocks : ℕ → List Rec → List (List Rec)
blocks size [] = []
blocks size (r ∷ rs) = blocks_from size (r ∷ []) rs

-- the bytes of blocks whose numbers go on from this one
abbrev pub blocks_text : ℕ → ℕ → List (List Rec) → List ℕ
blocks_text size number [] = []
blocks_text size number (b ∷ bs) = block_text size number b ++ blocks_text size (number + 1) bs

-- the bytes of the file of these records
abbrev pub BlockText : ℕ → List Rec → List ℕ
BlockText size rs = blocks_text size 0 (blocks size rs)

-- a block without other records has room for this one
abbrev pub IsShort : ℕ → Rec → Type 0
IsShort size r = length r.body + (BLOCK_HEAD + RECORD_HEAD) ≤ size

-- a record whose body is of bytes
abbrev pub HasBytes : Rec → Type 0
HasBytes r = All (λ b. b < 256) r.body

-- the first record of the blocks to come has no room after these
abbrev pub NoRoom : ℕ → List Rec → List (List Rec) → Type 0
NoRoom size here [] = Unit {0}
NoRoom size here ([] ∷ bs) = ⊥
NoRoom size here ((r ∷ rs) ∷ bs) = size < used_bytes here + room r

-- Records fill these blocks: each has a record and fits the size, and the first record of each
-- later one has no room in the block before.
abbrev pub AreFilled : ℕ → List (List Rec) → Type 0
AreFilled size [] = Unit {0}
AreFilled size (b ∷ bs) =
    (1 ≤ length b) × (used_bytes b ≤ size) × NoRoom size b bs × AreFilled size bs

-- A file can be made of these records: at least one, each in range, of bytes and short enough for
-- a block, and no more than fill 4,095 blocks.
pub record HasFile (size : ℕ) (rs : List Rec) : Type 0 where
  pub block_size : IsBlockSize size
  pub some : 1 ≤ length rs
  pub range : All InRange rs
  pub of_bytes : All HasBytes rs
  pub short : All (IsShort size) rs
  pub blocks : length (blocks size rs) ≤ MAX_BLOCKS
