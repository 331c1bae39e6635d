-- The checks of a block file, in their order: the damage is that of the first that fails.
use Rattle.std.specs.Prelude.{ℕ, zero, suc, ◌+◌, ◌-◌, ◌*◌, ◌/◌, min, Bool, List, [], ◌∷◌, length, take, drop, Option, None, Some, nat_eq, nat_lt, if◌then◌else◌}
use Rattle.std.specs.Option.{option_or}
use Rattle.std.specs.List.{list_any}
use Rattle.byteorder.specs.Endian.{little_number}
use Rattle.st_base.specs.Records.{Rec}
use Rattle.st_base.specs.Damages.{DamageView}
use Rattle.st_block.specs.Fields.{not_same, first_wrong}
use Rattle.st_block.specs.BlockText.{padded_len, used_bytes, block_fields}
use Rattle.st_block.specs.declared.format.TheConstants.{VERSION, MIN_BLOCK, BLOCK_SIZES, MAX_BLOCKS, START, BLOCK_HEAD, VERSION_AT, BLOCK_SIZE_AT, COUNT_AT, RECORD_HEAD, SEC_AT, NSEC_AT, LEN_AT, ORIG_AT}

-- a damage of these numbers
abbrev pub damage_at : ℕ → ℕ → ℕ → Option DamageView
damage_at place found want = Some (record { place = place; found = found; want = want })

-- the captured length that the record says with which these bytes begin
unfoldable pub captured_length : List ℕ → ℕ
captured_length bytes = little_number 4 (drop LEN_AT bytes)

-- how many bytes that record takes, by that length
abbrev pub room_at : List ℕ → ℕ
room_at bytes = RECORD_HEAD + padded_len (captured_length bytes)

-- the record with which these bytes begin
unfoldable pub record_at : List ℕ → Rec
record_at bytes =
    record {
      sec = little_number 4 (drop SEC_AT bytes);
      nsec = little_number 4 (drop NSEC_AT bytes);
      orig = little_number 4 (drop ORIG_AT bytes);
      body = take (captured_length bytes) (drop RECORD_HEAD bytes);
    }

-- this many records, one after the other
abbrev pub records_at : ℕ → List ℕ → List Rec
records_at zero bytes = []
records_at (suc n) bytes = record_at bytes ∷ records_at n (drop (room_at bytes) bytes)

-- the number of records that a block's head says
unfoldable pub count_of : List ℕ → ℕ
count_of block = little_number 4 (drop COUNT_AT block)

-- the records of a block
abbrev pub records_of : List ℕ → List Rec
records_of block = records_at (count_of block) (drop BLOCK_HEAD block)

-- The first damage at laying out this many of a block's records, of which the bytes from this
-- offset on are given: where a head passes the block's end it is at the number of records, and
-- where a body with its zeros does, at the captured length.
abbrev pub layout_from : ℕ → ℕ → ℕ → ℕ → List ℕ → Option DamageView
layout_from place count zero at bytes = None
layout_from place count (suc left) at bytes =
    if nat_lt (length bytes) RECORD_HEAD then damage_at (place + COUNT_AT) count (count - suc left)
    else if nat_lt (length bytes) (room_at bytes)
    then damage_at (place + at + LEN_AT) (captured_length bytes) (length bytes - RECORD_HEAD)
    else layout_from place count left (at + room_at bytes) (drop (room_at bytes) bytes)

-- the first damage at the layout of a block that begins at this place of the file: it has a
-- record, and room for all
abbrev pub layout_wrong : ℕ → List ℕ → Option DamageView
layout_wrong place block =
    if nat_eq (count_of block) 0 then damage_at (place + COUNT_AT) 0 1
    else layout_from place (count_of block) (count_of block) BLOCK_HEAD (drop BLOCK_HEAD block)

-- the least captured length of a record that has no room after this many used bytes
abbrev pub least_length : ℕ → ℕ → ℕ
least_length size before = size - (RECORD_HEAD - 1) - before

-- the damage at the first record of a block that follows one with this many used bytes, unless it
-- has no room there
abbrev pub join_wrong : ℕ → ℕ → Option ℕ → List ℕ → Option DamageView
join_wrong size place None block = None
join_wrong size place (Some before) block =
    if nat_lt (captured_length (drop BLOCK_HEAD block)) (least_length size before)
    then damage_at (place + (BLOCK_HEAD + LEN_AT))
    (captured_length (drop BLOCK_HEAD block)) (least_length size before)
    else None

-- the first damage of the block of this number: the layout, then the first record against the
-- block before, then the fields in order of their offsets
unfoldable pub block_wrong : ℕ → ℕ → Option ℕ → List ℕ → Option DamageView
block_wrong size number before block =
    option_or (layout_wrong (size * number) block)
    (option_or (join_wrong size (size * number) before block)
    (first_wrong (size * number) (block_fields size number (records_of block)) block))

-- the first damage of this many blocks, of which the first has this number
abbrev pub blocks_wrong : ℕ → ℕ → ℕ → Option ℕ → List ℕ → Option DamageView
blocks_wrong size zero number before bytes = None
blocks_wrong size (suc left) number before bytes =
    option_or (block_wrong size number before (take size bytes))
    (blocks_wrong size left (number + 1) (Some (used_bytes (records_of (take size bytes))))
    (drop size bytes))

-- one of the nine powers of two from 4,096 to 1,048,576
abbrev pub is_block_size : ℕ → Bool
is_block_size n =
    list_any (λ size. nat_eq size n) BLOCK_SIZES

-- the greatest length of whole blocks, at most 4,095, that is no more than this one; else one
-- block
abbrev pub nearest_length : ℕ → ℕ → ℕ
nearest_length size length =
    if nat_eq (min (length / size) MAX_BLOCKS) 0 then size
    else size * min (length / size) MAX_BLOCKS

-- the damage at a file's length, unless it is that of 1 to 4,095 whole blocks
abbrev pub extent_wrong : ℕ → ℕ → Option DamageView
extent_wrong size length =
    if nat_eq length (nearest_length size length) then None
    else damage_at 0 length (nearest_length size length)

-- the block size that the beginning of a file says
abbrev pub size_in : List ℕ → ℕ
size_in head = little_number 4 (drop BLOCK_SIZE_AT head)

-- the first damage before any block: the layout version, the block size, the file's length
abbrev pub start_wrong : List ℕ → ℕ → Option DamageView
start_wrong head length =
    if nat_lt length START then damage_at 0 length MIN_BLOCK
    else option_or (not_same VERSION_AT (little_number 4 (drop VERSION_AT head)) VERSION)
    (if is_block_size (size_in head) then extent_wrong (size_in head) length
    else damage_at BLOCK_SIZE_AT (size_in head) MIN_BLOCK)

-- the first damage of a file
unfoldable pub file_wrong : List ℕ → Option DamageView
file_wrong bytes =
    option_or (start_wrong (take START bytes) (length bytes))
    (blocks_wrong (size_in (take START bytes)) (length bytes / size_in (take START bytes)) 0 None
    bytes)
