-- What the calls of `builder` require and ensure: which row may be added, what a builder keeps, and
-- which rows and bytes it represents, since it keeps neither.
use Rattle.std.specs.Prelude.{ℕ, ◌+◌, List, ◌++◌, length, ◌≡◌, ◌*◌, ◌<◌, ◌≤◌, ◌^◌, All, Option, Some, None, IsTrue, Result, Ok, Err}
use Rattle.st_tblock.specs.Block.{RowView, key_or_empty, is_above}
use Rattle.st_tblock.specs.Builder.{EntryBlockView, added, block_size, HasRows}
use Rattle.st_tblock.specs.Handles.{handle_text}
use Rattle.st_tblock.specs.declared.handle.Handle.{Handle}
use Rattle.st_table.specs.TableBuilderView.{TableBuilderView, room_of}
use Rattle.st_table.specs.TableFile.{Blocks}
use Rattle.st_table.specs.declared.limits.TheConstants.{BLOCK_SIZE, DATA_INTERVAL, INDEX_INTERVAL, MAX_KEY, VALUE_LIMIT, ROOM_LIMIT}

-- the key of the data block at hand, or where that has none the one before it
abbrev pub later_key : Option (List ℕ) → Option (List ℕ) → Option (List ℕ)
later_key low None = low
later_key low (Some key) = Some key

-- the last key that was added, where there is one
abbrev pub last_added : TableBuilderView → Option (List ℕ)
last_added k = later_key k.index.last k.block.last

-- the row may be added: its key is above the last one and not too long, its value's length fits 32
-- bits, and there is room
pub record MayAdd (k : TableBuilderView) (r : RowView) : Type 0 where
  pub above : IsTrue (is_above (last_added k) r.0)
  pub key : length r.0 ≤ MAX_KEY
  pub value : length r.1 < VALUE_LIMIT
  pub room : k.spent + room_of r < ROOM_LIMIT

-- a key, where there is one, lies above this one
abbrev pub Follows : Option (List ℕ) → Option (List ℕ) → Type 0
Follows low None = Unit {0}
Follows low (Some key) = IsTrue (is_above low key)

-- the block may be named in the index: its last key is above the index's and not too long, and the
-- index has room
pub record MayName (block index : EntryBlockView) : Type 0 where
  pub above : IsTrue (is_above index.last (key_or_empty block.last))
  pub key : length (key_or_empty block.last) ≤ MAX_KEY
  pub room : block_size index < 2 ^ 32

-- a file of this block and this index may be ended, where the next block is at this offset
pub record MayEnd (block index : EntryBlockView) (offset : ℕ) : Type 0 where
  pub order : Follows index.last block.last
  pub key : length (key_or_empty block.last) ≤ MAX_KEY
  pub room : block_size index < 2 ^ 32
  pub at : offset + block_size block < 2 ^ 61

-- what a builder keeps however full its data block is: keys rise, no more is written than the rows
-- have room, and the index has at most 103 bytes for each 4,101 of data, a full block and its five
pub record IsWithinLimits (k : TableBuilderView) : Type 0 where
  pub block : k.block.interval ≡ DATA_INTERVAL
  pub index : k.index.interval ≡ INDEX_INTERVAL
  pub key : length (key_or_empty k.block.last) ≤ MAX_KEY
  pub order : Follows k.index.last k.block.last
  pub spent : k.spent < ROOM_LIMIT
  pub room : k.at + block_size k.block ≤ k.spent + 8
  pub entries : 4101 * block_size k.index ≤ 4101 * 8 + 103 * k.at

-- what every builder keeps: besides, its data block isn't full
pub record IsSteady (k : TableBuilderView) : Type 0 where
  pub sound : IsWithinLimits k
  pub small : block_size k.block < BLOCK_SIZE

-- an index block of this builder names whole data blocks of these bytes, which have these rows
pub record Indexes (index : EntryBlockView) (bytes : List ℕ) (rows : List RowView) : Type 0 where
  pub entries : List RowView
  pub held : HasRows index entries
  pub blocks : Blocks (length bytes) bytes None entries rows

-- these bytes were written for these rows: whole data blocks, which the index names, have the first
-- of them, and the block at hand has the others
pub record Builds (k : TableBuilderView) (bytes : List ℕ) (rows : List RowView) : Type 0 where
  pub done : List RowView
  pub here : List RowView
  pub split : rows ≡ done ++ here
  pub at : k.at ≡ length bytes
  pub index : Indexes k.index bytes done
  pub block : HasRows k.block here
  pub above : All (λ r. IsTrue (is_above k.index.last r.0)) here

-- the index names one more block under this key, or after an error it is as it was
abbrev pub Names : {T E : Type 0} → EntryBlockView → EntryBlockView → List ℕ → Handle → Result T E
    → Type 0
Names old new key h (Ok x) = new ≡ added old key (handle_text h)
Names old new key h (Err e) = new ≡ old
