-- What contracts see of a cursor over a block.
use Rattle.std.specs.Prelude.{ℕ, List}
use Rattle.st_tblock.specs.Block.{Entry, BlockReading, past}

-- a cursor: its block's offset in the file, and how far the block was read
pub record EntryCursorView : Type 0 where
  pub base : ℕ
  pub reading : BlockReading

-- the cursor past an entry that was read
abbrev pub past_entry : EntryCursorView → (Entry × List ℕ) → EntryCursorView
past_entry s x = record { base = s.base; reading = past s.reading x }
