-- What contracts see of a scan, and how its steps change that.
use Rattle.std.specs.Prelude.{◌≡◌, ℕ, ◌+◌, ◌-◌, ◌*◌, ◌%◌, ◌≤◌, ◌<◌, List, [], length, drop, Option, None, Some, Result, Ok, Err, OnOk}
use Rattle.st_base.specs.Faults.{CountsOn}
use Rattle.st_base.specs.PlacedReads.{HasPart}
use Rattle.st_base.specs.Damages.{damage_view}
use Rattle.st_block.specs.BlockText.{IsBlockSize, used_bytes}
use Rattle.st_block.specs.Checks.{room_at, count_of, records_of, block_wrong}
use Rattle.st_block.specs.Layout.{SoundRecordsFit, IsWholeBlock}
use Rattle.st_block.specs.declared.format.TheConstants.{MAX_BLOCKS, BLOCK_HEAD, ALIGNMENT}
use Rattle.st_base.specs.declared.damages.Damage.{Damage}
use Rattle.st_block.specs.declared.errors.BlockErr.{BlockErr}
use Rattle.st_block.specs.declared.errors.BlockErr.TheVariants as block_err

-- what contracts see of a scan: the block size and how many blocks there are; how many were read,
-- and of the last of them the used bytes, the bytes, where in it the next record is and how many
-- records are still to be given; and the damage at which it stopped, if it did
pub record ScanView : Type 0 where
  pub size : ℕ
  pub blocks : ℕ
  pub done : ℕ
  pub before : Option ℕ
  pub block : List ℕ
  pub at : ℕ
  pub left : ℕ
  pub stopped : Option Damage

-- bytes that may not be there yet
abbrev pub bytes_of : Option (List ℕ) → List ℕ
bytes_of None = []
bytes_of (Some bytes) = bytes

-- a scan before the first block
abbrev pub start_view : ℕ → ℕ → ScanView
start_view size blocks =
    record {
      size = size;
      blocks = blocks;
      done = 0;
      before = None;
      block = [];
      at = 0;
      left = 0;
      stopped = None;
    }

-- what always holds of a scan: the records that are still to be given fit the block at hand
pub record IsSoundScan (p : ScanView) : Type 0 where
  pub size : IsBlockSize p.size
  pub sixteen : p.size % ALIGNMENT ≡ 0
  pub blocks : p.blocks ≤ MAX_BLOCKS
  pub done : p.done ≤ p.blocks
  pub held : length p.block ≤ p.size
  pub at : p.at ≤ p.size
  pub begun : 1 ≤ p.left → (1 ≤ p.done) × (BLOCK_HEAD ≤ p.at)
  pub started : p.done ≡ 0 → p.at ≡ 0
  pub stand : SoundRecordsFit p.left (drop p.at p.block)

-- the bytes from the next record on
abbrev pub rest_of_block : ScanView → List ℕ
rest_of_block p = drop p.at p.block

-- the offset in the file that the scan has come to: no record before it is still to be given
abbrev pub reached_offset : ScanView → ℕ
reached_offset p = p.size * (p.done - 1) + p.at

-- the scan after one record more
abbrev pub after_record : ScanView → ScanView
after_record p = record p { at = p.at + room_at (rest_of_block p); left = p.left - 1 }

-- the scan where it was, without the bytes of the block that was read last
abbrev pub without_block : ScanView → ScanView
without_block p = record p { block = [] }

-- these bytes are those of the next block
abbrev pub IsNextBlock : ScanView → Option (List ℕ) → List ℕ → Type 0
IsNextBlock p content block = (length block ≡ p.size) × HasPart content (p.size * p.done) block

-- the scan at the first record of the next block, which has these bytes
abbrev pub in_next_block : ScanView → List ℕ → ScanView
in_next_block p block =
    record p {
      done = p.done + 1;
      before = Some (used_bytes (records_of block));
      block = block;
      at = BLOCK_HEAD;
      left = count_of block;
    }

-- the next block is whole, and the scan is at its first record; or it is damaged, and the scan
-- stops there; or it was not read, and the scan waits to read it again
abbrev pub LoadsBlock : ScanView → Option (List ℕ) → ScanView → Result (Unit {0}) BlockErr → Type 0
LoadsBlock old content new (Ok u) =
    (block : List ℕ) × IsNextBlock old content block
    × (block_wrong old.size old.done old.before block ≡ None) × IsWholeBlock block
    × (new ≡ in_next_block old block)
LoadsBlock old content new (Err (block_err.Damaged d)) =
    (block : List ℕ) × IsNextBlock old content block
    × (block_wrong old.size old.done old.before block ≡ Some (damage_view d))
    × (new.stopped ≡ Some d)
LoadsBlock old content new (Err block_err.ReadFault) = new ≡ without_block old
LoadsBlock old content new (Err block_err.NoMemory) = new ≡ without_block old

-- how many reads a call took that came to read a block: one, unless it ran out of memory
abbrev pub load_reads : {T : Type 0} → Result T BlockErr → ℕ
load_reads (Ok x) = 1
load_reads (Err (block_err.Damaged d)) = 1
load_reads (Err block_err.ReadFault) = 1
load_reads (Err block_err.NoMemory) = 0

-- a call reads the next block at most, once, and only if no record of the block at hand is left;
-- if it succeeds, that block is done, and so is not read again
pub record ReadsOnce {T : Type 0} (old new : ScanView) (result : Result T BlockErr)
    (reads_before reads_now asked_before asked_now : ℕ) : Type 0 where
  pub times : ℕ
  pub once : times ≤ 1
  pub needed : 1 ≤ times → (old.left ≡ 0) × (old.done < old.blocks)
  pub reads : CountsOn reads_before reads_now times
  pub asked : CountsOn asked_before asked_now (old.size * times)
  pub done : OnOk result (new.done ≡ old.done + times)

-- an error that is not the bytes' own: a fault, or no memory
abbrev pub IsNotDamage : BlockErr → Type 0
IsNotDamage (block_err.Damaged d) = ⊥
IsNotDamage block_err.ReadFault = Unit {0}
IsNotDamage block_err.NoMemory = Unit {0}
