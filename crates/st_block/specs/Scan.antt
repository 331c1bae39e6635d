-- What a scan gives: which records of which bytes, and what each of its calls adds.
use Rattle.std.specs.Prelude.{◌≡◌, ℕ, ◌+◌, ◌-◌, ◌*◌, ◌/◌, ◌^◌, ◌≤◌, List, [], ◌∷◌, ◌++◌, length, take, drop, map, All, Option, None, Some, Result, Ok, Err, nat_lt, if◌then◌else◌}
use Rattle.std.specs.List.{flat_map}
use Rattle.st_base.specs.Records.{Rec, InRange}
use Rattle.st_base.specs.Damages.{damage_view}
use Rattle.st_block.specs.BlockText.{IsBlockSize, IsShort, HasBytes, HasFile, AreFilled, BlockText, blocks_text, used_bytes, room}
use Rattle.st_block.specs.Position.{positions_from, positions_in_blocks, positions}
use Rattle.st_block.specs.Checks.{record_at, records_at, blocks_wrong, size_in, start_wrong, file_wrong}
use Rattle.st_block.specs.Layout.{SoundRecordsFit}
use Rattle.st_block.specs.ScanView.{ScanView, start_view, rest_of_block, reached_offset, after_record}
use Rattle.st_block.specs.declared.format.TheConstants.{MAX_BLOCKS, START, BLOCK_HEAD}
use Rattle.st_base.specs.declared.damages.Damage.{Damage}
use Rattle.st_block.specs.declared.errors.HeadErr.{HeadErr}
use Rattle.st_block.specs.declared.errors.HeadErr.TheVariants as head_err
use Rattle.st_block.specs.declared.errors.BlockErr.{BlockErr}
use Rattle.st_block.specs.declared.errors.BlockErr.TheVariants as block_err

-- a record and its position
abbrev pub PositionedRecord : Type 0
PositionedRecord = ℕ × Rec

-- the positions of the records that were given
abbrev pub positions_in : List PositionedRecord → List ℕ
positions_in given = map (λ x. x.0) given

-- the records that were given, without their positions
abbrev pub records_in : List PositionedRecord → List Rec
records_in given = map (λ x. x.1) given

-- the file is the text of these records, each at its position
pub record IsFile (bytes : List ℕ) (given : List PositionedRecord) : Type 0 where
  pub size : ℕ
  pub file : HasFile size (records_in given)
  pub text : BlockText size (records_in given) ≡ bytes
  pub heads : positions size (records_in given) ≡ positions_in given

-- the used bytes of the last of some blocks
abbrev pub last_used : List (List Rec) → Option ℕ
last_used [] = None
last_used (b ∷ []) = Some (used_bytes b)
last_used (b ∷ c ∷ bs) = last_used (c ∷ bs)

-- A scan that goes on: the blocks that were read are the text of the records that it gave and of
-- those that are still to be given of the last of them, and what is wrong with the file is wrong
-- with the blocks to come.
pub record GoesOn (p : ScanView) (bytes : List ℕ) (given : List PositionedRecord) : Type 0 where
  pub size : IsBlockSize p.size
  pub some : 1 ≤ p.blocks
  pub most : p.blocks ≤ MAX_BLOCKS
  pub done : p.done ≤ p.blocks
  pub whole : length bytes ≡ p.size * p.blocks
  pub wrong : file_wrong bytes
      ≡ blocks_wrong p.size (p.blocks - p.done) p.done p.before (drop (p.size * p.done) bytes)
  pub read : List (List Rec)
  pub fills : AreFilled p.size read
  pub count : length read ≡ p.done
  pub last : last_used read ≡ p.before
  pub text : blocks_text p.size 0 read ≡ take (p.size * p.done) bytes
  pub range : All InRange (flat_map (λ b. b) read)
  pub of_bytes : All HasBytes (flat_map (λ b. b) read)
  pub short : All (IsShort p.size) (flat_map (λ b. b) read)
  pub stand : SoundRecordsFit p.left (rest_of_block p)
  pub records : flat_map (λ b. b) read ≡ records_in given ++ records_at p.left (rest_of_block p)
  pub heads : positions_in_blocks p.size 0 read
      ≡ positions_in given
      ++ positions_from (reached_offset p) (records_at p.left (rest_of_block p))

-- a scan of these bytes has given these records: it goes on, or has stopped at the first damage
-- of the file
abbrev pub HasGivenUntil : Option Damage → ScanView → List ℕ → List PositionedRecord → Type 0
HasGivenUntil None p bytes given = GoesOn p bytes given
HasGivenUntil (Some d) p bytes given = file_wrong bytes ≡ Some (damage_view d)

-- a scan of these bytes has given these records, and goes on or has stopped
abbrev pub HasGiven : ScanView → List ℕ → List PositionedRecord → Type 0
HasGiven p bytes given = HasGivenUntil p.stopped p bytes given

-- what the next call gives of these bytes after these records: one record more with its position;
-- or the end, and then the file is the text of the records given; or the first damage of the
-- file; after a fault, or without memory, the scan has given the same records
abbrev pub GivesNext :
    List ℕ → List PositionedRecord → ScanView → Result (Option PositionedRecord) BlockErr → Type 0
GivesNext bytes given new (Ok None) = IsFile bytes given × HasGiven new bytes given
GivesNext bytes given new (Ok (Some x)) = HasGiven new bytes (given ++ x ∷ [])
GivesNext bytes given new (Err (block_err.Damaged d)) = file_wrong bytes ≡ Some (damage_view d)
GivesNext bytes given new (Err block_err.ReadFault) = HasGiven new bytes given
GivesNext bytes given new (Err block_err.NoMemory) = HasGiven new bytes given

-- the next record of the block at hand, or `NoMemory`, after which the scan is where it was
abbrev pub PassesRecord : ScanView → ScanView → Result (Option PositionedRecord) BlockErr → Type 0
PassesRecord old new (Ok None) = ⊥
PassesRecord old new (Ok (Some x)) =
    (x.0 ≡ reached_offset old) × (x.1 ≡ record_at (rest_of_block old)) × (new ≡ after_record old)
PassesRecord old new (Err (block_err.Damaged d)) = ⊥
PassesRecord old new (Err block_err.ReadFault) = ⊥
PassesRecord old new (Err block_err.NoMemory) = new ≡ old

-- a record begins no earlier than the scan had come, after its block's head, and the scan is then
-- at the end of its zeros, which is at most 2^32
abbrev pub Follows : ScanView → ScanView → PositionedRecord → Type 0
Follows old new x =
    (reached_offset old ≤ x.0) × (BLOCK_HEAD ≤ x.0)
    × (x.0 + room x.1 ≡ reached_offset new) × (reached_offset new ≤ 2 ^ 32)

-- After damage the scan has stopped; from then on it answers the same, and leaves itself and the
-- file as they were.
pub record StaysStopped {F T : Type 0} (old new : ScanView) (file_before file_now : F)
    (result : Result T BlockErr) : Type 0 where
  pub stops : (d : Damage) → result ≡ Err (block_err.Damaged d) → new.stopped ≡ Some d
  pub again : (d : Damage) → old.stopped ≡ Some d
      → (result ≡ Err (block_err.Damaged d)) × (new ≡ old) × (file_now ≡ file_before)

-- how many reads entering a file of this length takes: one, if it is long enough to have a size
abbrev pub start_reads : ℕ → ℕ
start_reads extent = if nat_lt extent START then 0 else 1

-- what entering a file gives: a scan that has given no records yet, or the first damage of the
-- file
abbrev pub Enters : {T : Type 0} → List ℕ → ScanView → Result T HeadErr → Type 0
Enters bytes new (Ok u) = HasGiven new bytes []
Enters bytes new (Err (head_err.Damaged d)) = file_wrong bytes ≡ Some (damage_view d)
Enters bytes new (Err head_err.ReadFault) = Unit {0}

-- a scan that is made has given no records of these bytes; or it is their first damage
abbrev pub EntersNew : List ℕ → Result ScanView HeadErr → Type 0
EntersNew bytes (Ok p) = HasGiven p bytes []
EntersNew bytes (Err (head_err.Damaged d)) = file_wrong bytes ≡ Some (damage_view d)
EntersNew bytes (Err head_err.ReadFault) = Unit {0}

-- what a file's first eight bytes, or as many as it has, and its length give: a scan before the
-- first block, or the first damage before any block
abbrev pub Starts : List ℕ → ℕ → Result ScanView HeadErr → Type 0
Starts head extent (Ok p) =
    (start_wrong head extent ≡ None) × (p ≡ start_view (size_in head) (extent / size_in head))
Starts head extent (Err (head_err.Damaged d)) = start_wrong head extent ≡ Some (damage_view d)
Starts head extent (Err head_err.ReadFault) = ⊥
