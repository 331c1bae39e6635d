-- What a crash may leave under the three names of a stamp.
use Rattle.std.specs.Prelude.{◌≡◌, ◌⊎◌, ℕ, List, Option, None, Some, cond, nat_eq}
use Rattle.st_disk.specs.declared.naming.Name.TheVariants.{Block, Index, Parked}
use Rattle.st_disk.specs.Folders.{Folder}
use Rattle.st_disk.specs.Disks.{Log}
use Rattle.st_disk.specs.Events.{Event}
use Rattle.st_disk.specs.Runs.{Ran}
use Rattle.st_disk.specs.Pairs.{Entry, Files, IsFileSet, files_at, PairsIn}

-- What is there under the three names of a stamp, its block, its index and its parked index. Free:
-- nothing. Half: perhaps the index. Coming: perhaps the block, perhaps the index. Pair: the block
-- and the index. Going: the block, and the index under either of its names. Held: the block and the
-- parked index. The other three rows leave open what they don't name. Past: no index. Lone: no
-- block. Both: the block and the index.
pub data Row : Type 0 where
  Free : Row
  Half : Files → Row
  Coming : Files → Row
  Pair : Files → Row
  Going : Files → Row
  Held : Files → Row
  Past : Row
  Lone : Row
  Both : Files → Row

-- these may be the block, the index and the parked index of a stamp with this row
abbrev pub Fits : Row → Option (List ℕ) → Option (List ℕ) → Option (List ℕ) → Type 0
Fits Free b i p = (b ≡ None) × (i ≡ None) × (p ≡ None)
Fits (Half f) b i p = (b ≡ None) × ((i ≡ None) ⊎ (i ≡ Some f.index)) × (p ≡ None)
Fits (Coming f) b i p =
    ((b ≡ None) ⊎ (b ≡ Some f.block)) × ((i ≡ None) ⊎ (i ≡ Some f.index)) × (p ≡ None)
Fits (Pair f) b i p = (b ≡ Some f.block) × (i ≡ Some f.index) × (p ≡ None)
Fits (Going f) b i p =
    (b ≡ Some f.block) × (((i ≡ Some f.index) × (p ≡ None)) ⊎ ((i ≡ None) × (p ≡ Some f.index)))
Fits (Held f) b i p = (b ≡ Some f.block) × (i ≡ None) × (p ≡ Some f.index)
Fits Past b i p = i ≡ None
Fits Lone b i p = b ≡ None
Fits (Both f) b i p = (b ≡ Some f.block) × (i ≡ Some f.index)

-- under the names of each stamp a folder has what its row allows
abbrev pub Has : (ℕ → Row) → Folder → Type 0
Has rows c = (s : ℕ) → Fits (rows s) (c (Block s)) (c (Index s)) (c (Parked s))

-- the rows with another one at a stamp
abbrev pub set_row : (ℕ → Row) → ℕ → Row → ℕ → Row
set_row rows t r s = cond (nat_eq t s) r (rows s)

-- the pair of a row, if an event in doubt didn't happen
abbrev pub pair_before : Row → Option Files
pair_before Free = None
pair_before (Half f) = None
pair_before (Coming f) = None
pair_before (Pair f) = Some f
pair_before (Going f) = Some f
pair_before (Held f) = None
pair_before Past = None
pair_before Lone = None
pair_before (Both f) = Some f

-- the pair of a row, if an event in doubt happened
abbrev pub pair_after : Row → Option Files
pair_after Free = None
pair_after (Half f) = None
pair_after (Coming f) = Some f
pair_after (Pair f) = Some f
pair_after (Going f) = None
pair_after (Held f) = None
pair_after Past = None
pair_after Lone = None
pair_after (Both f) = Some f

-- no event is in doubt: each row has the same pair, or none, whether the event happened or not
abbrev pub AreSure : (ℕ → Row) → Type 0
AreSure rows = (s : ℕ) → pair_after (rows s) ≡ pair_before (rows s)

-- this is the file set of the rows, if an event in doubt didn't happen
pub record IsSetOf (rows : ℕ → Row) (set : List Entry) : Type 0 where
  pub rises : IsFileSet set
  pub each : (s : ℕ) → files_at s set ≡ pair_before (rows s)

-- a folder has the pairs of one set or those of the other
abbrev pub Either : List Entry → List Entry → Folder → Type 0
Either set other c = PairsIn c set ⊎ PairsIn c other

-- a run of calls during which each crash leaves what the first rows allow, and after which a crash
-- leaves what the second rows allow
abbrev pub RanBy : Log → Option Log → List Event → (ℕ → Row) → (ℕ → Row) → Type 0
RanBy first known es rows now = Ran first known es (Has rows) (Has now)
