-- What a lane takes of an input, and how the reader goes on.
use Rattle.std.specs.Prelude.{◌≡◌, ◌<◌, ◌≤◌, ◌+◌, ◌*◌, ◌⊎◌, ℕ, List, [], ◌∷◌, ◌++◌, length, All, Option, Some, false, ⊤}
use Rattle.st_base.specs.Records.{Rec}
use Rattle.st_block.specs.BlockText.{IsShort}
use Rattle.st_lane.specs.Cut.{EndsList}
use Rattle.st_lane.specs.Lane.{LaneView, Represents}
use Rattle.st_pcap.specs.Reading.{PcapReaderView, HasRead, IsGoing, IsOutside}
use Rattle.st_pcap.specs.declared.errors.PcapErr.{PcapErr}
use Rattle.st_pcap.specs.declared.errors.PcapErr.TheVariants.{ReadFault, NoMemory}
use Rattle.st_pcap.specs.declared.numbers.TheConstants.{RECORD_HEAD_SIZE, MAX_BODY, MAX_INPUT}
use Rattle.st_load.specs.Causes.{Says}
use Rattle.st_load.specs.Stopping.{IsInputEnd, StopsAfter, StopsInput}
use Rattle.st_load.specs.declared.ends.LoadEnd.{LoadEnd}
use Rattle.st_load.specs.declared.ends.LoadEnd.TheVariants as end
use Rattle.st_load.specs.declared.filling.Filled.{Filled}
use Rattle.st_load.specs.declared.filling.Filled.TheVariants as filled

-- the reader gave these records of an input of these bytes, and the source has the rest to come
abbrev pub HasReadTo : PcapReaderView → List ℕ → List Rec → Option (List ℕ) → Type 0
HasReadTo p bytes rs left = (rest : List ℕ) × (left ≡ Some rest) × HasRead p bytes rs rest

-- these records begin with this one, or there are none and this one is too long for a block
abbrev pub Begins : ℕ → Rec → List Rec → Type 0
Begins size first rs =
    ((rs ≡ []) × (IsShort size first → ⊥)) ⊎ ((more : List Rec) × (rs ≡ first ∷ more))

-- What a lane took of an input, from a record on that has this number, of which `Before bytes
-- given` says that it follows these records of these bytes. The lane represents what it took, and
-- then either a record came that begins the next list, or the input stopped.
abbrev pub Fills :
    {T : Type 0} → (T → Option (List ℕ)) → (List ℕ → List Rec → Type 0) → Rec → ℕ → LaneView T
    → PcapReaderView → Option (List ℕ) → Filled → Type 0
Fills {T} written Before first number lane reader left (filled.Ready r) =
    (more : List Rec) × Represents written lane (first ∷ more) × IsShort lane.filling.size r
    × EndsList lane.filling.size lane.filling.most (first ∷ more) r
    × ((bytes : List ℕ) (given : List Rec) → Before bytes given
    → HasReadTo reader bytes (given ++ (first ∷ more ++ r ∷ [])) left)
Fills {T} written Before first number lane reader left (filled.Ended e) =
    (rs : List Rec) × Represents written lane rs × Begins lane.filling.size first rs
    × ((bytes : List ℕ) (given : List Rec) → Before bytes given → number ≡ length given + 1
    → StopsAfter lane.filling.size bytes (given ++ rs) e)
Fills {T} written Before first number lane reader left (filled.Failed e) = ⊤

-- how filling a lane fails: a fault of the input or the shelf, or memory ran out
abbrev pub IsFillFault : LoadEnd → Type 0
IsFillFault end.Done = ⊥
IsFillFault (end.BadInput e) = ⊥
IsFillFault (end.TooLong number len) = ⊥
IsFillFault end.ReadFault = ⊤
IsFillFault end.WriteFault = ⊥
IsFillFault end.DiskFault = ⊤
IsFillFault (end.StampsSpent last) = ⊥
IsFillFault end.NoMemory = ⊤

-- a reader took at least 16 bytes for each of this many records, and no more bytes than an input
-- may have before its last record, and that record
abbrev pub HasCounted : ℕ → PcapReaderView → Type 0
HasCounted number p =
    (RECORD_HEAD_SIZE * number ≤ p.taken) × (p.taken ≤ MAX_INPUT + RECORD_HEAD_SIZE + MAX_BODY)

-- Whatever is known: a lane that is to be published isn't broken, and one that is ready has
-- records. Then the reader goes on, and read a record at least; the record that came has the number
-- of the first one and of those in the lane together.
abbrev pub Leaves :
    {T : Type 0} → ℕ → LaneView T → PcapReaderView → PcapReaderView → Filled → Type 0
Leaves {T} number lane old new (filled.Ready r) =
    (lane.broken ≡ false) × (1 ≤ lane.filling.records) × IsGoing new.phase
    × (old.taken < new.taken) × HasCounted (number + lane.filling.records) new
Leaves {T} number lane old new (filled.Ended e) =
    (lane.broken ≡ false) × IsInputEnd e × Says lane.filling.size e
Leaves {T} number lane old new (filled.Failed e) = IsFillFault e

-- how filling a lane ends if the reader fails: the lane is to be published after a refusal, and to
-- be given up after a fault or without memory
abbrev pub EndsReading : PcapErr → Filled → Type 0
EndsReading error (filled.Ready r) = ⊥
EndsReading error (filled.Ended e) = (e ≡ end.BadInput error) × (IsOutside error → ⊥)
EndsReading error (filled.Failed e) =
    ((error ≡ ReadFault) × (e ≡ end.ReadFault)) ⊎ ((error ≡ NoMemory) × (e ≡ end.NoMemory))

-- Of an input of these bytes the reader gave records that are short enough for a block of this
-- size, and then this record, which has this number.
pub record HasCome (size number : ℕ) (bytes : List ℕ) (r : Rec) (reader : PcapReaderView)
    (left : Option (List ℕ)) : Type 0 where
  pub before : List Rec
  pub short : All (IsShort size) before
  pub read : HasReadTo reader bytes (before ++ r ∷ []) left
  pub is : number ≡ length before + 1

-- Whatever is known of the drafts: how far a lane has come in an input of these bytes, by the
-- number of the record that comes next.
abbrev pub ComesTo : ℕ → ℕ → List ℕ → PcapReaderView → Option (List ℕ) → Filled → Type 0
ComesTo size number bytes reader left (filled.Ready r) = HasCome size number bytes r reader left
ComesTo size number bytes reader left (filled.Ended e) = StopsInput size bytes e
ComesTo size number bytes reader left (filled.Failed e) = ⊤
