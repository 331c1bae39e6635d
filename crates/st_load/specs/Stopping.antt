-- How an input ends a load, by the input's bytes.
use Rattle.std.specs.Prelude.{◌≡◌, ◌+◌, ℕ, List, ◌∷◌, ◌++◌, length, All, ⊤}
use Rattle.st_base.specs.Records.{Rec}
use Rattle.st_block.specs.BlockText.{IsShort}
use Rattle.st_pcap.specs.Input.{End, Whole, Refused, Input}
use Rattle.st_load.specs.declared.ends.LoadEnd.{LoadEnd}
use Rattle.st_load.specs.declared.ends.LoadEnd.TheVariants as end

-- the load was ended by its input: by its end, a refusal, or a record that no block takes
abbrev pub IsInputEnd : LoadEnd → Type 0
IsInputEnd end.Done = ⊤
IsInputEnd (end.BadInput e) = ⊤
IsInputEnd (end.TooLong number len) = ⊤
IsInputEnd end.ReadFault = ⊥
IsInputEnd end.WriteFault = ⊥
IsInputEnd end.DiskFault = ⊥
IsInputEnd (end.StampsSpent last) = ⊥
IsInputEnd end.NoMemory = ⊥

-- After these records the input ends, or goes on with one that is too long for a block of this
-- size and has the number in the load's end.
abbrev pub StopsAfter : ℕ → List ℕ → List Rec → LoadEnd → Type 0
StopsAfter size bytes given end.Done = Input bytes given Whole
StopsAfter size bytes given (end.BadInput e) = Input bytes given (Refused e)
StopsAfter size bytes given (end.TooLong number len) =
    (r : Rec) × (later : List Rec) × (e : End) × Input bytes (given ++ r ∷ later) e
    × (IsShort size r → ⊥) × (len ≡ length r.body) × (number ≡ length given + 1)
StopsAfter size bytes given end.ReadFault = ⊥
StopsAfter size bytes given end.WriteFault = ⊥
StopsAfter size bytes given end.DiskFault = ⊥
StopsAfter size bytes given (end.StampsSpent last) = ⊥
StopsAfter size bytes given end.NoMemory = ⊥

-- A load that was ended by its input, of these bytes, was ended after records that are each short
-- enough for a block of this size.
abbrev pub StopsInput : ℕ → List ℕ → LoadEnd → Type 0
StopsInput size bytes ended =
    IsInputEnd ended
    → (given : List Rec) × All (IsShort size) given × StopsAfter size bytes given ended
