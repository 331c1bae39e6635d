-- What the counts of faults say of the end of a load, and what an end says by itself.
use Rattle.std.specs.Prelude.{◌≡◌, ◌<◌, ◌≤◌, ◌+◌, ◌-◌, ◌^◌, ◌⊎◌, ℕ, ⊤}
use Rattle.st_base.specs.Faults.{Rose}
use Rattle.st_block.specs.declared.format.TheConstants.{BLOCK_HEAD, RECORD_HEAD}
use Rattle.st_pcap.specs.declared.errors.PcapErr.{PcapErr}
use Rattle.st_pcap.specs.declared.errors.PcapErr.TheVariants.{ReadFault, NoMemory}
use Rattle.st_spool.specs.declared.opening.EnterErr.{EnterErr}
use Rattle.st_spool.specs.declared.opening.EnterErr.TheVariants as enter
use Rattle.st_pcap.specs.Reading.{IsOutside}
use Rattle.st_load.specs.declared.ends.LoadEnd.{LoadEnd}
use Rattle.st_load.specs.declared.ends.LoadEnd.TheVariants as end

-- a count never falls; it rose if P, and else it stayed
pub record RoseJustIf (P : Type 0) (before now : ℕ) : Type 0 where
  pub later : before ≤ now
  pub rose : P → Rose before now
  pub still : (P → ⊥) → now ≡ before

-- a count never falls, and it rose if P
pub record RoseIf (P : Type 0) (before now : ℕ) : Type 0 where
  pub later : before ≤ now
  pub rose : P → Rose before now

-- What an end says, whatever is known: an input is refused neither for a fault nor because memory
-- ran out, a packet that is too long fits no block of this size, and no stamp is left only after
-- the greatest.
abbrev pub Says : ℕ → LoadEnd → Type 0
Says size end.Done = ⊤
Says size (end.BadInput e) = IsOutside e → ⊥
Says size (end.TooLong number len) = size < len + (BLOCK_HEAD + RECORD_HEAD)
Says size end.ReadFault = ⊤
Says size end.WriteFault = ⊤
Says size end.DiskFault = ⊤
Says size (end.StampsSpent last) = last ≡ 2 ^ 64 - 1
Says size end.NoMemory = ⊤

-- the load ended because the shelf failed or memory ran out
abbrev pub IsFailure : LoadEnd → Type 0
IsFailure e = (e ≡ end.DiskFault) ⊎ (e ≡ end.NoMemory)

-- how a load ends if a pair could not be published, have its line, or have the oldest pairs removed
-- after it; no stamp is left only after the greatest
abbrev pub IsFinishEnd : LoadEnd → Type 0
IsFinishEnd end.Done = ⊥
IsFinishEnd (end.BadInput e) = ⊥
IsFinishEnd (end.TooLong number len) = ⊥
IsFinishEnd end.ReadFault = ⊥
IsFinishEnd end.WriteFault = ⊤
IsFinishEnd end.DiskFault = ⊤
IsFinishEnd (end.StampsSpent last) = last ≡ 2 ^ 64 - 1
IsFinishEnd end.NoMemory = ⊤

-- how a load ends if the reader fails at the first record
abbrev pub EndsUnread : PcapErr → LoadEnd → Type 0
EndsUnread error ended =
    ((error ≡ ReadFault) × (ended ≡ end.ReadFault))
    ⊎ (((error ≡ NoMemory) × (ended ≡ end.NoMemory))
    ⊎ ((ended ≡ end.BadInput error) × (IsOutside error → ⊥)))

-- how a load ends if its spool can't be opened
abbrev pub EndsUnopened : EnterErr → LoadEnd → Type 0
EndsUnopened enter.DiskFault ended = ended ≡ end.DiskFault
EndsUnopened enter.NoMemory ended = ended ≡ end.NoMemory
