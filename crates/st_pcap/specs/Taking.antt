-- How many bytes a call of a reader takes of its source.
use Rattle.std.specs.Prelude.{Option, ◌≡◌, ℕ, ◌+◌, ◌-◌, ◌<◌, ◌≤◌, ◌⊎◌, List, length, drop, ⊤, None, Some, Result, Ok, Err}
use Rattle.st_base.specs.Records.{Rec}
use Rattle.st_pcap.specs.declared.errors.PcapErr.{PcapErr}
use Rattle.st_pcap.specs.declared.errors.PcapErr.TheVariants.{ReadFault, NotPcap, Version, LinkType, BadFraction, TooLong, Truncated, TooMuch, NoMemory}
use Rattle.st_pcap.specs.declared.forms.Form.{Form}
use Rattle.st_pcap.specs.declared.reader.Phase.{Phase}
use Rattle.st_pcap.specs.declared.reader.Phase.TheVariants.{Fresh, Open, Stopped}
use Rattle.st_pcap.specs.declared.numbers.TheConstants.{FILE_HEAD_SIZE, RECORD_HEAD_SIZE, MAX_BODY}

-- where the source's bytes are known, it lost as many of the first of them as the count rose by
abbrev pub Took : Option (List ℕ) → Option (List ℕ) → ℕ → ℕ → Type 0
Took None new before now = ⊤
Took (Some xs) None before now = ⊥
Took (Some xs) (Some ys) before now =
    (before + length xs ≡ now + length ys) × (ys ≡ drop (now - before) xs)

-- What is taken where the file head is refused: all of it once its version or link type is looked
-- at, else no more than came. No other cause refuses a file head.
abbrev pub RefusesHead : ℕ → ℕ → PcapErr → Type 0
RefusesHead before now ReadFault = now ≤ before + FILE_HEAD_SIZE
RefusesHead before now (NotPcap found) = now ≤ before + FILE_HEAD_SIZE
RefusesHead before now (Version major minor) = now ≡ before + FILE_HEAD_SIZE
RefusesHead before now (LinkType found) = now ≡ before + FILE_HEAD_SIZE
RefusesHead before now (Truncated number have want) = (number ≡ 0) × (now ≡ before + have)
RefusesHead before now (BadFraction number found) = ⊥
RefusesHead before now (TooLong number len) = ⊥
RefusesHead before now (TooMuch taken) = ⊥
RefusesHead before now NoMemory = ⊥

-- What is taken from where a record would begin, if that is refused: nothing where too much was
-- taken before, the record's head and no byte of its body where a field is out of range or memory
-- is out, and what came where the input is cut. No other cause refuses a record.
abbrev pub RefusesRecord : ℕ → ℕ → PcapErr → Type 0
RefusesRecord begin now ReadFault = now ≤ begin + RECORD_HEAD_SIZE + MAX_BODY
RefusesRecord begin now (BadFraction number found) = now ≡ begin + RECORD_HEAD_SIZE
RefusesRecord begin now (TooLong number len) = now ≡ begin + RECORD_HEAD_SIZE
RefusesRecord begin now NoMemory = now ≡ begin + RECORD_HEAD_SIZE
RefusesRecord begin now (Truncated number have want) = (0 < number) × (now ≡ begin + have)
RefusesRecord begin now (TooMuch taken) = now ≡ begin
RefusesRecord begin now (NotPcap found) = ⊥
RefusesRecord begin now (Version major minor) = ⊥
RefusesRecord begin now (LinkType found) = ⊥

-- what is taken from where a record would begin: nothing at the end, else the record, or what its
-- refusal says
abbrev pub TakesRecord : ℕ → ℕ → Result (Option Rec) PcapErr → Type 0
TakesRecord begin now (Ok None) = now ≡ begin
TakesRecord begin now (Ok (Some r)) = now ≡ begin + RECORD_HEAD_SIZE + length r.body
TakesRecord begin now (Err e) = RefusesRecord begin now e

-- what is taken by the first call: the file head and what follows it, or what a refusal of the head
-- says
abbrev pub TakesFirst : ℕ → ℕ → Result (Option Rec) PcapErr → Type 0
TakesFirst before now (Ok o) = TakesRecord (before + FILE_HEAD_SIZE) now (Ok o)
TakesFirst before now (Err e) =
    RefusesHead before now e ⊎ RefusesRecord (before + FILE_HEAD_SIZE) now e

-- what a call takes of a reader in this phase
abbrev pub Takes : Phase → ℕ → ℕ → Result (Option Rec) PcapErr → Type 0
Takes Fresh before now result = TakesFirst before now result
Takes (Open form) before now result = TakesRecord before now result
Takes (Stopped e) before now result = now ≡ before

-- what the opening takes of a reader in this phase
abbrev pub TakesHead : Phase → ℕ → ℕ → Result Form PcapErr → Type 0
TakesHead Fresh before now (Ok form) = now ≡ before + FILE_HEAD_SIZE
TakesHead Fresh before now (Err e) = RefusesHead before now e
TakesHead (Open form) before now (Ok other) = now ≡ before
TakesHead (Open form) before now (Err e) = ⊥
TakesHead (Stopped e) before now (Ok form) = ⊥
TakesHead (Stopped e) before now (Err other) = now ≡ before
