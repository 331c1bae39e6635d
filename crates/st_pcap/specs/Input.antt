-- Which records the bytes of an input are, and how they end. The libpcap savefile format.
use Rattle.std.specs.Prelude.{Option, ◌≡◌, ℕ, ◌+◌, ◌-◌, ◌<◌, nat_le, nat_eq, if◌then◌else◌, ◌⊎◌, List, [], ◌∷◌, ◌++◌, length, take, Some}
use Rattle.std.specs.Option.{option_map}
use Rattle.st_base.specs.Records.{Rec}
use Rattle.st_pcap.specs.declared.errors.PcapErr.{PcapErr}
use Rattle.st_pcap.specs.declared.errors.PcapErr.TheVariants.{TooMuch}
use Rattle.st_pcap.specs.declared.forms.Order.{Order}
use Rattle.st_pcap.specs.declared.forms.Unit as unit
use Rattle.st_pcap.specs.declared.numbers.TheConstants.{FILE_HEAD_SIZE, RECORD_HEAD_SIZE, MAX_INPUT}
use Rattle.st_pcap.specs.Heads.{IsFileHead, IsRecordHead, refusal_of_file, refusal_of_record}

-- these bytes are the records, each its head and then its body, and then go on with the rest
abbrev pub Records : Order → unit.Unit → List ℕ → List Rec → List ℕ → Type 0
Records order u bytes [] rest = bytes ≡ rest
Records order u bytes (r ∷ rs) rest =
    (head : List ℕ) × (more : List ℕ) × IsRecordHead order u head r
    × (bytes ≡ head ++ (r.body ++ more)) × Records order u more rs rest

-- these bytes are a file head of one of the four forms, the records in that form, and the rest
pub record IsPcap (bytes : List ℕ) (rs : List Rec) (rest : List ℕ) : Type 0 where
  pub order : Order
  pub unit : unit.Unit
  pub head : List ℕ
  pub text : List ℕ
  pub whole : bytes ≡ head ++ text
  pub starts : IsFileHead order unit head
  pub records : Records order unit text rs rest

-- after `before` bytes each record begins below the most that is read of an input
abbrev pub AllBegin : ℕ → List Rec → Type 0
AllBegin before [] = Unit {0}
AllBegin before (r ∷ rs) =
    (before < MAX_INPUT) × AllBegin (before + (RECORD_HEAD_SIZE + length r.body)) rs

-- how an input ends: whole, where a record would begin, or refused
pub data End : Type 0 where
  Whole : End
  Refused : PcapErr → End

-- the end where record `number` would begin, after `before` bytes; None is a record
abbrev pub end_at : Order → unit.Unit → ℕ → ℕ → List ℕ → Option End
end_at order u before number rest =
    if nat_le MAX_INPUT before then Some (Refused (TooMuch before))
    else if nat_eq (length rest) 0 then Some Whole
    else option_map Refused (refusal_of_record order u number rest)

-- The bytes are an input of these records with this end. Where the file head is refused there is
-- no record. Else the records follow one another, and the end is what the checks find after the
-- last of them, the numbers of records counted from 1.
abbrev pub Input : List ℕ → List Rec → End → Type 0
Input bytes rs end =
    ((e : PcapErr) × (refusal_of_file (take FILE_HEAD_SIZE bytes) ≡ Some e) × (rs ≡ [])
    × (end ≡ Refused e))
    ⊎ ((rest : List ℕ) × (file : IsPcap bytes rs rest) × AllBegin FILE_HEAD_SIZE rs
    × (end_at file.order file.unit (length bytes - length rest) (length rs + 1) rest ≡ Some end))
