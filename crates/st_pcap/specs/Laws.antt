-- Laws of the definitions, which the functions of `laws` ensure.
use Rattle.std.specs.Prelude.{◌≡◌, ℕ, ◌<◌, ◌≤◌, ◌↔◌, List, [], length, map, take, Some, All}
use Rattle.std.specs.List.{concat}
use Rattle.st_base.specs.Records.{Rec, InRange}
use Rattle.st_pcap.specs.declared.errors.PcapErr.{PcapErr}
use Rattle.st_pcap.specs.declared.forms.Unit as unit
use Rattle.st_pcap.specs.declared.numbers.TheConstants.{FILE_HEAD_SIZE, MAX_BODY, MAX_INPUT}
use Rattle.st_pcap.specs.Heads.{IsOfFileHead, refusal_of_file}
use Rattle.st_pcap.specs.Input.{IsPcap, End, Whole, Refused, Input}
use Rattle.st_pcap.specs.Text.{PcapText, Pieces, cut_to}

-- all bytes are an input of some records with some end
abbrev pub SomeReading : Type 0
SomeReading = (bytes : List ℕ) → (rs : List Rec) × (end : End) × Input bytes rs end

-- and of no other records and no other end
abbrev pub OneReading : Type 0
OneReading =
    (bytes : List ℕ) (rs qs : List Rec) (end other : End) → Input bytes rs end
    → Input bytes qs other → (rs ≡ qs) × (end ≡ other)

-- a body that no reader refuses for its length
abbrev pub IsShort : Rec → Type 0
IsShort r = length r.body ≤ MAX_BODY

-- the text of records is a pcap of these records, their times cut to the unit, and of nothing more
abbrev pub ReadsBack : Type 0
ReadsBack =
    (u : unit.Unit) (rs : List Rec) → All InRange rs → All IsShort rs
    → IsPcap (PcapText rs u) (map (cut_to u) rs) []

-- and it is a whole input of them, where it is shorter than the most that is read
abbrev pub IsWholeInput : Type 0
IsWholeInput =
    (u : unit.Unit) (rs : List Rec) → All InRange rs → All IsShort rs
    → length (PcapText rs u) < MAX_INPUT → Input (PcapText rs u) (map (cut_to u) rs) Whole

-- the pieces in which records are written, joined, are their text
abbrev pub PiecesJoin : Type 0
PiecesJoin = (u : unit.Unit) (rs : List Rec) → concat (Pieces rs u) ≡ PcapText rs u

-- an input that is refused for a cause of the file head has a file head that is refused for it, and
-- no other input has
abbrev pub HeadsApart : Type 0
HeadsApart =
    (bytes : List ℕ) (rs : List Rec) (e : PcapErr) → Input bytes rs (Refused e)
    → IsOfFileHead e ↔ (refusal_of_file (take FILE_HEAD_SIZE bytes) ≡ Some e)
