-- The records of an input that match, in its order, and how much of it is read.
use Rattle.std.specs.Prelude.{◌≡◌, ◌+◌, ◌⊎◌, ◌++◌, ℕ, List, [], ◌∷◌, length, drop, Option, Some, Result, Ok, Err}
use Rattle.st_base.specs.Records.{Rec}
use Rattle.st_pcap.specs.declared.errors.PcapErr.{PcapErr}
use Rattle.st_pcap.specs.Input.{Input, Whole, Refused}
use Rattle.st_pcap.specs.Reading.{IsOutside}
use Rattle.st_pcap.specs.Taking.{RefusesHead, RefusesRecord}
use Rattle.st_pcap.specs.declared.numbers.TheConstants.{FILE_HEAD_SIZE, RECORD_HEAD_SIZE}
use Rattle.st_query.specs.declared.nodes.Node.{Node}
use Rattle.st_query.specs.Meaning.{Matches}

-- of these records exactly those of which M holds were kept, in their order
abbrev pub Selects : (Rec → Type 0) → List Rec → List Rec → Type 0
Selects M [] kept = kept ≡ []
Selects M (r ∷ rs) kept =
    ((M r → ⊥) × Selects M rs kept)
    ⊎ (M r × ((more : List Rec) × (kept ≡ r ∷ more) × Selects M rs more))

-- the record was put after the kept ones if M holds of it, and else nothing was
abbrev pub KeepsMatch : (Rec → Type 0) → Rec → List Rec → List Rec → Type 0
KeepsMatch M r old new = ((M r → ⊥) × (new ≡ old)) ⊎ (M r × (new ≡ old ++ r ∷ []))

-- the matching records of the input were kept, up to its end or its refusal; or reading it failed,
-- or memory ran out
abbrev pub IsGathered : Node → ℕ → List ℕ → List Rec → Result (Unit {0}) PcapErr → Type 0
IsGathered q now bytes kept (Ok done) =
    (rs : List Rec) × Input bytes rs Whole × Selects (Matches q now) rs kept
IsGathered q now bytes kept (Err e) =
    IsOutside e ⊎ ((rs : List Rec) × Input bytes rs (Refused e) × Selects (Matches q now) rs kept)

-- how many bytes these records have in an input
abbrev pub size_of : List Rec → ℕ
size_of [] = 0
size_of (r ∷ rs) = RECORD_HEAD_SIZE + length r.body + size_of rs

-- the input is refused by this cause, and no more of it was taken than that takes: the rest is left
pub record StopsAt (bytes : List ℕ) (e : PcapErr) (left : Option (List ℕ)) : Type 0 where
  pub rs : List Rec
  pub refused : Input bytes rs (Refused e)
  pub taken : ℕ
  pub enough : RefusesHead 0 taken e ⊎ RefusesRecord (FILE_HEAD_SIZE + size_of rs) taken e
  pub rest : left ≡ Some (drop taken bytes)

-- how far an input was read: to its end, or as far as its refusal takes; or reading it failed, or
-- memory ran out
abbrev pub ReadsUpTo : List ℕ → Result (Unit {0}) PcapErr → Option (List ℕ) → Type 0
ReadsUpTo bytes (Ok done) left = left ≡ Some []
ReadsUpTo bytes (Err e) left = IsOutside e ⊎ StopsAt bytes e left
