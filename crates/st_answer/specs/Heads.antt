-- What reading the heads of one block file gives.
use Rattle.std.specs.Prelude.{◌≡◌, ℕ, ◌≤◌, List, ◌++◌, All, Option, Result, MatchResult}
use Rattle.st_block.specs.declared.format.TheConstants.{MAX_NSEC}
use Rattle.st_block.specs.Scan.{PositionedRecord, positions_in}
use Rattle.st_block.specs.Record.{IsRecordAt}
use Rattle.st_answer.specs.declared.picked.Picked.{Picked}
use Rattle.st_answer.specs.declared.errors.AnswerErr.{AnswerErr}
use Rattle.st_answer.specs.declared.errors.AnswerErr.TheVariants as error
use Rattle.st_answer.specs.Picks.{picks_of}

-- a pick of the pair with this number in the set and this stamp
pub record IsOf (pair_place pair_stamp : ℕ) (p : Picked) : Type 0 where
  pub place : p.place ≡ pair_place
  pub stamp : p.stamp ≡ pair_stamp
  pub nsec : p.nsec ≤ MAX_NSEC

-- picks of the pair with this number in the set and this stamp were added
abbrev pub AddsPicks : ℕ → ℕ → List Picked → List Picked → Type 0
AddsPicks place stamp old new =
    (more : List Picked) × (new ≡ old ++ more) × All (IsOf place stamp) more

-- an error of reading: no failure of the outlet, and if it names damage, that of the pair with
-- this stamp
abbrev pub IsReadErr : ℕ → AnswerErr → Type 0
IsReadErr stamp error.WriteFault = ⊥
IsReadErr stamp error.DiskFault = Unit {0}
IsReadErr stamp (error.Damaged s damage) = s ≡ stamp
IsReadErr stamp error.NoMemory = Unit {0}

-- an error that names damage names that of the pair with this stamp
abbrev pub NamesStamp : ℕ → AnswerErr → Type 0
NamesStamp stamp error.WriteFault = Unit {0}
NamesStamp stamp error.DiskFault = Unit {0}
NamesStamp stamp (error.Damaged s damage) = s ≡ stamp
NamesStamp stamp error.NoMemory = Unit {0}

-- an error that names no damage
abbrev pub IsNoDamage : AnswerErr → Type 0
IsNoDamage error.WriteFault = Unit {0}
IsNoDamage error.DiskFault = Unit {0}
IsNoDamage (error.Damaged stamp damage) = ⊥
IsNoDamage error.NoMemory = Unit {0}

-- there is no damage, and after an Ok this holds of the value
abbrev pub Unhurt : {T : Type 0} → (T → Type 0) → Result T AnswerErr → Type 0
Unhurt P result = MatchResult result P IsNoDamage

-- these records are at these positions of a file with this content
pub record AreAt (content : Option (List ℕ)) (positions : List ℕ)
    (xs : List PositionedRecord) : Type 0 where
  pub order : positions ≡ positions_in xs
  pub each : All (λ (x : PositionedRecord). IsRecordAt content x.0 x.1) xs

-- if the file has these records at these positions, their picks were added
abbrev pub PicksRecords :
    {T : Type 0} → ℕ → ℕ → Option (List ℕ) → List ℕ → List Picked → List Picked
    → Result T AnswerErr → Type 0
PicksRecords place stamp content positions old new result =
    (xs : List PositionedRecord) → AreAt content positions xs
    → Unhurt (λ t. new ≡ old ++ picks_of place stamp xs) result
