-- What gathering the picks of a held set gives.
use Rattle.std.specs.Prelude.{◌≡◌, ℕ, ◌+◌, ◌*◌, ◌<◌, ◌≤◌, ◌⊎◌, List, [], ◌∷◌, ◌++◌, length, map, All, Contains, Option, Some, Result, OnOk, IfErr, IsErrOf}
use Rattle.st_base.specs.Faults.{Rose}
use Rattle.st_block.specs.declared.format.TheConstants.{RECORD_HEAD}
use Rattle.st_block.specs.Scan.{PositionedRecord, positions_in}
use Rattle.st_disk.specs.Pairs.{Entry}
use Rattle.st_query.specs.declared.nodes.Node.{Node}
use Rattle.st_query.specs.Meaning.{Matches}
use Rattle.st_rows.specs.Positions.{Rising}
use Rattle.st_answer.specs.declared.picked.Picked.{Picked}
use Rattle.st_answer.specs.declared.errors.AnswerErr.{AnswerErr}
use Rattle.st_answer.specs.declared.errors.AnswerErr.TheVariants as error
use Rattle.st_answer.specs.Packets.{IsWholeSet}
use Rattle.st_answer.specs.Picks.{picks_of, HasAllOf, AreReadFor}
use Rattle.st_answer.specs.Heads.{AddsPicks, IsReadErr, Unhurt}
use Rattle.st_answer.specs.Stores.{OfEntry}
use Rattle.st_answer.specs.Replies.{IsNoWrite, BlamesIn}
use Rattle.st_answer.specs.Sending.{ArePickedOf}

-- these are packets of the pair that match, each once, by position
pub record AreSome (q : Node) (now : ℕ) (given xs : List PositionedRecord) : Type 0 where
  pub rising : Rising (positions_in xs)
  pub each : All (λ (x : PositionedRecord). Contains given x × Matches q now x.1) xs

-- each packet of the pair that matches is among these
abbrev pub HasEach : Node → ℕ → List PositionedRecord → List PositionedRecord → Type 0
HasEach q now given xs =
    (x : PositionedRecord) → Contains given x → Matches q now x.1 → Contains xs x

-- of a whole pair only heads of packets that match were read; after an Ok all of these were, and
-- their picks were added
pub record PicksPair {T : Type 0} (q : Node) (now : ℕ) (given : List PositionedRecord)
    (place stamp : ℕ) (old new : List Picked) (reads_before reads_now asked_before asked_now : ℕ)
    (result : Result T AnswerErr) : Type 0 where
  pub xs : List PositionedRecord
  pub some : AreSome q now given xs
  pub reads_most : reads_now ≤ reads_before + length xs
  pub asked_most : asked_now ≤ asked_before + RECORD_HEAD * length xs
  pub ends : Unhurt (λ t. HasEach q now given xs × (new ≡ old ++ picks_of place stamp xs)) result

-- picks of the pair with this number in the set were added, and damage that is named has its stamp
pub record AddsOfPair {T : Type 0} (held : Option (List Entry)) (place : ℕ) (old new : List Picked)
    (result : Result T AnswerErr) : Type 0 where
  pub stamp : ℕ
  pub is : OfEntry held place (λ e. stamp ≡ e.stamp)
  pub adds : AddsPicks place stamp old new
  pub fails : IfErr result (IsReadErr stamp)

-- the files are still of the store with this number; after an Ok there is one more, the last: the
-- block file of the pair with this number in the set
pub record AddsFile {T F : Type 0} (content : F → Option (List ℕ)) (home : F → ℕ) (id : ℕ)
    (held : Option (List Entry)) (place : ℕ) (old new : List F)
    (result : Result T AnswerErr) : Type 0 where
  pub at_home : All (λ f. home f ≡ id) old → All (λ f. home f ≡ id) new
  pub more : OnOk result (length new ≡ length old + 1)
  pub last : OnOk result
      (OfEntry held place (λ e. map content new ≡ map content old ++ Some e.block ∷ []))

-- the store's count of faults never falls; if the disk failed it rose, or that of a file that is
-- still to be closed did
pub record HasFaultCause {T : Type 0} (before now of_files : ℕ)
    (result : Result T AnswerErr) : Type 0 where
  pub later : before ≤ now
  pub failed : IsErrOf result error.DiskFault → Rose before now ⊎ (0 < of_files)

-- if the set is known, these files are its block files, and the picks are of its packets that match
abbrev pub PicksFound :
    Node → ℕ → Option (List Entry) → List (Option (List ℕ)) → List Picked → Type 0
PicksFound q now held contents ps =
    (set : List Entry) → held ≡ Some set → ArePickedOf q now set contents ps

-- if the set is known and whole, only heads of packets that match were read
abbrev pub ReadsSet : Node → ℕ → Option (List Entry) → ℕ → ℕ → Type 0
ReadsSet q now held reads asked =
    (set : List Entry) → held ≡ Some set → IsWholeSet set
    → (ps : List Picked) × AreReadFor q now set reads asked ps

-- if the set is known and whole, the packets that match were picked, each once, by one read each
abbrev pub PicksSet : Node → ℕ → Option (List Entry) → ℕ → ℕ → List Picked → Type 0
PicksSet q now held reads asked ps =
    (set : List Entry) → held ≡ Some set → IsWholeSet set
    → AreReadFor q now set reads asked ps × HasAllOf q now set set ps

-- an error is no failure of the outlet, and damage that it names is that of a pair of the set that
-- isn't whole, if the set is known
abbrev pub FailsIn : Option (List Entry) → AnswerErr → Type 0
FailsIn held e = IsNoWrite e × ((set : List Entry) → held ≡ Some set → BlamesIn set e)
