-- What sending some records does to an outlet.
use Rattle.std.specs.Prelude.{◌≡◌, ℕ, List, map, take, All, Option, Some, Result, MatchResult}
use Rattle.std.specs.List.{flat_map}
use Rattle.st_base.specs.Records.{Rec}
use Rattle.st_base.specs.Outlets.{SentAll, SentPart}
use Rattle.st_pcap.specs.declared.forms.Unit as unit
use Rattle.st_pcap.specs.Text.{record_pieces}
use Rattle.st_block.specs.Record.{IsRecordAt}
use Rattle.st_disk.specs.Pairs.{Entry}
use Rattle.st_query.specs.declared.nodes.Node.{Node}
use Rattle.st_answer.specs.declared.picked.Picked.{Picked}
use Rattle.st_answer.specs.declared.errors.AnswerErr.{AnswerErr}
use Rattle.st_answer.specs.declared.errors.AnswerErr.TheVariants as error
use Rattle.st_answer.specs.Picks.{pick_of, blocks_of, IsFound}

-- how sending one record fails: the outlet took a part of its pieces; or it took none, and there
-- was no damage
abbrev pub StopsAtOne :
    {S : Type 0} → (S → List ℕ → S) → (S → List ℕ) → Option S → Option S → List (List ℕ)
    → AnswerErr → Type 0
StopsAtOne after gone old new pieces error.WriteFault = SentPart after gone old new pieces
StopsAtOne after gone old new pieces error.DiskFault = new ≡ old
StopsAtOne after gone old new pieces (error.Damaged stamp damage) = ⊥
StopsAtOne after gone old new pieces error.NoMemory = new ≡ old

-- if the file has this record at the pick's position, its pieces were sent, or sending it failed
abbrev pub SendsOne :
    {S T : Type 0} → (S → List ℕ → S) → (S → List ℕ) → Option S → Option S → Option (List ℕ)
    → unit.Unit → Picked → Result T AnswerErr → Type 0
SendsOne after gone old new content u p result =
    (r : Rec) → IsRecordAt content p.position r → p ≡ pick_of p.place p.stamp p.position r
    → MatchResult result (λ t. SentAll after old new (record_pieces u r))
    (StopsAtOne after gone old new (record_pieces u r))

-- the pieces of a prefix of the records were sent
abbrev pub SendsPrefix :
    {S : Type 0} → (S → List ℕ → S) → Option S → Option S → (List Rec → List (List ℕ)) → List Rec
    → Type 0
SendsPrefix after old new pieces rs = (n : ℕ) × SentAll after old new (pieces (take n rs))

-- how sending records fails: the outlet took a part of their pieces; or another error came, and all
-- pieces of a prefix of the records were sent
abbrev pub StopsAmong :
    {S : Type 0} → (S → List ℕ → S) → (S → List ℕ) → Option S → Option S → (List Rec
    → List (List ℕ)) → List Rec → AnswerErr → Type 0
StopsAmong after gone old new pieces rs error.WriteFault = SentPart after gone old new (pieces rs)
StopsAmong after gone old new pieces rs error.DiskFault = SendsPrefix after old new pieces rs
StopsAmong after gone old new pieces rs (error.Damaged stamp damage) =
    SendsPrefix after old new pieces rs
StopsAmong after gone old new pieces rs error.NoMemory = SendsPrefix after old new pieces rs

-- all pieces of the records were sent, or sending them failed
abbrev pub SendsRecords :
    {S T : Type 0} → (S → List ℕ → S) → (S → List ℕ) → Option S → Option S → (List Rec
    → List (List ℕ)) → List Rec → Result T AnswerErr → Type 0
SendsRecords after gone old new pieces rs result =
    MatchResult result (λ t. SentAll after old new (pieces rs))
    (StopsAmong after gone old new pieces rs)

-- the pieces of records without the file head
abbrev pub body_pieces : unit.Unit → List Rec → List (List ℕ)
body_pieces u rs = flat_map (record_pieces u) rs

-- the files are the block files of this set, and the picks are of its packets that match
pub record ArePickedOf (q : Node) (now : ℕ) (set : List Entry)
    (contents : List (Option (List ℕ))) (ps : List Picked) : Type 0 where
  pub known : contents ≡ map Some (blocks_of set)
  pub found : All (IsFound q now set) ps
