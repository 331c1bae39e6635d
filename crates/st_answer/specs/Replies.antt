-- What an answer sends, and how it may end.
use Rattle.std.specs.Prelude.{◌≡◌, ℕ, ◌-◌, ◌^◌, ◌≤◌, ◌⊎◌, min, List, length, take, Option, Some, Result, MatchResult, IfErr, IsErrOf, Contains, sum_by}
use Rattle.st_base.specs.Records.{Rec}
use Rattle.st_base.specs.Faults.{CountsOn, Rose}
use Rattle.st_base.specs.Outlets.{SentAll, SentPart}
use Rattle.st_base.specs.declared.limits.Limits.{Limits}
use Rattle.st_pcap.specs.declared.forms.Unit as unit
use Rattle.st_pcap.specs.Text.{Pieces}
use Rattle.st_disk.specs.Pairs.{Entry}
use Rattle.st_query.specs.declared.nodes.Node.{Node}
use Rattle.st_answer.specs.declared.errors.AnswerErr.{AnswerErr}
use Rattle.st_answer.specs.declared.errors.AnswerErr.TheVariants as error
use Rattle.st_answer.specs.declared.errors.Told.{Told}
use Rattle.st_answer.specs.Packets.{Packet, records_of, IsWholeSet, IsWholePair}
use Rattle.st_answer.specs.Answer.{IsAnswer}
use Rattle.st_answer.specs.Limited.{Limited}
use Rattle.st_answer.specs.Sets.{GoesOn}
use Rattle.st_answer.specs.Stores.{HoldsView}

-- what is asked: which packets, at what time of the clock, how many of them, and in which unit
pub record Question : Type 0 where
  pub node : Node
  pub now : ℕ
  pub limits : Limits
  pub unit : unit.Unit

-- these are the records of the answer over the set, as far as the limits go
pub record IsReply (q : Question) (set : List Entry) (rs : List Rec) : Type 0 where
  pub answer : List Packet
  pub is : IsAnswer q.node q.now set answer
  pub limited : Limited q.limits (records_of answer) rs

-- what is told of these records: their number, and that of the bytes of their pcap, up to the
-- greatest u64
pub record Tells (u : unit.Unit) (rs : List Rec) (told : Told) : Type 0 where
  pub packets : told.packets ≡ length rs
  pub bytes : told.bytes ≡ min (sum_by length (Pieces rs u)) (2 ^ 64 - 1)

-- nothing was sent, or exactly the pieces of a prefix of the reply
abbrev pub SendsSome :
    {S : Type 0} → (S → List ℕ → S) → Option S → Option S → Question → List Entry → Type 0
SendsSome after old new q set =
    (new ≡ old)
    ⊎ ((rs : List Rec) × IsReply q set rs
    × (n : ℕ) × SentAll after old new (Pieces (take n rs) q.unit))

-- What an answer that ended with this error sent: after a failure of the outlet a part of the
-- reply; after any other nothing, or the pieces of a prefix of it.
abbrev pub BreaksOff :
    {S : Type 0} → (S → List ℕ → S) → (S → List ℕ) → Option S → Option S → Question → List Entry
    → AnswerErr → Type 0
BreaksOff after gone old new q set error.WriteFault =
    (rs : List Rec) × IsReply q set rs × SentPart after gone old new (Pieces rs q.unit)
BreaksOff after gone old new q set error.DiskFault = SendsSome after old new q set
BreaksOff after gone old new q set (error.Damaged stamp damage) = SendsSome after old new q set
BreaksOff after gone old new q set error.NoMemory = SendsSome after old new q set

-- the pieces of the reply were sent, and their number is told; or an error ended it
abbrev pub Replies :
    {S : Type 0} → (S → List ℕ → S) → (S → List ℕ) → Option S → Option S → Question → List Entry
    → Result Told AnswerErr → Type 0
Replies after gone old new q set result =
    MatchResult result
    (λ told. (rs : List Rec) × IsReply q set rs
    × SentAll after old new (Pieces rs q.unit) × Tells q.unit rs told)
    (BreaksOff after gone old new q set)

-- the reply to the question was sent, or an error ended it, if the set that was held is known and
-- all its pairs are whole
abbrev pub RepliesFor :
    {S : Type 0} → (S → List ℕ → S) → (S → List ℕ) → Option S → Option S → Question
    → Option (List Entry) → Result Told AnswerErr → Type 0
RepliesFor after gone old new q asked result =
    (set : List Entry) → asked ≡ Some set → IsWholeSet set → Replies after gone old new q set result

-- an error that names damage names a pair of the set that isn't whole, by its stamp
abbrev pub BlamesIn : List Entry → AnswerErr → Type 0
BlamesIn set error.WriteFault = Unit {0}
BlamesIn set error.DiskFault = Unit {0}
BlamesIn set (error.Damaged stamp damage) =
    (e : Entry) × Contains set e × (e.stamp ≡ stamp) × (IsWholePair e → ⊥)
BlamesIn set error.NoMemory = Unit {0}

-- damage that is named is that of a pair of the set that was held and isn't whole, if the set is
-- known
abbrev pub Blames : {T : Type 0} → Option (List Entry) → Result T AnswerErr → Type 0
Blames asked result = (set : List Entry) → asked ≡ Some set → IfErr result (BlamesIn set)

-- the error is no failure of the outlet
abbrev pub IsNoWrite : AnswerErr → Type 0
IsNoWrite error.WriteFault = ⊥
IsNoWrite error.DiskFault = Unit {0}
IsNoWrite (error.Damaged stamp damage) = Unit {0}
IsNoWrite error.NoMemory = Unit {0}

-- one hold was taken, of all that was seen before and maybe more; or there was no memory for one,
-- and nothing was sent
abbrev pub AsksOnce :
    {S T : Type 0} → HoldsView → HoldsView → Option S → Option S → Result T AnswerErr → Type 0
AsksOnce before after old new result =
    (CountsOn before.asks after.asks 1 × GoesOn before.seen after.took)
    ⊎ ((after.asks ≡ before.asks) × (after.took ≡ before.took) × (new ≡ old)
    × IsErrOf result error.NoMemory)

-- the store's own failure: its count never falls, and a fault of the disk comes only if it rose
pub record HasDiskCause {T : Type 0} (before now : ℕ) (result : Result T AnswerErr) : Type 0 where
  pub later : before ≤ now
  pub failed : IsErrOf result error.DiskFault → Rose before now

-- the outlet's own failure: its count never falls; it rose if the outlet's failure ended the
-- answer, and after every other end it stayed as it was
pub record HasOutletCause {T : Type 0} (before now : ℕ) (result : Result T AnswerErr)
    : Type 0 where
  pub later : before ≤ now
  pub rose : IsErrOf result error.WriteFault → Rose before now
  pub still : (IsErrOf result error.WriteFault → ⊥) → now ≡ before
