-- What a query writes of the pairs of a file set, and how it ends.
use Rattle.std.specs.Prelude.{◌≡◌, ◌⊎◌, ℕ, List, take, Option, Result, Ok, Err, Contains}
use Rattle.std.specs.Io.KnownBytes.{Appends}
use Rattle.st_base.specs.Pieces.{AppendsPrefix}
use Rattle.st_base.specs.Records.{Rec}
use Rattle.st_disk.specs.Pairs.{Entry}
use Rattle.st_pcap.specs.Text.{PcapText}
use Rattle.st_answer.specs.Packets.{IsWholeSet}
use Rattle.st_answer.specs.Replies.{Question, IsReply}
use Rattle.st_answer.specs.declared.errors.AnswerErr.{AnswerErr}
use Rattle.st_answer.specs.declared.errors.AnswerErr.TheVariants as error
use Rattle.st_answer.specs.declared.errors.Told.{Told}
use Rattle.st_pairs.specs.Pairs.{IsWholePair}
use Rattle.st_commands.specs.declared.outcomes.Outcome.{Outcome}
use Rattle.st_commands.specs.declared.outcomes.Outcome.TheVariants.{Done, WriteFault, DiskFault, Damaged, NoMemory}

-- how a query ends if its answer ended so
abbrev pub EndsWith : Result Told AnswerErr → Outcome → Type 0
EndsWith (Ok told) outcome = outcome ≡ Done
EndsWith (Err error.WriteFault) outcome = outcome ≡ WriteFault
EndsWith (Err error.DiskFault) outcome = outcome ≡ DiskFault
EndsWith (Err (error.Damaged stamp d)) outcome = outcome ≡ Damaged stamp d
EndsWith (Err error.NoMemory) outcome = outcome ≡ NoMemory

-- `Put` holds of the pcap of the packets that are asked for, as many as the limits allow
pub record WritesReply (q : Question) (pairs : List Entry) (Put : List ℕ → Type 0) : Type 0 where
  pub packets : List Rec
  pub are : IsReply q pairs packets
  pub put : Put (PcapText packets q.unit)

-- nothing was written, or the pcap of the first of the packets that are asked for
abbrev pub WritesFirst :
    Question → List Entry → Option (List ℕ) → Option (List ℕ) → Type 0
WritesFirst q pairs old new =
    (new ≡ old)
    ⊎ ((packets : List Rec) × IsReply q pairs packets
    × (n : ℕ) × Appends old new (PcapText (take n packets) q.unit))

-- What a query over whole pairs that ended so wrote: the pcap, or after a failure of the output a
-- prefix of it; or it ended early, with whole packets from the first on. It names no damage.
abbrev pub WritesWhole :
    Question → List Entry → Option (List ℕ) → Option (List ℕ) → Outcome → Type 0
WritesWhole q pairs old new Done = WritesReply q pairs (Appends old new)
WritesWhole q pairs old new WriteFault = WritesReply q pairs (AppendsPrefix old new)
WritesWhole q pairs old new DiskFault = WritesFirst q pairs old new
WritesWhole q pairs old new (Damaged stamp d) = ⊥
WritesWhole q pairs old new NoMemory = WritesFirst q pairs old new

-- if damage is named, it is that of a pair that is there and isn't whole
abbrev pub NamesHurt : List Entry → Outcome → Type 0
NamesHurt pairs Done = Unit {0}
NamesHurt pairs WriteFault = Unit {0}
NamesHurt pairs DiskFault = Unit {0}
NamesHurt pairs (Damaged stamp d) =
    (e : Entry) × Contains pairs e × (e.stamp ≡ stamp) × (IsWholePair e.block e.index → ⊥)
NamesHurt pairs NoMemory = Unit {0}

-- what a query over these pairs that ended so wrote, if all are whole; and damage that it names is
-- that of a pair that isn't
pub record Answers (q : Question) (pairs : List Entry) (old new : Option (List ℕ))
    (outcome : Outcome) : Type 0 where
  pub writes : IsWholeSet pairs → WritesWhole q pairs old new outcome
  pub hurt : NamesHurt pairs outcome
