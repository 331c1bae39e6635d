-- What asking one query of a drill tells, over a file set.
use Rattle.std.specs.Prelude.{◌≡◌, ◌≤◌, ℕ, List, [], ⊤, Contains, Option, Some, Result, IfOk, IsErrOf}
use Rattle.st_base.specs.Faults.{Rose}
use Rattle.st_base.specs.Records.{Rec}
use Rattle.st_pcap.specs.declared.forms.Unit.TheVariants.{Micro}
use Rattle.st_disk.specs.Disks.{Log}
use Rattle.st_disk.specs.Pairs.{Entry}
use Rattle.st_shelf.specs.Loans.{LoansView}
use Rattle.st_spool.specs.States.{SpoolView}
use Rattle.st_pairs.specs.Pairs.{IsWholePair as IsWhole}
use Rattle.st_query.specs.declared.nodes.Node.{Node}
use Rattle.st_query.specs.Trees.{tree}
use Rattle.st_answer.specs.Packets.{IsWholePair, IsWholeSet}
use Rattle.st_answer.specs.Replies.{Question, IsReply, Tells}
use Rattle.st_answer.specs.Spools.{Remains}
use Rattle.st_answer.specs.declared.errors.AnswerErr.{AnswerErr}
use Rattle.st_answer.specs.declared.errors.AnswerErr.TheVariants as error
use Rattle.st_answer.specs.declared.errors.Told.{Told}
use Rattle.st_drill.specs.declared.ends.DrillEnd.{DrillEnd}
use Rattle.st_drill.specs.declared.ends.DrillEnd.TheVariants as end
use Rattle.st_drill.specs.declared.queries.DrillQuery.{DrillQuery}
use Rattle.st_drill.specs.declared.numbers.TheConstants.{NO_LIMIT}
use Rattle.st_drill.specs.Queries.{query_tree}

-- this query as a question, with the clock at 0 and without limits
abbrev pub asked_of : Node → Question
asked_of node =
    record {
      node = node;
      now = 0;
      limits = record { packets = NO_LIMIT; bytes = NO_LIMIT };
      unit = Micro;
    }

-- These are the numbers of the answer to the query over the file set: how many packets match, and
-- how many bytes they are as a pcap.
pub record CountsMatches (set : List Entry) (q : DrillQuery) (numbers : Told) : Type 0 where
  pub node : Node
  pub asks : tree node ≡ query_tree q
  pub packets : List Rec
  pub reply : IsReply (asked_of node) set packets
  pub told : Tells Micro packets numbers

-- a query that wasn't answered: the disk failed, memory ran out, or this pair of the set isn't
-- whole
abbrev pub AnswerFails : List Entry → DrillEnd → Type 0
AnswerFails set end.Done = ⊥
AnswerFails set end.WriteFault = ⊥
AnswerFails set end.DiskFault = ⊤
AnswerFails set (end.Damaged stamp damage) =
    (e : Entry) × Contains set e × (e.stamp ≡ stamp) × (IsWholePair e → ⊥)
AnswerFails set (end.StampsSpent last) = ⊥
AnswerFails set end.NoMemory = ⊤

-- the ways in which a query isn't answered, whatever is known
abbrev pub IsAnswerFailure : DrillEnd → Type 0
IsAnswerFailure end.Done = ⊥
IsAnswerFailure end.WriteFault = ⊥
IsAnswerFailure end.DiskFault = ⊤
IsAnswerFailure (end.Damaged stamp damage) = ⊤
IsAnswerFailure (end.StampsSpent last) = ⊥
IsAnswerFailure end.NoMemory = ⊤

-- an answer that told these numbers is the reply to the question, if the set that was asked is
-- known and all its pairs are whole
abbrev pub TellsReply : Question → Option (List Entry) → Result Told AnswerErr → Type 0
TellsReply q known result =
    (set : List Entry) → known ≡ Some set → IsWholeSet set
    → IfOk result (λ told. (rs : List Rec) × IsReply q set rs × Tells q.unit rs told)

-- how a drill ends if an answer failed so; writing an answer doesn't fail
abbrev pub AnswerFailsBy : AnswerErr → DrillEnd → Type 0
AnswerFailsBy error.WriteFault ended = ended ≡ end.NoMemory
AnswerFailsBy error.DiskFault ended = ended ≡ end.DiskFault
AnswerFailsBy (error.Damaged stamp damage) ended = ended ≡ end.Damaged stamp damage
AnswerFailsBy error.NoMemory ended = ended ≡ end.NoMemory

-- the shelf's count of faults never falls, and it rose if the shelf failed
pub record HasShelfCause {T : Type 0} (before now : ℕ) (result : Result T DrillEnd) : Type 0 where
  pub later : before ≤ now
  pub rose : IsErrOf result end.DiskFault → Rose before now

-- calls on a spool that changed no pair: its shelf's number stays, no more files are lent, and if
-- no hold was out none is
pub record StaysOpen {D : Type 0} (log : D → Option Log) (id : D → ℕ) (loans : D → LoansView)
    (old new : SpoolView D) : Type 0 where
  pub remains : Remains IsWhole log old new
  pub holds : old.state.holds ≡ [] → new.state.holds ≡ []
  pub id_is : id new.shelf ≡ id old.shelf
  pub lent : (loans new.shelf).lent ≤ (loans old.shelf).lent
