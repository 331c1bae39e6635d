-- How much of the block files an answer may read: of each packet of the whole answer, before any
-- limit, its head and its body, each once.
use Rattle.std.specs.Prelude.{◌≡◌, ◌≤◌, ℕ, ◌+◌, ◌*◌, List, Option, Some, length}
use Rattle.st_disk.specs.Pairs.{Entry}
use Rattle.st_shelf.specs.Loans.{LoansView}
use Rattle.st_query.specs.declared.nodes.Node.{Node}
use Rattle.st_block.specs.declared.format.TheConstants.{RECORD_HEAD}
use Rattle.st_answer.specs.Packets.{Packet, IsWholeSet, records_of}
use Rattle.st_answer.specs.Answer.{IsAnswer}
use Rattle.st_answer.specs.Limited.{captured}

-- the most reads of block files for these packets
abbrev pub most_reads : List Packet → ℕ
most_reads ps = 2 * length ps

-- the most bytes that these reads ask for
abbrev pub most_asked : List Packet → ℕ
most_asked ps = RECORD_HEAD * length ps + captured (records_of ps)

-- the block files that were lent and came back in between had at most as many reads, for at most as
-- many bytes, as these packets need
pub record ReadsAtMost (before now : LoansView) (ps : List Packet) : Type 0 where
  pub reads : now.block_reads ≤ before.block_reads + most_reads ps
  pub asked : now.block_asked ≤ before.block_asked + most_asked ps

-- if the set that was held is known and its pairs are whole, the store's counts of reads of block
-- files rose by no more than its answer needs
abbrev pub ReadsForAnswer : Node → ℕ → Option (List Entry) → LoansView → LoansView → Type 0
ReadsForAnswer q now asked before after =
    (set : List Entry) (ps : List Packet) → asked ≡ Some set → IsWholeSet set
    → IsAnswer q now set ps → ReadsAtMost before after ps

-- if the set that was held is known and its pairs are whole, these are no more reads, and for no
-- more bytes, than its answer needs
abbrev pub ReadsUpTo : Node → ℕ → Option (List Entry) → ℕ → ℕ → Type 0
ReadsUpTo q now held reads asked =
    (set : List Entry) (ps : List Packet) → held ≡ Some set → IsWholeSet set → IsAnswer q now set ps
    → (reads ≤ most_reads ps) × (asked ≤ most_asked ps)
