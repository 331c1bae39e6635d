-- Which packets an `IndexMaker` has, and what its calls make of them.
use Rattle.std.specs.Prelude.{◌≡◌, ℕ, ◌+◌, ◌≤◌, ◌↔◌, List, [], ◌∷◌, ◌++◌, length, IsTrue, All, Option, Result, MatchResult}
use Rattle.st_walk.specs.declared.text.Key.{Key}
use Rattle.st_block.specs.Scan.{PositionedRecord}
use Rattle.st_block.specs.declared.format.TheConstants.{RECORD_HEAD}
use Rattle.st_rows.specs.Positions.{has, Rising}
use Rattle.st_rows.specs.Rows.{HasAt, PositionsRise, AllFit}
use Rattle.st_index.specs.PositionLists.{positions_at}
use Rattle.st_index.specs.Summaries.{SummaryOf}
use Rattle.st_index.specs.declared.lists.PositionLists.{PositionLists}
use Rattle.st_index.specs.declared.summary.Summary.{Summary}
use Rattle.st_index.specs.declared.maker.IndexMaker.{IndexMaker}

-- the offset at which the body of a packet ends, in the block file
abbrev pub end_of : PositionedRecord → ℕ
end_of x = x.0 + (RECORD_HEAD + length x.1.body)

-- these are the positions of exactly the packets that have the key, and they rise
abbrev pub ArePositions : List PositionedRecord → Key → List ℕ → Type 0
ArePositions given k ps = Rising ps × ((p : ℕ) → IsTrue (has ps p) ↔ HasAt given k p)

-- Lists, a summary and an end are of these packets: the lists are the positions of those that have
-- each key, the summary is theirs, and they end at the end or before. Their positions rise, and all
-- numbers fit.
pub record HasPackets (lists : PositionLists) (summary : Option Summary) (end : ℕ)
    (given : List PositionedRecord) : Type 0 where
  pub positions : (k : Key) → ArePositions given k (positions_at lists k)
  pub summed : SummaryOf given summary
  pub ends : All (λ x. end_of x ≤ end) given
  pub rise : PositionsRise given
  pub fit : AllFit given

-- a maker has these packets
abbrev pub HasRecords : IndexMaker → List PositionedRecord → Type 0
HasRecords m given = HasPackets m.lists m.summary m.end given

-- a maker with the packets of another: each key has the positions that it had
pub record IsUnchanged (old new : IndexMaker) : Type 0 where
  pub lists : (k : Key) → positions_at new.lists k ≡ positions_at old.lists k
  pub summary : new.summary ≡ old.summary
  pub end : new.end ≡ old.end

-- one packet more, or after an error the same ones
abbrev pub Adds : {T E : Type 0} → IndexMaker → IndexMaker → PositionedRecord → Result T E → Type 0
Adds old new x result =
    (given : List PositionedRecord) → HasRecords old given
    → MatchResult result (λ _. HasRecords new (given ++ x ∷ [])) (λ _. HasRecords new given)
