-- What sealing a lane makes of its drafts.
use Rattle.std.specs.Prelude.{◌≡◌, ℕ, ◌⊎◌, Option, Some, List}
use Rattle.st_base.specs.Records.{Rec}
use Rattle.st_base.specs.Faults.{Rose}
use Rattle.st_block.specs.BlockText.{BlockText}
use Rattle.st_block.specs.Scan.{PositionedRecord, records_in}
use Rattle.st_rows.specs.Whole.{IsWhole}
use Rattle.st_shelf.specs.Origins.{DraftOrigin}
use Rattle.st_shelf.specs.Ends.{end_origin, end_faults}
use Rattle.st_shelf.specs.declared.shelves.End.{End}
use Rattle.st_lane.specs.Lane.{LaneView}
use Rattle.st_lane.specs.declared.errors.SealErr.{SealErr}
use Rattle.st_lane.specs.declared.errors.SealErr.TheVariants as seal_err

-- the files are the block file of these records, in blocks of this size, and its index: a whole
-- pair
pub record AreWhole (size : ℕ) (rs : List Rec) (block index : Option (List ℕ)) : Type 0 where
  pub text : block ≡ Some (BlockText size rs)
  pub table : List ℕ
  pub indexed : index ≡ Some table
  pub given : List PositionedRecord
  pub records : records_in given ≡ rs
  pub whole : IsWhole (BlockText size rs) table given

-- the count of faults of the block draft or that of the index draft rose
abbrev pub OneFailed : ℕ → ℕ → ℕ → ℕ → Type 0
OneFailed block_before block_now index_before index_now =
    Rose block_before block_now ⊎ Rose index_before index_now

-- both drafts came back, sealed or not, and one of them failed
pub record CameBack {T S : Type 0} (origin : T → DraftOrigin) (sealed_origin : S → DraftOrigin)
    (faults : T → ℕ) (sealed_faults : S → ℕ) (block index : T) (block_now index_now : End T S)
    : Type 0 where
  pub block_is : end_origin origin sealed_origin block_now ≡ origin block
  pub index_is : end_origin origin sealed_origin index_now ≡ origin index
  pub failed : OneFailed (faults block) (end_faults faults sealed_faults block_now)
      (faults index) (end_faults faults sealed_faults index_now)

-- if memory runs out the lane comes back as it was; after a fault both drafts come back, and the
-- records of the lane are lost
abbrev pub FailsToSeal : {T S : Type 0} → (T → DraftOrigin) → (S → DraftOrigin) → (T → ℕ) → (S → ℕ)
    → LaneView T → SealErr T S → Type 0
FailsToSeal origin sealed_origin faults sealed_faults l (seal_err.NoMemory lane) = lane ≡ l
FailsToSeal origin sealed_origin faults sealed_faults l (seal_err.DiskFault lost block index) =
    (lost ≡ l.filling.records)
    × CameBack origin sealed_origin faults sealed_faults l.block l.index block index
