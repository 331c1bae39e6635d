-- What making an index of the packets of a block file gives, by `packets`.
use Rattle.std.specs.Prelude.{◌≡◌, ℕ, List, Some, Result, Ok, Err}
use Rattle.st_base.specs.Damages.{damage_view}
use Rattle.st_block.specs.Checks.{file_wrong}
use Rattle.st_block.specs.Scan.{PositionedRecord, IsFile}
use Rattle.st_block.specs.declared.errors.BlockErr.{BlockErr}
use Rattle.st_block.specs.declared.errors.BlockErr.TheVariants as block_err
use Rattle.st_index.specs.Maker.{HasRecords}
use Rattle.st_index.specs.declared.maker.IndexMaker.{IndexMaker}

-- a maker has all packets of the block file, or this is the first check of the file that fails
abbrev pub MakesIndex : {T : Type 0} → List ℕ → IndexMaker → Result T BlockErr → Type 0
MakesIndex bytes m (Ok x) =
    (given : List PositionedRecord) × IsFile bytes given × HasRecords m given
MakesIndex bytes m (Err block_err.ReadFault) = Unit {0}
MakesIndex bytes m (Err (block_err.Damaged d)) = file_wrong bytes ≡ Some (damage_view d)
MakesIndex bytes m (Err block_err.NoMemory) = Unit {0}
