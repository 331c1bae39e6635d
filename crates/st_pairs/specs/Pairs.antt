-- Which block files and indexes are whole pairs.
use Rattle.std.specs.Prelude.{List, ℕ}
use Rattle.st_block.specs.Scan.{PositionedRecord}
use Rattle.st_rows.specs.Whole.{IsWhole}

-- a block file and an index are a whole pair: those of some packets
abbrev pub IsWholePair : List ℕ → List ℕ → Type 0
IsWholePair block index = (given : List PositionedRecord) × IsWhole block index given
