-- A whole pair: a block file, and the index of exactly its packets.
use Rattle.std.specs.Prelude.{ℕ, List}
use Rattle.st_tblock.specs.Block.{RowView}
use Rattle.st_table.specs.TableFile.{IsTable}
use Rattle.st_block.specs.Scan.{PositionedRecord, IsFile}
use Rattle.st_rows.specs.Rows.{AreRowsOf}

-- the block file has these packets, each at its position, and the index is a table of their rows
pub record IsWhole (block index : List ℕ) (given : List PositionedRecord) : Type 0 where
  pub file : IsFile block given
  pub rows : List RowView
  pub table : IsTable index rows
  pub of_packets : AreRowsOf given rows
