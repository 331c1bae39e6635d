-- The packets of a file set whose pairs are whole.
use Rattle.std.specs.Prelude.{◌≡◌, ℕ, List, map, All, Contains}
use Rattle.st_base.specs.Records.{Rec}
use Rattle.st_disk.specs.Pairs.{Entry}
use Rattle.st_block.specs.Scan.{PositionedRecord}
use Rattle.st_rows.specs.Whole.{IsWhole}

-- a packet of a file set: the stamp of its pair, its position in the pair's block file, and what
-- was captured
pub record Packet : Type 0 where
  pub stamp : ℕ
  pub position : ℕ
  pub packet : Rec

-- the records of these packets
abbrev pub records_of : List Packet → List Rec
records_of ps = map (λ (p : Packet). p.packet) ps

-- the pair of an entry is whole: a block file of some packets, with their index
abbrev pub IsWholePair : Entry → Type 0
IsWholePair e = (given : List PositionedRecord) × IsWhole e.block e.index given

-- the packet is one of the entry's pair, which is whole
pub record IsPacketOf (e : Entry) (p : Packet) : Type 0 where
  pub stamp : p.stamp ≡ e.stamp
  pub given : List PositionedRecord
  pub whole : IsWhole e.block e.index given
  pub there : Contains given (p.position, p.packet)

-- the packet is one of a pair of the set
abbrev pub IsPacketIn : List Entry → Packet → Type 0
IsPacketIn set p = (e : Entry) × Contains set e × IsPacketOf e p

-- all pairs of the set are whole
abbrev pub IsWholeSet : List Entry → Type 0
IsWholeSet set = All IsWholePair set
