-- Laws of positions and rows, which the functions of `laws` ensure. Those of the order of keys are
-- in KeyOrder.
use Rattle.std.specs.Prelude.{◌≡◌, ℕ, ◌<◌, ◌^◌, ◌↔◌, List, [], ◌∷◌, length, Option, Some, None, IsTrue, All, Contains}
use Rattle.st_base.specs.Records.{Rec}
use Rattle.st_walk.specs.declared.text.Key.{Key}
use Rattle.st_walk.specs.KeyText.{key_text, Fits}
use Rattle.st_block.specs.Scan.{PositionedRecord, IsFile}
use Rattle.st_tblock.specs.Block.{RowView, is_before}
use Rattle.st_tblock.specs.Lookup.{lookup}
use Rattle.st_table.specs.RowOrder.{KeysRise, in_range}
use Rattle.st_rows.specs.Positions.{has, Rising, positions_value, positions_in}
use Rattle.st_rows.specs.Rows.{SummaryView, IsSummary, summary_key, HasAt, IsKeyRow, AreRowsOf, PositionsRise, AllFit}

-- a value says the positions that it was made of
abbrev pub ValuesSayPositions : Type 0
ValuesSayPositions =
    (ps : List ℕ) → All (λ p. p < 2 ^ 32) ps → positions_in (positions_value ps) ≡ ps

-- rising lists of the same positions are equal
abbrev pub OneRisingList : Type 0
OneRisingList =
    (ps qs : List ℕ) → Rising ps → Rising qs
    → ((p : ℕ) → IsTrue (has ps p) ↔ IsTrue (has qs p)) → ps ≡ qs

-- in a block file the packets' positions rise, and they and the packets' numbers fit
abbrev pub FilePackets : Type 0
FilePackets =
    (bytes : List ℕ) (given : List PositionedRecord) → IsFile bytes given
    → PositionsRise given × AllFit given

-- a block file has fewer than 2^32 packets, so that the summary row can say their number
abbrev pub FewPackets : Type 0
FewPackets =
    (bytes : List ℕ) (given : List PositionedRecord) → IsFile bytes given → length given < 2 ^ 32

-- one packet is at a position
abbrev pub OnePacketAt : Type 0
OnePacketAt =
    (given : List PositionedRecord) (p : ℕ) (r q : Rec) → PositionsRise given
    → Contains given (p, r) → Contains given (p, q) → r ≡ q

-- each key that a packet has fits the type of its kind
abbrev pub PacketKeysFit : Type 0
PacketKeysFit =
    (given : List PositionedRecord) (k : Key) (p : ℕ) → AllFit given → HasAt given k p → Fits k

-- the key of the summary row is before that of every other row
abbrev pub SummaryFirst : Type 0
SummaryFirst = (k : Key) → IsTrue (is_before summary_key (key_text k))

-- packets have one summary
abbrev pub OneSummary : Type 0
OneSummary =
    (given : List PositionedRecord) (s t : SummaryView) → IsSummary given s → IsSummary given t
    → s ≡ t

-- the value of a key's row says the positions of exactly the packets that have the key
abbrev pub RowsSayPositions : Type 0
RowsSayPositions =
    (given : List PositionedRecord) (k : Key) (row : RowView) (p : ℕ) → AllFit given
    → IsKeyRow given k row → IsTrue (has (positions_in row.1) p) ↔ HasAt given k p

-- a key has one row
abbrev pub OneKeyRow : Type 0
OneKeyRow =
    (given : List PositionedRecord) (k : Key) (row other : RowView) → IsKeyRow given k row
    → IsKeyRow given k other → row ≡ other

-- packets have one list of rows
abbrev pub OneListOfRows : Type 0
OneListOfRows =
    (given : List PositionedRecord) (rows others : List RowView) → AreRowsOf given rows
    → AreRowsOf given others → rows ≡ others

-- the row of a key whose value a lookup gave, or no row
abbrev pub found_row : List ℕ → Option (List ℕ) → List RowView
found_row key None = []
found_row key (Some value) = (key, value) ∷ []

-- the rows from a key to itself are the one that a lookup of it finds
abbrev pub LookupIsRange : Type 0
LookupIsRange =
    (key : List ℕ) (rows : List RowView) → KeysRise rows
    → in_range key key rows ≡ found_row key (lookup key rows)
