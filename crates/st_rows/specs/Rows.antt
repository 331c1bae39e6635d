-- The rows of an index: docs/FORMAT.md, "Index rows". The summary row comes first, then for each
-- key that some packet has, in the order of the keys' bytes, the row with the positions of exactly
-- the packets that have it.
use Rattle.std.specs.Prelude.{◌≡◌, ℕ, ◌<◌, ◌≤◌, ◌⊎◌, ◌^◌, ◌↔◌, List, [], ◌∷◌, ◌++◌, length, IsTrue, All, AllPairs, Contains}
use Rattle.byteorder.specs.Endian.{big_bytes}
use Rattle.st_base.specs.Records.{Rec, time}
use Rattle.st_walk.specs.declared.text.Key.{Key}
use Rattle.st_walk.specs.KeyText.{key_text, Fits}
use Rattle.st_walk.specs.Walk.{HasKey}
use Rattle.st_block.specs.BlockText.{HasBytes}
use Rattle.st_block.specs.Scan.{PositionedRecord}
use Rattle.st_tblock.specs.Block.{RowView}
use Rattle.st_table.specs.RowOrder.{KeysRise}
use Rattle.st_rows.specs.Positions.{has, Rising, positions_value}
use Rattle.st_rows.specs.declared.format.TheConstants.{SUMMARY_KIND, INDEX_VERSION, POSITION_SIZE}

-- a moment: seconds and nanoseconds
abbrev pub Moment : Type 0
Moment = ℕ × ℕ

-- a moment isn't after another
abbrev pub IsUpTo : Moment → Moment → Type 0
IsUpTo t u = (t.0 < u.0) ⊎ ((t.0 ≡ u.0) × (t.1 ≤ u.1))

-- a packet was captured at this moment
abbrev pub WasAt : List PositionedRecord → Moment → Type 0
WasAt given t = (x : PositionedRecord) × Contains given x × (time x.1 ≡ t)

-- what the summary row says: the number of packets, and the moments of the first and of the last
pub record SummaryView : Type 0 where
  pub packets : ℕ
  pub first : Moment
  pub last : Moment

-- this is the summary of these packets
pub record IsSummary (given : List PositionedRecord) (s : SummaryView) : Type 0 where
  pub packets : s.packets ≡ length given
  pub first : WasAt given s.first
  pub none_before : All (λ x. IsUpTo s.first (time x.1)) given
  pub last : WasAt given s.last
  pub none_after : All (λ x. IsUpTo (time x.1) s.last) given

-- the key of the summary row
abbrev pub summary_key : List ℕ
summary_key = SUMMARY_KIND ∷ []

-- the value of the summary row: the version, the number of packets, and the two moments
abbrev pub summary_value : SummaryView → List ℕ
summary_value s =
    big_bytes POSITION_SIZE INDEX_VERSION ++ (big_bytes POSITION_SIZE s.packets
    ++ (big_bytes POSITION_SIZE s.first.0 ++ (big_bytes POSITION_SIZE s.first.1
    ++ (big_bytes POSITION_SIZE s.last.0 ++ big_bytes POSITION_SIZE s.last.1))))

-- the packet at this position has the key
abbrev pub HasAt : List PositionedRecord → Key → ℕ → Type 0
HasAt given k p = (r : Rec) × Contains given (p, r) × HasKey r.body r.sec k

-- the row of a key: its text, and the positions of exactly the packets that have it, of which there
-- is one at least
pub record IsKeyRow (given : List PositionedRecord) (k : Key) (row : RowView) : Type 0 where
  pub key : row.0 ≡ key_text k
  pub positions : List ℕ
  pub value : row.1 ≡ positions_value positions
  pub rising : Rising positions
  pub some : 0 < length positions
  pub exact : (p : ℕ) → IsTrue (has positions p) ↔ HasAt given k p

-- each of these is the row of a key, and each key that a packet has is there
pub record AreKeyRows (given : List PositionedRecord) (rows : List RowView) : Type 0 where
  pub each : All (λ row. (k : Key) × Fits k × IsKeyRow given k row) rows
  pub all : (k : Key) (p : ℕ) → HasAt given k p
      → (row : RowView) × Contains rows row × (row.0 ≡ key_text k)

-- these are the rows of the index of these packets
pub record AreRowsOf (given : List PositionedRecord) (rows : List RowView) : Type 0 where
  pub summary : SummaryView
  pub is : IsSummary given summary
  pub keys : List RowView
  pub split : rows ≡ (summary_key, summary_value summary) ∷ keys
  pub of_keys : AreKeyRows given keys
  pub order : KeysRise rows

-- positions rise, from packet to packet
abbrev pub PositionsRise : List PositionedRecord → Type 0
PositionsRise given = AllPairs (λ x y. x.0 < y.0) given

-- a packet's position and the numbers of its time fit their fields, and its bytes are bytes
abbrev pub FitsFields : PositionedRecord → Type 0
FitsFields x = (x.0 < 2 ^ 32) × (x.1.sec < 2 ^ 32) × (x.1.nsec < 2 ^ 32) × HasBytes x.1

-- all packets fit their fields
abbrev pub AllFit : List PositionedRecord → Type 0
AllFit given = All FitsFields given
