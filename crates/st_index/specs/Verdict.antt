-- What `check` answers of a block file and an index: that they are a whole pair, or else the first
-- check that fails, in the order of docs/FORMAT.md, "Checks". The block file comes first, then the
-- index as a table, then what its rows say, and last its rows against those of the packets.
use Rattle.std.specs.Prelude.{◌≡◌, ℕ, ◌≤◌, List, length, All, IsTrue, None, Some, take, ◌⊎◌, Result, Ok, IsErrOf}
use Rattle.st_base.specs.Damages.{DamageView, damage_view}
use Rattle.st_base.specs.Faults.{Rose}
use Rattle.st_tblock.specs.Block.{RowView}
use Rattle.st_tblock.specs.declared.format.TheConstants.{PLAIN, SNAPPY}
use Rattle.st_table.specs.TableFile.{HasIndex, Blocks, IsTable, footer_at}
use Rattle.st_table.specs.Index.{RefusesTable, holds_handle}
use Rattle.st_table.specs.Cursor.{RefusesNext}
use Rattle.st_table.specs.declared.errors.TableErr.{TableErr}
use Rattle.st_table.specs.declared.errors.TableErr.TheVariants as table_err
use Rattle.st_block.specs.Scan.{PositionedRecord, IsFile}
use Rattle.st_block.specs.Checks.{file_wrong}
use Rattle.st_rows.specs.Rows.{AreRowsOf}
use Rattle.st_rows.specs.Whole.{IsWhole}
use Rattle.st_index.specs.CheckRows.{content_wrong, rows_wrong}
use Rattle.st_index.specs.declared.checker.Part.{Part}
use Rattle.st_index.specs.declared.checker.Part.TheVariants as part
use Rattle.st_index.specs.declared.checker.Verdict.{Verdict}
use Rattle.st_index.specs.declared.checker.Verdict.TheVariants.{Whole, Differs}

-- a table's error is this failing check; of a compressed block it is that of the type byte
abbrev pub IsDamage : TableErr → DamageView → Type 0
IsDamage table_err.ReadFault d = ⊥
IsDamage (table_err.Damaged e) d = d ≡ damage_view e
IsDamage (table_err.Compressed place) d =
    d ≡ record { place = place; found = SNAPPY; want = PLAIN }
IsDamage table_err.NoMemory d = ⊥

-- the footer and the index block pass their checks, and so do the data blocks before the index
-- entry of some number; the block that this entry names is refused
pub record RefusesData (bytes : List ℕ) (e : TableErr) : Type 0 where
  pub index : List RowView
  pub has : HasIndex bytes index
  pub handles : All (λ r. IsTrue (holds_handle r)) index
  pub number : ℕ
  pub before : List RowView
  pub good : Blocks (footer_at bytes) bytes None (take number index) before
  pub refused : RefusesNext (footer_at bytes) bytes index number e

-- the first check that fails of bytes as a table: of the footer and the index block, or else of the
-- data blocks in their order
abbrev pub FailsAsTable : List ℕ → DamageView → Type 0
FailsAsTable bytes d =
    (e : TableErr) × IsDamage e d × (RefusesTable bytes e ⊎ RefusesData bytes e)

-- the first check that fails of an index for itself: as a table, or else of what its rows say
abbrev pub FailsAsIndex : List ℕ → DamageView → Type 0
FailsAsIndex bytes d =
    FailsAsTable bytes d
    ⊎ ((rows : List RowView) × IsTable bytes rows × (content_wrong rows ≡ Some d))

-- the block file has packets and the index passes the checks for itself, but its rows aren't those
-- of the packets: the first row that differs
pub record FailsInRows (block index : List ℕ) (d : DamageView) : Type 0 where
  pub given : List PositionedRecord
  pub file : IsFile block given
  pub rows : List RowView
  pub table : IsTable index rows
  pub content : content_wrong rows ≡ None
  pub wanted : List RowView
  pub of_packets : AreRowsOf given wanted
  pub differs : rows_wrong 0 rows wanted ≡ Some d

-- the first check of a pair that fails, with the part that it is of
abbrev pub Fails : List ℕ → List ℕ → Part → DamageView → Type 0
Fails block index part.Block d = file_wrong block ≡ Some d
Fails block index part.Index d = (file_wrong block ≡ None) × FailsAsIndex index d
Fails block index part.Rows d = FailsInRows block index d

-- the pair is whole, with this number of packets
abbrev pub IsWholeOf : List ℕ → List ℕ → ℕ → Type 0
IsWholeOf block index packets =
    (given : List PositionedRecord) × IsWhole block index given × (packets ≡ length given)

-- the verdict on a pair: it is whole, or this is its first check that fails
abbrev pub Judges : List ℕ → List ℕ → Verdict → Type 0
Judges block index (Whole packets) = IsWholeOf block index packets
Judges block index (Differs p d) = Fails block index p (damage_view d)

-- a count of faults never falls, a verdict that the pair is whole leaves it as it was, and this
-- error comes only if it rose
pub record HasVerdictCause {E : Type 0} (error : E) (before now : ℕ) (result : Result Verdict E)
    : Type 0 where
  pub later : before ≤ now
  pub still : (packets : ℕ) → result ≡ Ok (Whole packets) → now ≡ before
  pub failed : IsErrOf result error → Rose before now

-- two counts of faults never fall, a pair that is whole leaves both as they were, and this error
-- comes only if one of them rose
pub record HasCauseOfEither {E : Type 0} (error : E)
    (block_before block_now index_before index_now : ℕ)
    (result : Result Verdict E) : Type 0 where
  pub block_later : block_before ≤ block_now
  pub index_later : index_before ≤ index_now
  pub still : (packets : ℕ) → result ≡ Ok (Whole packets)
      → (block_now ≡ block_before) × (index_now ≡ index_before)
  pub failed : IsErrOf result error → Rose block_before block_now ⊎ Rose index_before index_now
