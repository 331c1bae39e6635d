-- The index of a whole pair.
use Rattle.std.proofs.Common.{Option, ◌≡◌, ℕ, zero, suc, ◌*◌, ◌^◌, ◌<◌, ◌≤◌, List, [], ◌∷◌, Some, None, Bool, length, get_or, sym, ap, ◌∙◌, arith}
use Rattle.std.proofs.Math.Nat.{mul-le-mul}
use Rattle.std.proofs.lemmas.List.Elements.{Contains-get_or}
use Rattle.st_tblock.specs.Block.{RowView}
use Rattle.st_table.specs.TableFile.{IsTable, footer_at}
use Rattle.st_table.specs.Index.{Entered}
use Rattle.st_table.specs.Marks.{Checked}
use Rattle.st_table.specs.declared.index.IndexEntry.{IndexEntry}
use Rattle.st_block.specs.declared.format.TheConstants.{MAX_BLOCKS, MAX_BLOCK}
use Rattle.st_block.specs.BlockText.{blocks}
use Rattle.st_block.specs.Scan.{PositionedRecord, IsFile, records_in}
use Rattle.st_block.proofs.Finding.{record_bytes}
use Rattle.st_block.proofs.Rising.{file_length}
use Rattle.st_rows.specs.Rows.{PositionsRise}
use Rattle.st_rows.specs.Whole.{IsWhole}
use Rattle.st_rows.proofs.Packets.{file_packets}
use Rattle.st_eval.specs.Selection.{IsOver, IsIndexOf}
use Rattle.st_answer.proofs.Heading.{no_record}
use Rattle.st_answer.proofs.Picking.{packet_at}

-- a table that was entered
pub over : (content : Option (List ℕ)) (entries : List IndexEntry) (checked : List Bool) (bytes : List ℕ) (rows : List RowView) → content ≡ Some bytes → Entered bytes entries → Checked (footer_at bytes) bytes None entries checked → IsTable bytes rows → IsOver content entries checked rows
over content entries checked bytes rows known entered marks table = record {
  bytes = bytes;
  index = entered.index;
  is = record { known = known; has = entered.has; decoded = entered.decoded; marks = marks };
  table = table;
}

-- the rows of a whole pair
pub index_of : (block index : List ℕ) (given : List PositionedRecord) (whole : IsWhole block index given) → IsIndexOf given whole.rows
index_of block index given whole =
    let (rise, fit) = file_packets block given whole.file in
    record { are = whole.of_packets; rise = rise; fit = fit }

-- positions that rise are at least their numbers
far : (given : List PositionedRecord) (i : ℕ) → PositionsRise given → i < length given → i ≤ (get_or given i no_record).0
far given zero rise lt = omega arith
far given (suc i) rise lt =
    let before = far given i rise (omega (arith, lt)) in
    let less = rise i (suc i) no_record (omega arith) lt in
    omega (arith, before, less)

-- a block file has fewer packets than a number of four bytes counts
pub few : (block : List ℕ) (given : List PositionedRecord) → IsFile block given → length given < 2 ^ 32
few block [] file = omega arith
few block (x ∷ xs) file =
    let given = x ∷ xs in
    let (rise, fit) = file_packets block given file in
    let last = far given (length xs) rise (omega arith) in
    let y = get_or given (length xs) no_record in
    let inside = (record_bytes block y.0 y.1 (packet_at block given y file (Contains-get_or given (length xs) no_record (omega arith)))).inside in
    let size = ap length (sym file.text) ∙ file_length file.size (records_in given) file.file in
    let most : file.size * length (blocks file.size (records_in given)) ≤ MAX_BLOCK * MAX_BLOCKS = mul-le-mul file.file.block_size.most file.file.blocks in
    omega (arith, last, inside, size, most)
