-- No check of a whole pair fails, and a pair whose rows differ nowhere from those of its packets is
-- whole.
use Rattle.std.proofs.Common.{◌≡◌, ℕ, List, Option, Some, None, sym, ap, ◌∙◌, subst, inl, inr}
use Rattle.st_base.specs.Damages.{DamageView}
use Rattle.st_tblock.specs.Block.{RowView}
use Rattle.st_block.specs.Scan.{PositionedRecord, IsFile}
use Rattle.st_block.proofs.Unhurt.{file_unhurt, one_given_there}
use Rattle.st_table.specs.TableFile.{IsTable}
use Rattle.st_table.proofs.OneTable.{one_table}
use Rattle.st_rows.specs.Rows.{AreRowsOf}
use Rattle.st_rows.specs.Whole.{IsWhole}
use Rattle.st_rows.proofs.Packets.{file_packets}
use Rattle.st_rows.proofs.OneRows.{one_list_of_rows}
use Rattle.st_index.specs.CheckRows.{content_wrong, rows_wrong}
use Rattle.st_index.specs.CheckLaws.{WholeUnhurt}
use Rattle.st_index.specs.declared.checker.Part.TheVariants as part
use Rattle.st_index.proofs.TableStands.{table_stands}
use Rattle.st_index.proofs.RowsStand.{content_stands, rows_themselves, same_lists, short_keys}

-- rows that differ nowhere from those of the packets make the pair whole
pub whole_by_rows : (block index : List ℕ) (given : List PositionedRecord) (rows wanted : List RowView) → IsFile block given → IsTable index rows → AreRowsOf given wanted → rows_wrong 0 rows wanted ≡ None → IsWhole block index given
whole_by_rows block index given rows wanted f t are e =
    let same = same_lists 0 rows wanted (short_keys given wanted are) e in
    record { file = f; rows = wanted; table = subst (λ (rs : List RowView). IsTable index rs) same t; of_packets = are }

pub pair_stands : WholeUnhurt
pair_stands block index given part.Block d w e =
    let none = file_unhurt block given w.file in
    let both : ◌≡◌ {A = Option DamageView} None (Some d) = sym none ∙ e in
    cc
pair_stands block index given part.Index d w (none, inl t) = table_stands index w.rows d w.table t
pair_stands block index given part.Index d w (none, inr (rows, table, wrong)) =
    let same : rows ≡ w.rows = one_table index w.rows rows w.table table in
    let well = content_stands given w.rows (file_packets block given w.file).1 w.of_packets in
    let both : ◌≡◌ {A = Option DamageView} None (Some d) = sym well ∙ ap content_wrong (sym same) ∙ wrong in
    cc
pair_stands block index given part.Rows d w f =
    let packets : f.given ≡ given = one_given_there block f.given given f.file w.file in
    let same : f.rows ≡ w.rows = one_table index w.rows f.rows w.table f.table in
    let wanted = one_list_of_rows given f.wanted w.rows (subst (λ (xs : List PositionedRecord). AreRowsOf xs f.wanted) packets f.of_packets) w.of_packets in
    let equal : rows_wrong 0 f.rows f.wanted ≡ None = (λ i. rows_wrong 0 (same i) (wanted i)) ∙ rows_themselves 0 w.rows in
    let both : ◌≡◌ {A = Option DamageView} None (Some d) = sym equal ∙ f.differs in
    cc
