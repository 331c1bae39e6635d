-- The files of a lane that was sealed are a whole pair.
use Rattle.std.proofs.Common.{◌≡◌, ℕ, zero, suc, ◌+◌, ◌≤◌, Option, Some, List, [], ◌∷◌, ◌++◌, length, length-append, sym, ap, ◌∙◌, subst, arith}
use Rattle.std.specs.Prelude.{All}
use Rattle.std.specs.Io.KnownBytes.{Appends}
use Rattle.st_base.specs.Records.{Rec}
use Rattle.st_block.specs.BlockText.{HasBytes, HasFile, BlockText, blocks, block_text, blocks_text}
use Rattle.st_block.specs.Scan.{PositionedRecord, records_in}
use Rattle.st_block.specs.Position.{positions}
use Rattle.st_block.proofs.Going.{text_push}
use Rattle.st_rows.specs.Rows.{AllFit}
use Rattle.st_index.specs.Maker.{HasRecords}
use Rattle.st_index.specs.Write.{IsIndexOf}
use Rattle.st_lane.specs.Filling.{but_last, last_block}
use Rattle.st_lane.specs.Lane.{LaneView, Represents}
use Rattle.st_lane.specs.Sealing.{AreWhole}
use Rattle.st_lane.proofs.Blocks.{whole_blocks}
use Rattle.st_lane.proofs.Representing.{known_after}

-- packets whose numbers fit are of bytes
pub all_bytes : (given : List PositionedRecord) → AllFit given → All HasBytes (records_in given)
all_bytes [] fit k d l = absurd (omega arith)
all_bytes (x ∷ given) fit zero d l = (fit zero x (omega arith)).3
all_bytes (x ∷ given) fit (suc k) d l = all_bytes given (λ i e h. fit (suc i) e (omega arith)) k d (omega arith)

-- the text of all blocks is that of all but the last, and of the last
whole_text : (size : ℕ) (rs : List Rec) → 1 ≤ length rs → blocks_text size 0 (but_last (blocks size rs)) ++ block_text size (length (but_last (blocks size rs))) (last_block (blocks size rs)) ≡ BlockText size rs
whole_text size rs some =
    let bs = blocks size rs in
    let n : 0 + length (but_last bs) ≡ length (but_last bs) = omega arith in
    ap (λ k. blocks_text size 0 (but_last bs) ++ block_text size k (last_block bs)) (sym n)
    ∙ (sym (text_push size 0 (but_last bs) (last_block bs)) ∙ ap (λ l. blocks_text size 0 l) (whole_blocks size rs some))

pub whole_pair : {T : Type 0} (written : T → Option (List ℕ)) (l : LaneView T) (rs : List Rec) (block index sealed_block sealed_index : Option (List ℕ)) (table : List ℕ)
    → Represents written l rs → 1 ≤ l.filling.records
    → Appends (written l.block) block (block_text l.filling.size l.filling.done (last_block (blocks l.filling.size rs)))
    → Appends (written l.index) index table
    → ((given : List PositionedRecord) → HasRecords l.filling.maker given → IsIndexOf given table)
    → sealed_block ≡ block → sealed_index ≡ index
    → AreWhole l.filling.size rs sealed_block sealed_index
whole_pair written l rs block index sealed_block sealed_index table was some put_block put_index indexed block_is index_is =
    let f = l.filling in
    let fills = was.fills in
    let c = fills.count in
    let many : 1 ≤ length rs = omega arith in
    let bs = blocks f.size rs in
    let all = ap length (whole_blocks f.size rs many) in
    let parts = length-append (but_last bs) (last_block bs ∷ []) in
    let d = fills.done in
    let allowed = fills.allowed in
    let limit = fills.few in
    let few : length bs ≤ 4095 = omega arith in
    let text : blocks_text f.size 0 (but_last bs) ++ block_text f.size f.done (last_block bs) ≡ BlockText f.size rs =
    ap (λ k. blocks_text f.size 0 (but_last bs) ++ block_text f.size k (last_block bs)) d ∙ whole_text f.size rs many in
    let same = fills.records in
    let file : HasFile f.size rs = record { block_size = fills.size; some = many; range = fills.range; of_bytes = subst (All HasBytes) same (all_bytes fills.given fills.made.fit); short = fills.short; blocks = few } in
    let made = indexed fills.given fills.made in
    record {
      text = block_is ∙ (known_after (blocks_text f.size 0 (but_last bs)) (block_text f.size f.done (last_block bs)) (written l.block) block was.block put_block ∙ ap (λ (x : List ℕ). Some x) text);
      table = table;
      indexed = index_is ∙ known_after [] table (written l.index) index was.index put_index;
      given = fills.given;
      records = same;
      whole = record {
        file = record {
          size = f.size;
          file = subst (HasFile f.size) (sym same) file;
          text = ap (BlockText f.size) same;
          heads = ap (positions f.size) same ∙ sym fills.positions;
        };
        rows = made.0;
        table = made.1;
        of_packets = made.2;
      };
    }
