-- What reading a whole table gives.
use Rattle.std.proofs.Common.{◌≡◌, ℕ, List, [], None, Result, Ok, Err, ap, ◌∙◌, inl, inr}
use Rattle.std.specs.Prelude.{IfOk}
use Rattle.st_tblock.specs.Block.{RowView, key_or_empty}
use Rattle.st_table.specs.TableFile.{footer_at}
use Rattle.st_table.specs.RowOrder.{last_key}
use Rattle.st_table.specs.Index.{Entered}
use Rattle.st_table.specs.IndexLookup.{entry_for, found_at}
use Rattle.st_table.specs.Cursor.{CursorView, unread}
use Rattle.st_table.specs.declared.errors.TableErr.{TableErr}
use Rattle.st_table.specs.declared.index.IndexEntry.{IndexEntry}
use Rattle.st_table.proofs.Joining.{whole_reading}
use Rattle.st_index.specs.CheckWalk.{Walks}
use Rattle.st_index.specs.Verdict.{RefusesData}
use Rattle.st_index.specs.CheckIndex.{ReadsTable, Refuses, JudgesIndex}
use Rattle.st_index.specs.declared.checker.Part.TheVariants as part
use Rattle.st_index.specs.declared.checker.Verdict.{Verdict}
use Rattle.st_index.specs.declared.checker.Verdict.TheVariants.{Whole, Differs}
use Rattle.st_index.specs.declared.checker.CheckErr.{CheckErr}
use Rattle.st_index.specs.declared.checker.walk.Found.{Found}
use Rattle.st_index.proofs.Reading.{refuses_data}

-- a walk from no bytes to the last index key reads the table
pub walk_reads : (bytes : List ℕ) (entries : List IndexEntry) (old new : CursorView) (high : List ℕ) (wanted : List RowView) (r : Result Found TableErr) → (entered : Entered bytes entries)
    → old ≡ unread [] high old.next → high ≡ key_or_empty (last_key None entered.index)
    → entry_for [] None entered.index ≡ found_at entered.index old.next
    → Walks (footer_at bytes) bytes entered.index old new wanted r → ReadsTable bytes wanted r
walk_reads bytes entries old new high wanted (Ok f) entered b h e (rows, goes, none, done, m, w) =
    let whole = whole_reading bytes entries old new rows entered (
    record {
      begins = b ∙ ap (λ (k : List ℕ). unread [] k old.next) h;
      first = e;
      goes = goes;
      none = none;
      done = done;
    }) in
    (rows, whole, m, w)
walk_reads bytes entries old new high wanted (Err error) entered b h e (rows, goes, refused) =
    refuses_data bytes entries old new rows error entered e goes refused

-- a refused data block is the verdict on the index
pub refused_data : (bytes : List ℕ) (wanted : List RowView) (packets : ℕ) (e : TableErr) (r : Result Verdict CheckErr) → RefusesData bytes e → Refuses e r → IfOk r (JudgesIndex bytes wanted packets)
refused_data bytes wanted packets e (Ok (Whole n)) d r = absurd r
refused_data bytes wanted packets e (Ok (Differs part.Block x)) d r = absurd r
refused_data bytes wanted packets e (Ok (Differs part.Index x)) d r = inl (e, r, inr d)
refused_data bytes wanted packets e (Ok (Differs part.Rows x)) d r = absurd r
refused_data bytes wanted packets e (Err x) d r = tt
