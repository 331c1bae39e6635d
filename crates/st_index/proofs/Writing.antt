-- Adding the rows of a maker to a table, one by one.
use Rattle.std.proofs.Common.{◌≡◌, ℕ, ◌+◌, ◌<◌, List, [], ◌∷◌, ◌++◌, length, length-append, append_assoc, append-nil, IsTrue, Option, Some, None, Result, Ok, Err, is_some, refl, sym, ap, ◌∙◌, subst, arith, true≢false}
use Rattle.std.specs.Prelude.{IfOk}
use Rattle.std.specs.Io.KnownBytes.{Appends}
use Rattle.std.proofs.KnownBytes.{Appends-nil, Appends-trans}
use Rattle.byteorder.specs.Numbers.{length-bytes_high_first}
use Rattle.std.specs.Int.{bytes_high_first}
use Rattle.st_base.specs.Pieces.{AppendsPrefix, Puts}
use Rattle.st_base.proofs.Putting.{prefix-more, prefix-then}
use Rattle.st_walk.specs.KeyText.{key_text, Fits}
use Rattle.st_tblock.specs.Block.{RowView, is_above}
use Rattle.st_table.specs.TableFile.{IsTable}
use Rattle.st_table.specs.TableBuilderView.{TableBuilderView, no_rows, room_of, written_by, after_row, finishing}
use Rattle.st_table.specs.Builder.{Builds, MayAdd, last_added}
use Rattle.st_rows.specs.Rows.{SummaryView, summary_key, summary_value}
use Rattle.st_rows.proofs.OneList.{here}
use Rattle.st_index.specs.EntryLists.{KeyList}
use Rattle.st_index.specs.KeyLists.{lists_left}
use Rattle.st_index.specs.RowList.{summary_row, key_row, held_row, IsNextOf}
use Rattle.st_index.specs.Summaries.{summary_view}
use Rattle.st_index.specs.Write.{after_rows, rows_text, table_text, BuildsOn, IsReady}
use Rattle.st_index.specs.declared.row_list.RowList.{RowList}
use Rattle.st_index.specs.declared.summary.Summary.{Summary}
use Rattle.st_index.proofs.RowsOf.{text_before, summary_before, text_size, value_size, row_room}

-- ---- what a builder may add

summary_size : (v : SummaryView) → length (summary_value v) ≡ 24
summary_size v =
    let a = length-bytes_high_first 4 1 in
    let b = length-bytes_high_first 4 v.packets in
    let c = length-bytes_high_first 4 v.first.0 in
    let d = length-bytes_high_first 4 v.first.1 in
    let e = length-bytes_high_first 4 v.last.0 in
    let f = length-bytes_high_first 4 v.last.1 in
    let lf = length-append (bytes_high_first 4 v.last.0) (bytes_high_first 4 v.last.1) in
    let le = length-append (bytes_high_first 4 v.first.1) (bytes_high_first 4 v.last.0 ++ bytes_high_first 4 v.last.1) in
    let ld = length-append (bytes_high_first 4 v.first.0) (bytes_high_first 4 v.first.1 ++ (bytes_high_first 4 v.last.0 ++ bytes_high_first 4 v.last.1)) in
    let lc = length-append (bytes_high_first 4 v.packets) (bytes_high_first 4 v.first.0 ++ (bytes_high_first 4 v.first.1 ++ (bytes_high_first 4 v.last.0 ++ bytes_high_first 4 v.last.1))) in
    let lb = length-append (bytes_high_first 4 1) (bytes_high_first 4 v.packets ++ (bytes_high_first 4 v.first.0 ++ (bytes_high_first 4 v.first.1 ++ (bytes_high_first 4 v.last.0 ++ bytes_high_first 4 v.last.1)))) in
    omega (arith, a, b, c, d, e, f, lb, lc, ld, le, lf)

-- the summary row, if it is the first
may_add_summary : (k : TableBuilderView) (s : Summary) (lists : List KeyList) → IsReady k (Some s) lists → MayAdd k (summary_row s)
may_add_summary k s lists ready =
    let size = summary_size (summary_view s) in
    let room = ready.room in
    record {
      above = subst (λ (o : Option (List ℕ)). IsTrue (is_above o summary_key)) (sym (ready.first s refl)) refl;
      key = omega arith;
      value = omega (arith, size);
      room = omega (arith, room);
    }

may_add_list : (k : TableBuilderView) (x : KeyList) (rest : List KeyList) → IsReady k None (x ∷ rest) → Fits x.0 → 0 < length x.1 → MayAdd k (key_row x)
may_add_list k x rest ready fits some =
    let key = text_size x.0 in
    let value = value_size x.1 in
    let few = ready.few in
    let room = ready.room in
    let own = row_room x some in
    record {
      above = ready.above x (here x rest) fits;
      key = omega (arith, key);
      value = omega (arith, value, few);
      room = omega (arith, room, own);
    }

pub may_add : (k : TableBuilderView) (o : Option Summary) (lists : List KeyList) (w : RowList) → IsReady k o lists → IsNextOf o lists w → MayAdd k (held_row w)
may_add k (Some s) lists w ready (gone, same, row) = subst (λ (r : RowView). MayAdd k r) (sym row) (may_add_summary k s lists ready)
may_add k None lists w ready (x, gone, split, row, fits, some) =
    subst (λ (r : RowView). MayAdd k r) (sym row) (may_add_list k x (lists_left w.lists) (subst (λ (xs : List KeyList). IsReady k None xs) split ready) fits some)

-- ---- what it may add then

after_summary : (k q : TableBuilderView) (s : Summary) (lists : List KeyList) → IsReady k (Some s) lists → last_added q ≡ Some summary_key → q.spent ≡ k.spent + room_of (summary_row s)
    → IsReady q None lists
after_summary k q s lists ready last spent =
    let room = ready.room in
    record {
      first = λ t e. absurd (true≢false (ap is_some (sym e)));
      above = λ x c f. subst (λ (o : Option (List ℕ)). IsTrue (is_above o (key_text x.0))) (sym last) (summary_before x.0);
      ascend = ready.ascend;
      few = ready.few;
      room = omega (arith, room, spent);
    }

after_list : (k q : TableBuilderView) (x : KeyList) (rest : List KeyList) → IsReady k None (x ∷ rest) → Fits x.0 → 0 < length x.1 → last_added q ≡ Some (key_text x.0)
    → q.spent ≡ k.spent + room_of (key_row x) → IsReady q None rest
after_list k q x rest ready fits some last spent =
    let room = ready.room in
    let few = ready.few in
    let own = row_room x some in
    record {
      first = λ t e. absurd (true≢false (ap is_some (sym e)));
      above = λ y c f. subst (λ (o : Option (List ℕ)). IsTrue (is_above o (key_text y.0))) (sym last) (text_before x.0 y.0 fits f (ready.ascend.0 y c));
      ascend = ready.ascend.1;
      few = omega (arith, few);
      room = omega (arith, room, spent, own);
    }

pub ready_on : (k q : TableBuilderView) (o : Option Summary) (lists : List KeyList) (w : RowList) → IsReady k o lists → IsNextOf o lists w
    → last_added q ≡ Some (held_row w).0 → q.spent ≡ k.spent + room_of (held_row w) → IsReady q w.summary (lists_left w.lists)
ready_on k q (Some s) lists w ready (gone, same, row) last spent =
    let then_ready = after_summary k q s lists ready (last ∙ ap (λ (r : RowView). Some r.0) row) (spent ∙ ap (λ (r : RowView). k.spent + room_of r) row) in
    subst (λ (p : Option Summary). IsReady q p (lists_left w.lists)) (sym gone) (subst (λ (xs : List KeyList). IsReady q None xs) (sym same) then_ready)
ready_on k q None lists w ready (x, gone, split, row, fits, some) last spent =
    let then_ready = after_list k q x (lists_left w.lists) (subst (λ (xs : List KeyList). IsReady k None xs) split ready) fits some (last ∙ ap (λ (r : RowView). Some r.0) row) (spent ∙ ap (λ (r : RowView). k.spent + room_of r) row) in
    subst (λ (p : Option Summary). IsReady q p (lists_left w.lists)) (sym gone) then_ready

-- ---- rows, one after the other

pub after_rows-append : (k : TableBuilderView) (xs ys : List RowView) → after_rows k (xs ++ ys) ≡ after_rows (after_rows k xs) ys
after_rows-append k [] ys = refl
after_rows-append k (x ∷ xs) ys = after_rows-append (after_row k x) xs ys

pub rows_text-append : (k : TableBuilderView) (xs ys : List RowView) → rows_text k (xs ++ ys) ≡ rows_text k xs ++ rows_text (after_rows k xs) ys
rows_text-append k [] ys = refl
rows_text-append k (x ∷ xs) ys =
    ap (λ (t : List ℕ). written_by k x ++ t) (rows_text-append (after_row k x) xs ys) ∙ sym (append_assoc (written_by k x) (rows_text (after_row k x) xs) (rows_text (after_rows (after_row k x) xs) ys))

-- some of the rows were put, and others are still to come
pub record HasPut (old now : TableBuilderView) (all left : List RowView) (before then_written : Option (List ℕ)) : Type 0 where
  pub done : List RowView
  pub split : all ≡ done ++ left
  pub builder : now ≡ after_rows old done
  pub written : Appends before then_written (rows_text old done)
  pub builds : BuildsOn old now (rows_text old done) done

pub put_none : (k : TableBuilderView) (all : List RowView) (written : Option (List ℕ)) → HasPut k k all all written written
put_none k all written = record {
  done = [];
  split = refl;
  builder = refl;
  written = Appends-nil written;
  builds = λ bytes before h. subst (λ (b : List ℕ). Builds k b (before ++ [])) (sym (append-nil bytes)) (subst (λ (rs : List RowView). Builds k bytes rs) (sym (append-nil before)) h);
}

-- one row more
pub put_more : (old k q : TableBuilderView) (all left more : List RowView) (r : RowView) (before mid now : Option (List ℕ)) → HasPut old k all left before mid
    → left ≡ r ∷ more → q ≡ after_row k r → Appends mid now (written_by k r) → BuildsOn k q (written_by k r) (r ∷ []) → HasPut old q all more before now
put_more old k q all left more r before mid now h split after written builds =
    let text : rows_text old (h.done ++ r ∷ []) ≡ rows_text old h.done ++ written_by k r =
    rows_text-append old h.done (r ∷ []) ∙ (ap (λ (p : TableBuilderView). rows_text old h.done ++ (written_by p r ++ [])) (sym h.builder) ∙ ap (λ (t : List ℕ). rows_text old h.done ++ t) (append-nil (written_by k r))) in
    record {
      done = h.done ++ r ∷ [];
      split = h.split ∙ (ap (λ (rs : List RowView). h.done ++ rs) split ∙ sym (append_assoc h.done (r ∷ []) more));
      builder = after ∙ (ap (λ (p : TableBuilderView). after_row p r) h.builder ∙ sym (after_rows-append old h.done (r ∷ [])));
      written = subst (λ (t : List ℕ). Appends before now t) (sym text) (Appends-trans before mid now (rows_text old h.done) (written_by k r) h.written written);
      builds = λ bytes rows b.
          let on = builds (bytes ++ rows_text old h.done) (rows ++ h.done) (h.builds bytes rows b) in
          subst (λ (t : List ℕ). Builds q (bytes ++ t) (rows ++ (h.done ++ r ∷ []))) (sym text)
          (subst (λ (t : List ℕ). Builds q t (rows ++ (h.done ++ r ∷ []))) (append_assoc bytes (rows_text old h.done) (written_by k r))
          (subst (λ (rs : List RowView). Builds q ((bytes ++ rows_text old h.done) ++ written_by k r) rs) (append_assoc rows h.done (r ∷ [])) on));
    }

-- after a fault in the next row, or in the rows to come
pub put_prefix : (old k : TableBuilderView) (all left : List RowView) (before mid now : Option (List ℕ)) → HasPut old k all left before mid
    → AppendsPrefix mid now (rows_text k left) → AppendsPrefix before now (rows_text old all)
put_prefix old k all left before mid now h p =
    let text : rows_text old all ≡ rows_text old h.done ++ rows_text k left =
    ap (rows_text old) h.split ∙ (rows_text-append old h.done left ∙ ap (λ (q : TableBuilderView). rows_text old h.done ++ rows_text q left) (sym h.builder)) in
    subst (λ (t : List ℕ). AppendsPrefix before now t) (sym text) (prefix-then before mid now (rows_text old h.done) (rows_text k left) h.written p)

-- no row is left
pub put_all : (old k : TableBuilderView) (all left : List RowView) (before now : Option (List ℕ)) → HasPut old k all left before now → left ≡ []
    → (k ≡ after_rows old all) × Appends before now (rows_text old all) × BuildsOn old k (rows_text old all) all
put_all old k all left before now h none =
    let whole : h.done ≡ all = sym (h.split ∙ (ap (λ (rs : List RowView). h.done ++ rs) none ∙ append-nil h.done)) in
    subst (λ (rs : List RowView). (k ≡ after_rows old rs) × Appends before now (rows_text old rs) × BuildsOn old k (rows_text old rs) rs) whole (h.builder, h.written, h.builds)

-- ---- the whole table

-- all rows were put to a new builder
abbrev pub AllPut : TableBuilderView → List RowView → Option (List ℕ) → Option (List ℕ) → Type 0
AllPut k rows before now =
    (k ≡ after_rows no_rows rows) × Appends before now (rows_text no_rows rows) × BuildsOn no_rows k (rows_text no_rows rows) rows

pub all_put : (first k : TableBuilderView) (left rows : List RowView) (before now : Option (List ℕ)) → first ≡ no_rows → left ≡ rows
    → (k ≡ after_rows first left) × Appends before now (rows_text first left) × BuildsOn first k (rows_text first left) left → AllPut k rows before now
all_put first k left rows before now e f h =
    subst (λ (b : TableBuilderView). (k ≡ after_rows b rows) × Appends before now (rows_text b rows) × BuildsOn b k (rows_text b rows) rows) e
    (subst (λ (rs : List RowView). (k ≡ after_rows first rs) × Appends before now (rows_text first rs) × BuildsOn first k (rows_text first rs) rs) f h)

pub table_put : {T E : Type 0} (k : TableBuilderView) (rows : List RowView) (before mid now : Option (List ℕ)) (result : Result T E) → AllPut k rows before mid
    → Puts mid now (finishing k) result → Puts before now (table_text rows) result
table_put k rows before mid now (Ok u) (is, written, builds) put =
    subst (λ (q : TableBuilderView). Appends before now (rows_text no_rows rows ++ finishing q)) is (Appends-trans before mid now (rows_text no_rows rows) (finishing k) written put)
table_put k rows before mid now (Err e) (is, written, builds) put =
    subst (λ (q : TableBuilderView). AppendsPrefix before now (rows_text no_rows rows ++ finishing q)) is (prefix-then before mid now (rows_text no_rows rows) (finishing k) written put)

pub builds_all : (k : TableBuilderView) (rows : List RowView) (before now : Option (List ℕ)) → Builds no_rows [] [] → AllPut k rows before now → Builds k (rows_text no_rows rows) rows
builds_all k rows before now none (is, written, builds) = builds [] [] none

pub table_length : {E : Type 0} (k : TableBuilderView) (rows : List RowView) (before now : Option (List ℕ)) (result : Result ℕ E) → Builds no_rows [] [] → AllPut k rows before now
    → IfOk result (λ n. n ≡ k.at + length (finishing k)) → IfOk result (λ n. n ≡ length (table_text rows))
table_length k rows before now (Err e) none put h = h
table_length k rows before now (Ok n) none put h =
    let at = (builds_all k rows before now none put).at in
    let end : length (finishing k) ≡ length (finishing (after_rows no_rows rows)) = ap (λ (q : TableBuilderView). length (finishing q)) put.0 in
    let all = length-append (rows_text no_rows rows) (finishing (after_rows no_rows rows)) in
    omega (arith, at, end, all, h)

pub table_of : (k : TableBuilderView) (rows : List RowView) (before now : Option (List ℕ)) → Builds no_rows [] [] → AllPut k rows before now
    → ((bytes : List ℕ) (rs : List RowView) → Builds k bytes rs → IsTable (bytes ++ finishing k) rs) → IsTable (table_text rows) rows
table_of k rows before now none put table =
    subst (λ (q : TableBuilderView). IsTable (rows_text no_rows rows ++ finishing q) rows) put.0 (table (rows_text no_rows rows) rows (builds_all k rows before now none put))

pub table_prefix : (k : TableBuilderView) (left rows : List RowView) (before now : Option (List ℕ)) → k ≡ no_rows → left ≡ rows → AppendsPrefix before now (rows_text k left) → AppendsPrefix before now (table_text rows)
table_prefix k left rows before now e f p =
    prefix-more before now (rows_text no_rows rows) (finishing (after_rows no_rows rows))
    (subst (λ (b : TableBuilderView). AppendsPrefix before now (rows_text b rows)) e (subst (λ (rs : List RowView). AppendsPrefix before now (rows_text k rs)) f p))
