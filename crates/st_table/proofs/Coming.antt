-- Over a table the rows of a range come in order, and no check fails.
use Rattle.std.proofs.Common.{◌≡◌, ℕ, zero, suc, true, false, List, [], ◌∷◌, ◌++◌, append_assoc, length, take, drop, All, Option, Some, None, Result, Ok, Err, refl, sym, ap, ◌∙◌, subst, inl, inr}
use Rattle.std.specs.Prelude.{IsTrue, not}
use Rattle.std.proofs.lemmas.List.{drop-drop, drop_at, drop_all, take_at, take-append-drop}
use Rattle.std.proofs.lemmas.List.Elements.{All-weaker, All-head, All-tail, All-append, All-same, All-nil}
use Rattle.std.proofs.Math.Seq.{take-add}
use Rattle.st_tblock.specs.Block.{RowView, key_or_empty, is_above, is_before}
use Rattle.st_tblock.specs.declared.handle.Handle.{Handle}
use Rattle.st_table.specs.TableFile.{Stored, Between, Blocks, IsTable, is_at_most, footer_at}
use Rattle.st_table.specs.RowOrder.{in_range, KeysRiseAbove, last_key}
use Rattle.st_table.specs.Errors.{NoCheckFailed}
use Rattle.st_table.specs.Rows.{BoundsView, lies_in}
use Rattle.st_table.specs.Index.{Entered}
use Rattle.st_table.specs.Cursor.{CursorView, unread, Goes, IsDone, RefusesNext, Steps, Coming, StepsRow}
use Rattle.st_table.specs.declared.errors.TableErr.{TableErr}
use Rattle.st_table.specs.declared.index.IndexEntry.{IndexEntry}
use Rattle.st_tblock.proofs.Order.{at_most_before, at_most_trans, before_at_most, not_behind, not_itself}
use Rattle.st_table.proofs.Ranges.{in_range-append, in_range-before, in_range-after}
use Rattle.st_table.proofs.Values.{is_between}
use Rattle.st_table.proofs.Tables.{blocks_above, handle_once, stored_stands, not_true, index_once, entered_rises}
use Rattle.st_table.proofs.Stepping.{blocks-split, blocks_once, last_key-append, first_is}

-- what is given are the first of the rows to come
record Later (limit : ℕ) (bytes : List ℕ) (index more given : List RowView) (new : CursorView) : Type 0 where
  later : List RowView
  split : more ≡ given ++ later
  coming : Coming limit bytes index new later

coming_on : (limit : ℕ) (bytes : List ℕ) (index more given : List RowView) (old new : CursorView) → Coming limit bytes index old more → Goes limit bytes index old new given → Later limit bytes index more given new
coming_on limit bytes index more given old new c g =
    let base = last_key None (take old.next index) in
    let all = subst (λ (xs : List RowView). Blocks limit bytes base xs c.read) g.split c.blocks in
    let p = blocks-split limit bytes base g.passed g.rest c.read all in
    let front : p.front ≡ g.read = blocks_once limit bytes base g.passed p.front g.read p.first g.blocks in
    let rest : drop new.next index ≡ g.rest =
    ap (λ (n : ℕ). drop n index) g.next ∙ sym (drop-drop (length g.passed) old.next index)
    ∙ ap (drop (length g.passed)) g.split ∙ drop_at g.passed g.rest (length g.passed) refl in
    let taken : take new.next index ≡ take old.next index ++ g.passed =
    ap (λ (n : ℕ). take n index) g.next ∙ take-add old.next (length g.passed) index
    ∙ ap (λ (xs : List RowView). take old.next index ++ take (length g.passed) xs) g.split
    ∙ ap (λ (xs : List RowView). take old.next index ++ xs) (take_at g.passed g.rest (length g.passed) refl) in
    let low : last_key None (take new.next index) ≡ last_key base g.passed =
    ap (last_key None) taken ∙ last_key-append None (take old.next index) g.passed in
    let back = subst (λ (xs : List RowView). Blocks limit bytes (last_key base g.passed) xs p.back) (sym rest) p.second in
    let parts : in_range old.low old.high c.read ≡ in_range old.low old.high g.read ++ in_range old.low old.high p.back =
    ap (in_range old.low old.high) (p.split ∙ ap (λ (xs : List RowView). xs ++ p.back) front)
    ∙ in_range-append old.low old.high g.read p.back in
    let range : in_range old.low old.high p.back ≡ in_range new.low new.high p.back =
    λ i. in_range (sym g.low i) (sym g.high i) p.back in
    record {
      later = new.rows ++ in_range new.low new.high p.back;
      split =
          c.rows ∙ ap (λ (xs : List RowView). old.rows ++ xs) parts
          ∙ sym (append_assoc old.rows (in_range old.low old.high g.read) (in_range old.low old.high p.back))
          ∙ ap (λ (xs : List RowView). xs ++ in_range old.low old.high p.back) g.rows
          ∙ append_assoc given new.rows (in_range old.low old.high p.back)
          ∙ ap (λ (xs : List RowView). given ++ (new.rows ++ xs)) range;
      coming =
          record {
            read = p.back;
            blocks = subst (λ (k : Option (List ℕ)). Blocks limit bytes k (drop new.next index) p.back) (sym low) back;
            rows = refl;
          };
    }

-- the keys that are left of an index rise
pub rises_rest : (low : Option (List ℕ)) (index : List RowView) (n : ℕ) → KeysRiseAbove low index → KeysRiseAbove (last_key low (take n index)) (drop n index)
rises_rest low index zero h = h
rises_rest low [] (suc n) h = h
rises_rest low (r ∷ index) (suc n) h = rises_rest (Some r.0) index n h.1

-- where the reading is done, no row is to come
none_later : (limit : ℕ) (bytes : List ℕ) (index more : List RowView) (c : CursorView) → KeysRiseAbove None index → c.rows ≡ [] → IsDone index c.next c.high → Coming limit bytes index c more → more ≡ []
none_later limit bytes index more c r e (inl l) h =
    let end : drop c.next index ≡ [] = drop_all c.next index l in
    let none : h.read ≡ [] = subst (λ (xs : List RowView). Blocks limit bytes (last_key None (take c.next index)) xs h.read) end h.blocks in
    h.rows ∙ (λ i. e i ++ in_range c.low c.high (none i))
none_later limit bytes index more c r e (inr (k, last, b)) h =
    let blocks = subst (λ (x : Option (List ℕ)). Blocks limit bytes x (drop c.next index) h.read) last h.blocks in
    let rise = subst (λ (x : Option (List ℕ)). KeysRiseAbove x (drop c.next index)) last (rises_rest None index c.next r) in
    let above = blocks_above limit bytes k (drop c.next index) h.read blocks rise in
    let behind = All-weaker (λ q. is_before k q.0 ≡ true) (λ q. is_before c.high q.0 ≡ true) (λ q p. at_most_before c.high k q.0 b p) h.read above in
    let none = in_range-after c.low c.high h.read behind in
    h.rows ∙ (λ i. e i ++ none i)

-- the next block is refused by no check
next_stands : (limit : ℕ) (bytes : List ℕ) (index rows : List RowView) (n : ℕ) (e : TableErr) → Blocks limit bytes (last_key None (take n index)) (drop n index) rows → RefusesNext limit bytes index n e → NoCheckFailed e
next_stands limit bytes index rows n e b (inl o) = o
next_stands limit bytes index rows n e b (inr (a, h, i, refuses)) =
    let base = last_key None (take n index) in
    let cut = first_is base i.low (drop n index) i.entry i.here in
    let blocks = subst (λ (xs : List RowView). Blocks limit bytes base xs rows) cut.1.1 b in
    let names = blocks.2 in
    let same = handle_once i.entry.1 names.handle h names.named i.named in
    let stored = subst (λ (x : Handle). Stored limit bytes x blocks.0) same names.stored in
    let between = subst (λ (k : Option (List ℕ)). Between k i.entry.0 blocks.0) cut.0 names.between in
    let pass = subst (λ (x : BoundsView). All (λ r. IsTrue (lies_in x r)) blocks.0) (sym i.keys) (is_between i.low i.entry.0 blocks.0 between) in
    stored_stands (lies_in a) limit bytes h blocks.0 e stored pass refuses

-- so each step gives the next of the rows to come
pub steps_row : (limit : ℕ) (bytes : List ℕ) (index more : List RowView) (old new : CursorView) (r : Result (Option RowView) TableErr) → KeysRiseAbove None index → Coming limit bytes index old more → Steps limit bytes index old new r → StepsRow limit bytes index more new r
steps_row limit bytes index more old new (Ok (Some q)) u c s =
    let l = coming_on limit bytes index more (q ∷ []) old new c s.0 in
    (l.later, l.split, l.coming)
steps_row limit bytes index more old new (Ok None) u c (g, e, d) =
    let l = coming_on limit bytes index more [] old new c g in
    let none = none_later limit bytes index l.later new u e d l.coming in
    (l.split ∙ none, subst (Coming limit bytes index new) none l.coming)
steps_row limit bytes index more old new (Err e) u c (g, f) =
    let l = coming_on limit bytes index more [] old new c g in
    (next_stands limit bytes index l.coming.read new.next e l.coming.blocks f, subst (Coming limit bytes index new) (sym l.split) l.coming)

-- rows of blocks whose index keys are before a key
blocks_below : (limit : ℕ) (bytes key : List ℕ) (low : Option (List ℕ)) (index rows : List RowView) → Blocks limit bytes low index rows → All (λ e. is_before e.0 key ≡ true) index → All (λ r. is_before r.0 key ≡ true) rows
blocks_below limit bytes key low [] rows b a = All-same (λ r. is_before r.0 key ≡ true) rows [] b (All-nil (λ r. is_before r.0 key ≡ true))
blocks_below limit bytes key low (e ∷ index) rows (here, more, n, split, rest) a =
    let first = All-head (λ r. is_before r.0 key ≡ true) e index a in
    let front = All-weaker (λ r. IsTrue (is_above low r.0) × IsTrue (is_at_most e.0 r.0)) (λ r. is_before r.0 key ≡ true) (λ r p. at_most_before r.0 e.0 key (not_true (is_before e.0 r.0) p.1) first) here n.between in
    let back = blocks_below limit bytes key (Some e.0) index more rest (All-tail (λ r. is_before r.0 key ≡ true) e index a) in
    All-same (λ r. is_before r.0 key ≡ true) rows (here ++ more) split (All-append (λ r. is_before r.0 key ≡ true) here more front back)

-- before the first step the rows in the range are to come
pub coming_first : (bytes low high : List ℕ) (rows : List RowView) (entries : List IndexEntry) (n : ℕ) → (t : IsTable bytes rows) → (e : Entered bytes entries) → All (λ r. is_before r.0 low ≡ true) (take n e.index) → Coming (footer_at bytes) bytes e.index (unread low high n) (in_range low high rows)
coming_first bytes low high rows entries n t e a =
    let limit = footer_at bytes in
    let blocks = subst (λ (i : List RowView). Blocks limit bytes None i rows) (index_once bytes rows entries t e) t.blocks in
    let all = subst (λ (i : List RowView). Blocks limit bytes None i rows) (sym (take-append-drop n e.index)) blocks in
    let p = blocks-split limit bytes None (take n e.index) (drop n e.index) rows all in
    let below = blocks_below limit bytes low None (take n e.index) p.front p.first a in
    record { read = p.back; blocks = p.second; rows = ap (in_range low high) p.split ∙ in_range-before low high p.front p.back below }

-- keys that rise end at or after the key that they rise from
pub last_behind : (k : List ℕ) (index : List RowView) → KeysRiseAbove (Some k) index → is_before (key_or_empty (last_key (Some k) index)) k ≡ false
last_behind k [] h = not_itself k
last_behind k (r ∷ index) h =
    let last = key_or_empty (last_key (Some r.0) index) in
    not_behind k last (before_at_most k r.0 last h.0 (last_behind r.0 index h.1))

-- so every row is at or before the last index key
pub blocks_last : (limit : ℕ) (bytes : List ℕ) (low : Option (List ℕ)) (index rows : List RowView) → Blocks limit bytes low index rows → KeysRiseAbove low index → All (λ r. IsTrue (is_at_most (key_or_empty (last_key low index)) r.0)) rows
blocks_last limit bytes low [] rows b h = All-same (λ r. IsTrue (is_at_most (key_or_empty low) r.0)) rows [] b (All-nil (λ r. IsTrue (is_at_most (key_or_empty low) r.0)))
blocks_last limit bytes low (e ∷ index) rows (here, more, n, split, rest) h =
    let last = key_or_empty (last_key (Some e.0) index) in
    let P = λ (r : RowView). IsTrue (is_at_most last r.0) in
    let front = All-weaker (λ r. IsTrue (is_above low r.0) × IsTrue (is_at_most e.0 r.0)) P (λ r p. let q = at_most_trans r.0 e.0 last (not_true (is_before e.0 r.0) p.1) (last_behind e.0 index h.1) in ap not q) here n.between in
    let back = blocks_last limit bytes (Some e.0) index more rest h.1 in
    All-same P rows (here ++ more) split (All-append P here more front back)

pub table_last : (bytes : List ℕ) (rows : List RowView) (entries : List IndexEntry) (last : List ℕ) → (t : IsTable bytes rows) → (e : Entered bytes entries) → last ≡ key_or_empty (last_key None e.index) → All (λ r. IsTrue (is_at_most last r.0)) rows
table_last bytes rows entries last t e l =
    let limit = footer_at bytes in
    let blocks = subst (λ (i : List RowView). Blocks limit bytes None i rows) (index_once bytes rows entries t e) t.blocks in
    subst (λ (k : List ℕ). All (λ r. IsTrue (is_at_most k r.0)) rows) (sym l) (blocks_last limit bytes None e.index rows blocks (entered_rises bytes entries e))
