-- Readings joined one after another, and a reading of all rows.
use Rattle.std.proofs.Common.{◌≡◌, ℕ, zero, suc, true, false, List, [], ◌∷◌, ◌++◌, append_assoc, append-nil, length, length-append, length-drop, take, drop, All, Option, Some, None, refl, sym, ap, ◌∙◌, subst, inl, inr, arith}
use Rattle.std.specs.Prelude.{IsTrue}
use Rattle.std.proofs.lemmas.List.{drop-drop, drop_at, take_at, take-append-drop}
use Rattle.std.proofs.lemmas.List.Elements.{All-head, All-tail}
use Rattle.std.proofs.Math.Seq.{take-add}
use Rattle.st_tblock.specs.Block.{RowView, is_before, key_or_empty}
use Rattle.st_tblock.proofs.Order.{before_at_most}
use Rattle.st_table.specs.TableFile.{Blocks, IsTable, is_at_most, footer_at}
use Rattle.st_table.specs.RowOrder.{KeysRiseAbove, last_key, in_range}
use Rattle.st_table.specs.IndexLookup.{entry_for, first_after, found_at}
use Rattle.st_table.specs.Index.{Entered}
use Rattle.st_table.specs.Cursor.{CursorView, Goes, IsDone, ReadsAll}
use Rattle.st_table.specs.declared.index.IndexEntry.{IndexEntry}
use Rattle.st_table.proofs.Ranges.{in_range-append}
use Rattle.st_table.proofs.Tables.{entered_rises}
use Rattle.st_table.proofs.Stepping.{blocks-append, last_key-append, first_is}
use Rattle.st_table.proofs.Coming.{blocks_last, last_behind, rises_rest}

-- what is left of an index after a reading went on, and what it passed
rest_is : (limit : ℕ) (bytes : List ℕ) (index : List RowView) (old new : CursorView) (given : List RowView) → (g : Goes limit bytes index old new given) → drop new.next index ≡ g.rest
rest_is limit bytes index old new given g =
    ap (λ (n : ℕ). drop n index) g.next ∙ sym (drop-drop (length g.passed) old.next index)
    ∙ ap (drop (length g.passed)) g.split ∙ drop_at g.passed g.rest (length g.passed) refl

last_is : (limit : ℕ) (bytes : List ℕ) (index : List RowView) (old new : CursorView) (given : List RowView) → (g : Goes limit bytes index old new given) → last_key None (take new.next index) ≡ last_key (last_key None (take old.next index)) g.passed
last_is limit bytes index old new given g =
    let taken : take new.next index ≡ take old.next index ++ g.passed =
    ap (λ (n : ℕ). take n index) g.next ∙ take-add old.next (length g.passed) index
    ∙ ap (λ (xs : List RowView). take old.next index ++ take (length g.passed) xs) g.split
    ∙ ap (λ (xs : List RowView). take old.next index ++ xs) (take_at g.passed g.rest (length g.passed) refl) in
    ap (last_key None) taken ∙ last_key-append None (take old.next index) g.passed

-- a step after a step is a step over both
pub goes_joined : (limit : ℕ) (bytes : List ℕ) (index : List RowView) (old mid new : CursorView) (given more : List RowView) → Goes limit bytes index old mid given → Goes limit bytes index mid new more → Goes limit bytes index old new (given ++ more)
goes_joined limit bytes index old mid new given more g h =
    let base = last_key None (take old.next index) in
    let rest : g.rest ≡ h.passed ++ h.rest = sym (rest_is limit bytes index old mid given g) ∙ h.split in
    let later = subst (λ (k : Option (List ℕ)). Blocks limit bytes k h.passed h.read) (last_is limit bytes index old mid given g) h.blocks in
    let range : in_range mid.low mid.high h.read ≡ in_range old.low old.high h.read = λ i. in_range (g.low i) (g.high i) h.read in
    record {
      passed = g.passed ++ h.passed;
      rest = h.rest;
      read = g.read ++ h.read;
      split = g.split ∙ ap (λ (xs : List RowView). g.passed ++ xs) rest ∙ sym (append_assoc g.passed h.passed h.rest);
      next = let a = g.next in let b = h.next in let c = length-append g.passed h.passed in omega arith;
      blocks = blocks-append limit bytes base g.passed h.passed g.read h.read g.blocks later;
      low = h.low ∙ g.low;
      high = h.high ∙ g.high;
      rows =
          ap (λ (xs : List RowView). old.rows ++ xs) (in_range-append old.low old.high g.read h.read)
          ∙ sym (append_assoc old.rows (in_range old.low old.high g.read) (in_range old.low old.high h.read))
          ∙ ap (λ (xs : List RowView). xs ++ in_range old.low old.high h.read) g.rows
          ∙ append_assoc given mid.rows (in_range old.low old.high h.read)
          ∙ ap (λ (xs : List RowView). given ++ (mid.rows ++ xs)) (sym range)
          ∙ ap (λ (xs : List RowView). given ++ xs) h.rows
          ∙ sym (append_assoc given more new.rows);
    }

-- no key is below no bytes
not_below : (key : List ℕ) → is_before key [] ≡ false
not_below [] = refl
not_below (b ∷ key) = refl

-- rows up to a key are all in the range from no bytes to it
pub all_in_range : (high : List ℕ) (rows : List RowView) → All (λ r. IsTrue (is_at_most high r.0)) rows → in_range [] high rows ≡ rows
all_in_range high [] a = refl
all_in_range high (r ∷ rows) a =
    let here : is_at_most high r.0 ≡ true = All-head (λ (q : RowView). IsTrue (is_at_most high q.0)) r rows a in
    let low = not_below r.0 in
    let rest = all_in_range high rows (All-tail (λ (q : RowView). IsTrue (is_at_most high q.0)) r rows a) in
    rw (here, low) (ap (λ (xs : List RowView). r ∷ xs) rest)

-- after a key there is a last key
last_some : (k : List ℕ) (rows : List RowView) → last_key (Some k) rows ≡ None → ⊥
last_some k [] e = cc
last_some k (r ∷ rows) e = last_some r.0 rows e

-- the index entry for no bytes is the first: no entry is before it
at_first : (index : List RowView) (n : ℕ) → entry_for [] None index ≡ found_at index n → (last_key None (take n index) ≡ None) × (drop n index ≡ index)
at_first index zero e = (refl, refl)
at_first [] (suc n) e = (refl, refl)
at_first (r ∷ index) (suc n) e =
    let first : entry_for [] None (r ∷ index) ≡ Some (None, r) = rw (not_below r.0) refl in
    let here : first_after (last_key (Some r.0) (take n index)) (drop n index) ≡ Some (None, r) = sym e ∙ first in
    absurd (last_some r.0 (take n index) (first_is (last_key (Some r.0) (take n index)) None (drop n index) r here).0)

-- keys that rise from a key end above it
ends_above : (k : List ℕ) (r : RowView) (rows : List RowView) → KeysRiseAbove (Some k) (r ∷ rows) → is_before k (key_or_empty (last_key (Some k) (r ∷ rows))) ≡ true
ends_above k r rows h =
    before_at_most k r.0 (key_or_empty (last_key (Some r.0) rows)) h.0 (last_behind r.0 rows h.1)

-- where a reading up to the last key is done, no index entry is left
none_left : (limit : ℕ) (bytes : List ℕ) (index : List RowView) (old new : CursorView) (rows : List RowView) → KeysRiseAbove None index → ReadsAll limit bytes index old new rows → (g : Goes limit bytes index old new rows) → g.rest ≡ []
none_left limit bytes index old new rows rise a g = either a.done g.rest (rest_is limit bytes index old new rows g)
  where
    high : new.high ≡ key_or_empty (last_key None index)
    high = g.high ∙ ap (λ (c : CursorView). c.high) a.begins

    either : IsDone index new.next new.high → (rest : List RowView) → drop new.next index ≡ rest → rest ≡ []
    either d [] e = refl
    either (inl l) (r ∷ rest) e =
        absurd (let size : length (drop new.next index) ≡ length (r ∷ rest) = ap length e in let left = length-drop new.next index in omega arith)
    either (inr (k, last, b)) (r ∷ rest) e =
        absurd (
        let tail = subst (λ (x : Option (List ℕ)). KeysRiseAbove x (drop new.next index)) last (rises_rest None index new.next rise) in
        let above = ends_above k r rest (subst (KeysRiseAbove (Some k)) e tail) in
        let whole : index ≡ take new.next index ++ (r ∷ rest) = sym (take-append-drop new.next index) ∙ ap (λ (xs : List RowView). take new.next index ++ xs) e in
        let key : last_key None index ≡ last_key (Some k) (r ∷ rest) =
        ap (last_key None) whole ∙ last_key-append None (take new.next index) (r ∷ rest) ∙ ap (λ (x : Option (List ℕ)). last_key x (r ∷ rest)) last in
        let below : is_before k (key_or_empty (last_key (Some k) (r ∷ rest))) ≡ false =
        ap (λ (x : Option (List ℕ)). is_before k (key_or_empty x)) (sym key) ∙ ap (is_before k) (sym high) ∙ b in
        cc
        )

-- a reading of all rows says that the bytes are a table of them
pub whole_reading : (bytes : List ℕ) (entries : List IndexEntry) (old new : CursorView) (rows : List RowView) → (e : Entered bytes entries) → ReadsAll (footer_at bytes) bytes e.index old new rows → IsTable bytes rows
whole_reading bytes entries old new rows e a =
    let limit = footer_at bytes in
    let g = a.goes in
    let rise = entered_rises bytes entries e in
    let start = at_first e.index old.next a.first in
    let none = none_left limit bytes e.index old new rows rise a g in
    let passed : e.index ≡ g.passed = sym start.1 ∙ g.split ∙ ap (λ (xs : List RowView). g.passed ++ xs) none ∙ append-nil g.passed in
    let low : Blocks limit bytes None g.passed g.read = subst (λ (k : Option (List ℕ)). Blocks limit bytes k g.passed g.read) start.0 g.blocks in
    let blocks : Blocks limit bytes None e.index g.read = subst (λ (i : List RowView). Blocks limit bytes None i g.read) (sym passed) low in
    let high = key_or_empty (last_key None e.index) in
    let up_to = blocks_last limit bytes None e.index g.read blocks rise in
    let begins = a.begins in
    let all : g.read ≡ rows =
    sym (all_in_range high g.read up_to)
    ∙ (λ i. in_range (ap (λ (c : CursorView). c.low) (sym begins) i) (ap (λ (c : CursorView). c.high) (sym begins) i) g.read)
    ∙ ap (λ (c : CursorView). c.rows ++ in_range old.low old.high g.read) (sym begins)
    ∙ g.rows ∙ ap (λ (xs : List RowView). rows ++ xs) a.none ∙ append-nil rows in
    record { index = e.index; has = e.has; blocks = subst (Blocks limit bytes None e.index) all blocks }
