-- Readings of a table, step after step.
use Rattle.std.proofs.Common.{◌≡◌, ℕ, zero, suc, false, List, [], ◌∷◌, ◌++◌, append-nil, length, take, drop, All, Option, Some, None, Result, refl, sym, ap, ◌∙◌, subst, inl}
use Rattle.std.proofs.lemmas.List.{take_at}
use Rattle.std.proofs.Math.Seq.{take-add}
use Rattle.std.specs.Prelude.{IsTrue}
use Rattle.std.proofs.lemmas.List.Elements.{All-nil, All-cons}
use Rattle.st_table.specs.TableFile.{footer_at}
use Rattle.st_table.specs.Index.{Entered, Decodes, holds_handle}
use Rattle.st_table.specs.Cursor.{CursorView, Goes, RefusesNext, Steps}
use Rattle.st_table.specs.declared.errors.TableErr.{TableErr}
use Rattle.st_table.specs.declared.errors.TableErr.TheVariants as table_err
use Rattle.st_table.specs.declared.index.IndexEntry.{IndexEntry}
use Rattle.st_tblock.specs.Block.{RowView, is_before}
use Rattle.st_table.specs.TableFile.{Blocks}
use Rattle.st_table.specs.RowOrder.{last_key}
use Rattle.st_table.specs.IndexLookup.{entry_for, first_after, found_at}
use Rattle.st_table.proofs.Joining.{goes_joined}
use Rattle.st_table.proofs.Indexes.{handle_passes}
use Rattle.st_table.proofs.Stepping.{first_is}
use Rattle.st_index.specs.Verdict.{RefusesData}

-- what a step says of equal entries
pub step_over : (bytes : List ℕ) (es ds : List IndexEntry) (old new : CursorView) (r : Result (Option RowView) TableErr) → es ≡ ds → ((e : Entered bytes es) → Steps (footer_at bytes) bytes e.index old new r) → (e : Entered bytes ds) → Steps (footer_at bytes) bytes e.index old new r
step_over bytes es ds old new r same =
    subst (λ (xs : List IndexEntry). (e : Entered bytes xs) → Steps (footer_at bytes) bytes e.index old new r) same

-- a reading that goes on by no rows
pub goes_nothing : (limit : ℕ) (bytes : List ℕ) (index : List RowView) (first old new : CursorView) (rows : List RowView) → Goes limit bytes index first old rows → Goes limit bytes index old new [] → Goes limit bytes index first new rows
goes_nothing limit bytes index first old new rows g h =
    subst (Goes limit bytes index first new) (append-nil rows) (goes_joined limit bytes index first old new rows [] g h)

-- no key is before no bytes
not_before : (key : List ℕ) → is_before key [] ≡ false
not_before [] = refl
not_before (b ∷ key) = refl

-- after a key there is a last key
last_some : (k : List ℕ) (rows : List RowView) → last_key (Some k) rows ≡ None → ⊥
last_some k [] e = cc
last_some k (r ∷ rows) e = last_some r.0 rows e

-- a reading from no bytes begins at the first index entry
begins_first : (index : List RowView) (n : ℕ) → entry_for [] None index ≡ found_at index n → (take n index ≡ []) × (drop n index ≡ index)
begins_first index zero e = (refl, refl)
begins_first [] (suc n) e = (refl, refl)
begins_first (r ∷ index) (suc n) e =
    let first : entry_for [] None (r ∷ index) ≡ Some (None, r) = rw (not_before r.0) refl in
    let here : first_after (last_key (Some r.0) (take n index)) (drop n index) ≡ Some (None, r) = sym e ∙ first in
    absurd (last_some r.0 (take n index) (first_is (last_key (Some r.0) (take n index)) None (drop n index) r here).0)

-- the blocks that such a reading passed are those of the first index entries
pub passed_blocks : (limit : ℕ) (bytes : List ℕ) (index : List RowView) (old new : CursorView) (rows : List RowView) → entry_for [] None index ≡ found_at index old.next → (g : Goes limit bytes index old new rows) → Blocks limit bytes None (take new.next index) g.read
passed_blocks limit bytes index old new rows e g =
    let first = begins_first index old.next e in
    let taken : take new.next index ≡ g.passed =
    ap (λ (n : ℕ). take n index) g.next ∙ take-add old.next (length g.passed) index
    ∙ ap (λ (xs : List RowView). take old.next index ++ take (length g.passed) xs) g.split
    ∙ ap (λ (xs : List RowView). take old.next index ++ xs) (take_at g.passed g.rest (length g.passed) refl)
    ∙ ap (λ (xs : List RowView). xs ++ g.passed) first.0 in
    let low : Blocks limit bytes None g.passed g.read =
    subst (λ (xs : List RowView). Blocks limit bytes (last_key None xs) g.passed g.read) first.0 g.blocks in
    subst (λ (xs : List RowView). Blocks limit bytes None xs g.read) (sym taken) low

-- each entry of an index that was entered is one handle
decoded_handles : (index : List RowView) (entries : List IndexEntry) → Decodes index entries → All (λ r. IsTrue (holds_handle r)) index
decoded_handles [] entries d = All-nil (λ r. IsTrue (holds_handle r))
decoded_handles (r ∷ index) [] d = absurd d
decoded_handles (r ∷ index) (e ∷ entries) d =
    All-cons (λ r. IsTrue (holds_handle r)) r index (handle_passes r.1 e.handle d.1) (decoded_handles index entries d.2)

-- and the block after them is refused as a block of the table
pub refuses_data : (bytes : List ℕ) (entries : List IndexEntry) (old new : CursorView) (rows : List RowView) (e : TableErr) → (entered : Entered bytes entries) → entry_for [] None entered.index ≡ found_at entered.index old.next → Goes (footer_at bytes) bytes entered.index old new rows → RefusesNext (footer_at bytes) bytes entered.index new.next e → RefusesData bytes e
refuses_data bytes entries old new rows e entered f g r = record {
  index = entered.index;
  has = entered.has;
  handles = decoded_handles entered.index entries entered.decoded;
  number = new.next;
  before = g.read;
  good = passed_blocks (footer_at bytes) bytes entered.index old new rows f g;
  refused = r;
}

-- out of memory before the first block
pub no_memory : (bytes : List ℕ) (entries : List IndexEntry) → Entered bytes entries → RefusesData bytes table_err.NoMemory
no_memory bytes entries entered = record {
  index = entered.index;
  has = entered.has;
  handles = decoded_handles entered.index entries entered.decoded;
  number = 0;
  before = [];
  good = refl;
  refused = inl tt;
}
