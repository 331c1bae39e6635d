-- The entries of an index, as they are read.
use Rattle.std.proofs.Common.{◌≡◌, ℕ, ◌≤◌, true, List, [], ◌∷◌, ◌++◌, take, drop, Option, Some, None, Result, Ok, Err, sym, ap, ◌∙◌, subst, inl, inr, arith}
use Rattle.std.specs.Prelude.{nat_eq}
use Rattle.byteorder.specs.Endian.{little_number}
use Rattle.st_base.specs.Damages.{DamageView, unmet}
use Rattle.st_tblock.specs.EntryCursorView.{EntryCursorView}
use Rattle.st_tblock.specs.Block.{RowView}
use Rattle.st_tblock.specs.Handles.{handle_in, handles_in, footer_in, named, IsHandle}
use Rattle.st_tblock.specs.declared.handle.Handle.{Handle}
use Rattle.st_tblock.specs.declared.format.TheConstants.{MAGIC}
use Rattle.st_tblock.proofs.Longer.{chosen}
use Rattle.st_table.specs.Rows.{HasRead, row_of}
use Rattle.st_table.specs.Index.{Decodes, StepsIndex, HasEntries, holds_handle, is_whole}
use Rattle.st_table.specs.declared.index.IndexEntry.{IndexEntry}
use Rattle.st_table.proofs.Walking.{has_read_on, has_read_all}

-- a footer's check fails within its first forty-one bytes
named_place : (o : Option (Handle × Handle)) (f : DamageView) → named o ≡ Err f → f.place ≤ 40
named_place None f e = let same : unmet 0 ≡ f = cc in omega (arith, ap (λ (g : DamageView). g.place) same)
named_place (Some x) f e = cc

pub footer_place : (bytes : List ℕ) (f : DamageView) → footer_in bytes ≡ Err f → f.place ≤ 40
unfolding footer_in
footer_place bytes f e =
    let wrong : Result (Handle × Handle) DamageView = Err (record { place = 40; found = little_number 8 (drop 40 bytes); want = MAGIC }) in
    elim (chosen (nat_eq (little_number 8 (drop 40 bytes)) MAGIC) (named (handles_in (take 40 bytes))) wrong (Err f) e) [
      | inl h ↦ named_place (handles_in (take 40 bytes)) f h.1
      | inr h ↦
          let same : ◌≡◌ {A = DamageView} (record { place = 40; found = little_number 8 (drop 40 bytes); want = MAGIC }) f = let k = h.1 in cc in
          omega (arith, ap (λ (g : DamageView). g.place) same)
    ]

-- a value that is one handle passes
pub handle_passes : (value : List ℕ) (h : Handle) → IsHandle value h → is_whole (handle_in value) ≡ true
handle_passes value h e = ap is_whole e

-- one more entry
pub decodes_push : (rows : List RowView) (entries : List IndexEntry) (r : RowView) (e : IndexEntry) → Decodes rows entries → e.key ≡ r.0 → IsHandle r.1 e.handle → Decodes (rows ++ r ∷ []) (entries ++ e ∷ [])
decodes_push [] [] r e d k h = (k, h, tt)
decodes_push [] (q ∷ entries) r e d k h = absurd d
decodes_push (p ∷ rows) [] r e d k h = absurd d
decodes_push (p ∷ rows) (q ∷ entries) r e d k h = (d.0, d.1, decodes_push rows entries r e d.2 k h)

-- what the entries read so far are
pub record Collected (block : List ℕ) (base : ℕ) (s : EntryCursorView) (entries : List IndexEntry) : Type 0 where
  pub rows : List RowView
  pub has_read : HasRead holds_handle block s.reading rows
  pub here : s.base ≡ base
  pub decoded : Decodes rows entries

-- and with one more
pub collected_on : (block : List ℕ) (base : ℕ) (old new : EntryCursorView) (entries now : List IndexEntry) (e : IndexEntry) → Collected block base old entries → StepsIndex old new (Ok (Some e)) → now ≡ entries ++ e ∷ [] → Collected block base new now
collected_on block base old new entries now e k s n =
    let x = s.0 in
    let w = old.reading in
    let row = row_of w x in
    let reading = ap (λ (t : EntryCursorView). t.reading) s.4 in
    record {
      rows = k.rows ++ row ∷ [];
      has_read = has_read_on holds_handle block w new.reading k.rows x k.has_read s.1 (handle_passes x.0.value e.handle s.3) reading;
      here = ap (λ (t : EntryCursorView). t.base) s.4 ∙ k.here;
      decoded = subst (Decodes (k.rows ++ row ∷ [])) (sym n) (decodes_push k.rows entries row e k.decoded s.2 s.3);
    }

-- at the block's end they are all
pub collected_all : (block : List ℕ) (base : ℕ) (old new : EntryCursorView) (entries : List IndexEntry) → Collected block base old entries → StepsIndex old new (Ok None) → HasEntries block entries
collected_all block base old new entries k s = (k.rows, has_read_all holds_handle block old.reading k.rows k.has_read s.0 s.1, k.decoded)
