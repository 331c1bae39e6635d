-- One step of a cursor along a block, with a test of each row.
use Rattle.std.proofs.Common.{◌≡◌, ℕ, ◌+◌, Bool, true, false, List, [], ◌∷◌, Option, Some, None, Ok, Err, refl, sym, ap, subst, ◌∙◌, inl, inr}
use Rattle.std.specs.Option.{option_or}
use Rattle.std.specs.Borrow.{Bor}
use Rattle.std.specs.Prelude.{if◌then◌else◌}
use Rattle.st_base.specs.Damages.{DamageView, damage_view, unmet}
use Rattle.st_tblock.specs.Parsing.{Read}
use Rattle.st_tblock.specs.EntryCursorView.{EntryCursorView}
use Rattle.st_tblock.specs.Block.{RowView, Entry, BlockReading, next_in, key_or_empty, key_of}
use Rattle.st_tblock.specs.Cursor.{Steps, damage_at, entry_damage}
use Rattle.st_tblock.proofs.Following.{no_next}
use Rattle.st_tblock.specs.declared.cursor.CursorErr.{CursorErr}
use Rattle.st_tblock.specs.declared.cursor.CursorErr.TheVariants.{Damaged, NoMemory}
use Rattle.st_table.specs.Errors.{err_view, NoCheckFailed, Repeats}
use Rattle.st_table.specs.Errors as view
use Rattle.st_table.specs.Rows.{StepsOn, RefusesEntry, entry_wrong, row_wrong, row_of}
use Rattle.st_table.specs.declared.errors.TableErr.{TableErr}

-- no check of the block fails at an entry that was read
some_is_sound : (base : ℕ) (w : BlockReading) (x : Entry × List ℕ) (rest : List ℕ) → w.rest ≡ rest → next_in w ≡ Some x → damage_at base w rest ≡ None
some_is_sound base w x [] r e = absurd (let n = no_next w r in cc)
some_is_sound base w x (b ∷ rest) r e = ap (entry_damage (base + w.at)) e

-- so what is wrong there is the row
pub row_is_wrong : (takes : RowView → Bool) (base : ℕ) (w : BlockReading) (x : Entry × List ℕ) → next_in w ≡ Some x → entry_wrong takes base w ≡ row_wrong takes base w (Some x)
row_is_wrong takes base w x e =
    ap (λ (o : Option DamageView). option_or o (row_wrong takes base w (next_in w))) (some_is_sound base w x w.rest refl e)
    ∙ ap (λ (o : Read Entry). row_wrong takes base w o) e

-- a step to a row that passes
pub stepped : (takes : RowView → Bool) (old new : EntryCursorView) (v : Bor (List ℕ)) (key : List ℕ) (b : Bool) → Steps old new (Ok (Some v)) → key ≡ key_or_empty new.reading.last → b ≡ takes (key, v.now) → b ≡ true → StepsOn takes old new (Ok (Some v))
stepped takes old new v key b s k t e =
    let x = s.0 in
    let row : key ≡ key_of old.reading.last x.0 = k ∙ ap (λ (z : EntryCursorView). key_or_empty z.reading.last) s.3 in
    let whole : (key, v.now) ≡ row_of old.reading x = λ i. (row i, sym s.2 i) in
    let pass : takes (row_of old.reading x) ≡ true = ap takes (sym whole) ∙ sym t ∙ e in
    (x, s.1, s.2, pass, s.3)

-- a step to a row that doesn't
pub refused : (takes : RowView → Bool) (old new : EntryCursorView) (v : Bor (List ℕ)) (key : List ℕ) (b : Bool) (base : ℕ) (error : TableErr) → Steps old new (Ok (Some v)) → key ≡ key_or_empty new.reading.last → b ≡ takes (key, v.now) → b ≡ false → base ≡ old.base + old.reading.at → err_view error ≡ view.Damaged (unmet base) → RefusesEntry takes old error
refused takes old new v key b base error s k t e p r =
    let x = s.0 in
    let row : key ≡ key_of old.reading.last x.0 = k ∙ ap (λ (z : EntryCursorView). key_or_empty z.reading.last) s.3 in
    let whole : (key, v.now) ≡ row_of old.reading x = λ i. (row i, sym s.2 i) in
    let fail : takes (row_of old.reading x) ≡ false = ap takes (sym whole) ∙ sym t ∙ e in
    let wrong : entry_wrong takes old.base old.reading ≡ Some (unmet (old.base + old.reading.at)) =
    row_is_wrong takes old.base old.reading x s.1 ∙ ap (λ (c : Bool). if c then None else Some (unmet (old.base + old.reading.at))) fail in
    inr (unmet (old.base + old.reading.at), wrong, r ∙ ap (λ (n : ℕ). view.Damaged (unmet n)) p)

-- a refusal of the cursor
pub repeated : (takes : RowView → Bool) (old new : EntryCursorView) (error : CursorErr) (e : TableErr) → Steps old new (Err error) → Repeats error e → RefusesEntry takes old e
repeated takes old new (Damaged d) e s r =
    let wrong : entry_wrong takes old.base old.reading ≡ Some (damage_view d) =
    ap (λ (o : Option DamageView). option_or o (row_wrong takes old.base old.reading (next_in old.reading))) s.0 in
    inr (damage_view d, wrong, r)
repeated takes old new NoMemory e s r = inl (subst NoCheckFailed (sym r) tt)
