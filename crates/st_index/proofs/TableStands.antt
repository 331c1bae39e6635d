-- Over a table no check of it fails.
use Rattle.std.proofs.Common.{◌≡◌, ℕ, List, ◌++◌, take, drop, take-append-drop, All, Option, None, Result, Ok, sym, ap, ◌∙◌, subst, inl, inr}
use Rattle.std.specs.Prelude.{IsTrue}
use Rattle.st_base.specs.Damages.{DamageView}
use Rattle.st_tblock.specs.Block.{RowView}
use Rattle.st_tblock.specs.declared.handle.Handle.{Handle}
use Rattle.st_table.specs.TableFile.{IsTable, HasIndex, Blocks, Stored, Between, footer_at}
use Rattle.st_table.specs.RowOrder.{last_key}
use Rattle.st_table.specs.Errors.{NoCheckFailed}
use Rattle.st_table.specs.Rows.{BoundsView, lies_in}
use Rattle.st_table.specs.Cursor.{RefusesNext}
use Rattle.st_table.specs.declared.errors.TableErr.{TableErr}
use Rattle.st_table.specs.declared.errors.TableErr.TheVariants as table_err
use Rattle.st_table.proofs.Values.{is_between}
use Rattle.st_table.proofs.Tables.{handle_once, stored_once, stored_stands, table_entered}
use Rattle.st_table.proofs.Stepping.{blocks-split, first_is}
use Rattle.st_index.specs.Verdict.{IsDamage, RefusesData, FailsAsTable}

-- the next block is refused by no check
pub next_stands : (limit : ℕ) (bytes : List ℕ) (index rows : List RowView) (n : ℕ) (e : TableErr) → Blocks limit bytes (last_key None (take n index)) (drop n index) rows → RefusesNext limit bytes index n e → NoCheckFailed e
next_stands limit bytes index rows n e b (inl o) = o
next_stands limit bytes index rows n e b (inr (a, h, i, refuses)) =
    let base = last_key None (take n index) in
    let cut = first_is base i.low (drop n index) i.entry i.here in
    let blocks = subst (λ (xs : List RowView). Blocks limit bytes base xs rows) cut.1.1 b in
    let names = blocks.2 in
    let same = handle_once i.entry.1 names.handle h names.named i.named in
    let stored = subst (λ (x : Handle). Stored limit bytes x blocks.0) same names.stored in
    let between = subst (λ (k : Option (List ℕ)). Between k i.entry.0 blocks.0) cut.0 names.between in
    let pass = subst (λ (x : BoundsView). All (λ r. IsTrue (lies_in x r)) blocks.0) (sym i.keys) (is_between i.low i.entry.0 blocks.0 between) in
    stored_stands (lies_in a) limit bytes h blocks.0 e stored pass refuses

-- bytes have one index
pub one_index : (bytes : List ℕ) (index other : List RowView) → HasIndex bytes index → HasIndex bytes other → index ≡ other
one_index bytes index other h o =
    let both : ◌≡◌ {A = Result (Handle × Handle) DamageView} (Ok (h.meta, h.named)) (Ok (o.meta, o.named)) = sym h.handles ∙ o.handles in
    let inner : ◌≡◌ {A = Handle × Handle} (h.meta, h.named) (o.meta, o.named) = cc in
    stored_once (footer_at bytes) bytes h.named o.named index other (ap (λ (x : Handle × Handle). x.1) inner) h.stored o.stored

-- no data block of a table is refused by a check
pub data_stands : (bytes : List ℕ) (rows : List RowView) (e : TableErr) → IsTable bytes rows → RefusesData bytes e → NoCheckFailed e
data_stands bytes rows e t r =
    let same = one_index bytes t.index r.index t.has r.has in
    let limit = footer_at bytes in
    let blocks : Blocks limit bytes None r.index rows = subst (λ (i : List RowView). Blocks limit bytes None i rows) same t.blocks in
    let whole : Blocks limit bytes None (take r.number r.index ++ drop r.number r.index) rows =
    subst (λ (i : List RowView). Blocks limit bytes None i rows) (sym (take-append-drop r.number r.index)) blocks in
    let parts = blocks-split limit bytes None (take r.number r.index) (drop r.number r.index) rows whole in
    next_stands limit bytes r.index parts.back r.number e parts.second r.refused

-- an error of no check is no failing check
pub no_damage : (e : TableErr) (d : DamageView) → IsDamage e d → NoCheckFailed e → ⊥
no_damage table_err.ReadFault d i n = i
no_damage (table_err.Damaged x) d i n = n
no_damage (table_err.Compressed place) d i n = n
no_damage table_err.NoMemory d i n = i

-- so a table fails in no way
pub table_stands : (bytes : List ℕ) (rows : List RowView) (d : DamageView) → IsTable bytes rows → FailsAsTable bytes d → ⊥
table_stands bytes rows d t (e, i, inl r) = no_damage e d i (table_entered bytes rows e t r)
table_stands bytes rows d t (e, i, inr r) = no_damage e d i (data_stands bytes rows e t r)
