-- Bytes are a table of one list of rows at most.
use Rattle.std.proofs.Common.{◌≡◌, ℕ, ◌+◌, List, [], ◌∷◌, ◌++◌, take, drop, Option, Some, None, Result, Ok, sym, ap, ◌∙◌, subst}
use Rattle.st_tblock.specs.Parsing.{Read}
use Rattle.st_tblock.specs.Block.{RowView, IsBlock}
use Rattle.st_base.specs.Damages.{DamageView}
use Rattle.st_tblock.specs.Handles.{IsHandle, footer_in}
use Rattle.st_tblock.specs.declared.handle.Handle.{Handle}
use Rattle.st_tblock.proofs.Following.{one_reading}
use Rattle.st_table.specs.TableFile.{IsTable, Stored, Blocks, footer_at}

-- a value is one handle
one_handle : (value : List ℕ) (h g : Handle) → IsHandle value h → IsHandle value g → h ≡ g
one_handle value h g p q =
    let both : ◌≡◌ {A = Read Handle} (Some (h, [])) (Some (g, [])) = sym p ∙ q in
    let inner : ◌≡◌ {A = Handle × List ℕ} (h, []) (g, []) = cc in
    ap (λ (x : Handle × List ℕ). x.0) inner

-- a handle names one list of rows
one_block : (limit : ℕ) (bytes : List ℕ) (h g : Handle) (rows others : List RowView) → h ≡ g → Stored limit bytes h rows → Stored limit bytes g others → rows ≡ others
one_block limit bytes h g rows others e s o =
    let part = λ (k : Handle). take k.size (take (k.size + 5) (drop k.offset bytes)) in
    let good : IsBlock (part h) others = subst (λ (k : Handle). IsBlock (part k) others) (sym e) o.plain.good in
    one_reading (part h) rows others s.plain.good good

-- and so does an index
one_list : (limit : ℕ) (bytes : List ℕ) (low : Option (List ℕ)) (index rows others : List RowView) → Blocks limit bytes low index rows → Blocks limit bytes low index others → rows ≡ others
one_list limit bytes low [] rows others b o = b ∙ sym o
one_list limit bytes low (e ∷ index) rows others b o =
    let n = b.2 in
    let m = o.2 in
    let handle = one_handle e.1 n.handle m.handle n.named m.named in
    let here = one_block limit bytes n.handle m.handle b.0 o.0 handle n.stored m.stored in
    let more = one_list limit bytes (Some e.0) index b.1 o.1 b.4 o.4 in
    let same : b.0 ++ b.1 ≡ o.0 ++ o.1 = λ i. here i ++ more i in
    b.3 ∙ same ∙ sym o.3

-- a footer names one index
one_footer : (bytes : List ℕ) (meta named m n : Handle) → footer_in bytes ≡ Ok (meta, named) → footer_in bytes ≡ Ok (m, n) → named ≡ n
one_footer bytes meta named m n p q =
    let both : ◌≡◌ {A = Result (Handle × Handle) DamageView} (Ok (meta, named)) (Ok (m, n)) = sym p ∙ q in
    let inner : ◌≡◌ {A = Handle × Handle} (meta, named) (m, n) = cc in
    ap (λ (x : Handle × Handle). x.1) inner

pub one_table : (bytes : List ℕ) (rows others : List RowView) → IsTable bytes rows → IsTable bytes others → others ≡ rows
one_table bytes rows others t o =
    let named = one_footer (drop (footer_at bytes) bytes) o.has.meta o.has.named t.has.meta t.has.named o.has.handles t.has.handles in
    let index = one_block (footer_at bytes) bytes o.has.named t.has.named o.index t.index named o.has.stored t.has.stored in
    let blocks : Blocks (footer_at bytes) bytes None t.index others = subst (λ (es : List RowView). Blocks (footer_at bytes) bytes None es others) index o.blocks in
    one_list (footer_at bytes) bytes None t.index others rows blocks t.blocks
