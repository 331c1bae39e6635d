-- The keys of a table rise.
use Rattle.std.proofs.Common.{◌≡◌, ℕ, true, List, [], ◌∷◌, ◌++◌, All, Option, Some, None, refl, sym, subst, arith}
use Rattle.std.specs.Prelude.{IsTrue}
use Rattle.std.proofs.lemmas.List.Elements.{All-nil, All-cons, All-head, All-tail, All-append, All-weaker, All-same}
use Rattle.std.proofs.lemmas.List.Kept.{AllPairs-cons}
use Rattle.st_tblock.specs.Block.{RowView, BlockReading, Rows, start, is_before, is_above, past}
use Rattle.st_table.specs.TableFile.{IsTable, Blocks, is_at_most, footer_at}
use Rattle.st_table.specs.RowOrder.{KeysRise}
use Rattle.st_table.proofs.KeyOrder.{before_trans, at_most_before}
use Rattle.st_table.proofs.RowKeys.{next_above}

-- a row's key is before another's
abbrev Before : RowView → RowView → Type 0
Before r q = IsTrue (is_before r.0 q.0)

-- the keys of these rows are above one, where there is one
abbrev pub Above : Option (List ℕ) → List RowView → Type 0
Above low rows = All (λ (r : RowView). IsTrue (is_above low r.0)) rows

-- the keys rise, by cases
abbrev RiseByCases : List RowView → Type 0
RiseByCases [] = Unit {0}
RiseByCases (r ∷ rows) = All (Before r) rows × RiseByCases rows

-- what is before a key above the last one
above_more : (last : Option (List ℕ)) (a b : List ℕ) → is_above last a ≡ true → is_before a b ≡ true → is_above last b ≡ true
above_more None a b p q = refl
above_more (Some l) a b p q = before_trans l a b p q

-- rows above a key are above what that is above
above_lower : (last : Option (List ℕ)) (a : List ℕ) (rows : List RowView) → is_above last a ≡ true → Above (Some a) rows → Above last rows
above_lower last a rows p = All-weaker (λ (r : RowView). IsTrue (is_above (Some a) r.0)) (λ (r : RowView). IsTrue (is_above last r.0)) (λ r q. above_more last a r.0 p q) rows

-- the rows of a reading are above its last key
rows_above : (rows : List RowView) (w v : BlockReading) → Rows w rows v → Above w.last rows
rows_above [] w v h = All-nil (λ (r : RowView). IsTrue (is_above w.last r.0))
rows_above (r ∷ rows) w v h =
    let tail = subst (λ (k : List ℕ). Above (Some k) rows) h.2 (rows_above rows (past w h.0) v h.4) in
    let first = next_above w v r rows h in
    All-cons (λ (q : RowView). IsTrue (is_above w.last q.0)) r rows first (above_lower w.last r.0 rows first tail)

-- and rise
rows_rise : (rows : List RowView) (w v : BlockReading) → Rows w rows v → RiseByCases rows
rows_rise [] w v h = tt
rows_rise (r ∷ rows) w v h =
    (subst (λ (k : List ℕ). Above (Some k) rows) h.2 (rows_above rows (past w h.0) v h.4), rows_rise rows (past w h.0) v h.4)

-- rising rows before rising rows that are above them
rise_append : (high : List ℕ) (here more : List RowView) → RiseByCases here → All (λ (r : RowView). IsTrue (is_at_most high r.0)) here → RiseByCases more → Above (Some high) more → RiseByCases (here ++ more)
rise_append high [] more h most m above = m
rise_append high (r ∷ here) more h most m above =
    let low = All-head (λ (q : RowView). IsTrue (is_at_most high q.0)) r here most in
    let rest = All-tail (λ (q : RowView). IsTrue (is_at_most high q.0)) r here most in
    let behind = All-weaker (λ (q : RowView). IsTrue (is_above (Some high) q.0)) (Before r) (λ q p. at_most_before r.0 high q.0 low p) more above in
    (All-append (Before r) here more h.0 behind, rise_append high here more h.1 rest m above)

-- the rows of the blocks that rising keys name are above the key before these, and rise
blocks_rise : (limit : ℕ) (bytes : List ℕ) (index rows : List RowView) (w v : BlockReading) → Rows w index v → Blocks limit bytes w.last index rows → Above w.last rows × RiseByCases rows
blocks_rise limit bytes [] rows w v h b =
    (All-same (λ (r : RowView). IsTrue (is_above w.last r.0)) rows [] b (All-nil (λ (r : RowView). IsTrue (is_above w.last r.0))), subst RiseByCases (sym b) tt)
blocks_rise limit bytes (e ∷ index) rows w v h b =
    let here = b.0 in
    let more = b.1 in
    let names = b.2 in
    let low = next_above w v e index h in
    let good = names.stored.plain.good in
    let inner = rows_rise here (start good.text good.restarts) good.end good.entries in
    let from = All-weaker (λ (r : RowView). IsTrue (is_above w.last r.0) × IsTrue (is_at_most e.0 r.0)) (λ (r : RowView). IsTrue (is_above w.last r.0)) (λ r p. p.0) here names.between in
    let most = All-weaker (λ (r : RowView). IsTrue (is_above w.last r.0) × IsTrue (is_at_most e.0 r.0)) (λ (r : RowView). IsTrue (is_at_most e.0 r.0)) (λ r p. p.1) here names.between in
    let behind : Blocks limit bytes (past w h.0).last index more = subst (λ (k : List ℕ). Blocks limit bytes (Some k) index more) (sym h.2) b.4 in
    let tail = blocks_rise limit bytes index more (past w h.0) v h.4 behind in
    let above : Above (Some e.0) more = subst (λ (k : List ℕ). Above (Some k) more) h.2 tail.0 in
    let all : Above w.last (here ++ more) = All-append (λ (r : RowView). IsTrue (is_above w.last r.0)) here more from (above_lower w.last e.0 more low above) in
    (subst (Above w.last) (sym b.3) all, subst RiseByCases (sym b.3) (rise_append e.0 here more inner most tail.1 above))

-- rising, by place
rise_pairs : (rows : List RowView) → RiseByCases rows → KeysRise rows
rise_pairs [] h = λ i j d l m. absurd (omega arith)
rise_pairs (r ∷ rows) h = AllPairs-cons Before r rows h.0 (rise_pairs rows h.1)

-- the keys of a table rise
pub table_rises : (bytes : List ℕ) (rows : List RowView) → IsTable bytes rows → KeysRise rows
table_rises bytes rows t =
    let good = t.has.stored.plain.good in
    rise_pairs rows (blocks_rise (footer_at bytes) bytes t.index rows (start good.text good.restarts) good.end good.entries t.blocks).1
