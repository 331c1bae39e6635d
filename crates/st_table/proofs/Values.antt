-- The value of a key, by the index: what reading the block that it names finds.
use Rattle.std.proofs.Common.{◌≡◌, ℕ, ◌≤◌, Bool, true, false, ◌&&◌, List, [], ◌∷◌, length, take, drop, All, Option, Some, None, Result, Ok, Err, refl, sym, ap, ◌∙◌, subst, inl, inr}
use Rattle.std.specs.Prelude.{IsTrue}
use Rattle.std.proofs.lemmas.List.{drop_all}
use Rattle.std.proofs.lemmas.List.Elements.{All-weaker}
use Rattle.st_tblock.specs.Block.{RowView, BlockReading, Rows, IsBlock, key_or_empty, past, entry_in, is_above}
use Rattle.st_tblock.specs.declared.handle.Handle.{Handle}
use Rattle.st_tblock.proofs.Longer.{rising_some}
use Rattle.st_table.specs.TableFile.{Between, is_at_most}
use Rattle.st_table.specs.IndexLookup.{entry_for, first_after, found_at, Named}
use Rattle.st_table.specs.Stored.{ReadsBlock}
use Rattle.st_table.specs.Rows.{BoundsView, lies_in, RefusesBlock, ReadsValue}
use Rattle.st_table.specs.RowOrder.{KeysRiseAbove, last_key}
use Rattle.st_table.specs.Index.{IsBlockAt}
use Rattle.st_table.specs.Table.{RefusesNamed, Gets}
use Rattle.st_table.specs.declared.errors.TableErr.{TableErr}
use Rattle.st_table.proofs.Blocks.{is_stored}

-- the keys of a block's rows rise
pub rows_rise : (rows : List RowView) (w v : BlockReading) → Rows w rows v → KeysRiseAbove w.last rows
rows_rise [] w v h = tt
rows_rise (r ∷ rows) w v h =
    let rise = (rising_some w.last (entry_in (length (key_or_empty w.last)) w.rest) h.0 h.1).1 in (
      ap (λ (k : List ℕ). is_above w.last k) (sym h.2) ∙ rise,
      subst (λ (k : List ℕ). KeysRiseAbove (Some k) rows) h.2 (rows_rise rows (past w h.0) v h.4),
    )

pub good_rises : (block : List ℕ) (rows : List RowView) → IsBlock block rows → KeysRiseAbove None rows
good_rises block rows g = rows_rise rows _ g.end g.entries

-- both tests of a pair that passes
both_pass : (x y : Bool) → (x && y) ≡ true → (x ≡ true) × (y ≡ true)
both_pass true y e = (refl, e)
both_pass false y e = cc

-- rows that pass the test of a block lie between its index keys
pub between_is : (a : BoundsView) (rows : List RowView) → All (λ r. IsTrue (lies_in a r)) rows → Between a.low a.high rows
between_is a rows h =
    All-weaker (λ r. IsTrue (lies_in a r)) (λ r. IsTrue (is_above a.low r.0) × IsTrue (is_at_most a.high r.0)) (λ r p. both_pass (is_above a.low r.0) (is_at_most a.high r.0) p) rows h

pub is_between : (low : Option (List ℕ)) (high : List ℕ) (rows : List RowView) → Between low high rows → All (λ r. IsTrue (lies_in (record { low = low; high = high }) r)) rows
is_between low high rows h =
    let a : BoundsView = record { low = low; high = high } in
    All-weaker (λ r. IsTrue (is_above low r.0) × IsTrue (is_at_most high r.0)) (λ r. IsTrue (lies_in a r)) (λ r p. let x = p.0 in let y = p.1 in rw (x, y) refl) rows h

-- the index names no block
pub gets_none : (limit : ℕ) (bytes key : List ℕ) (index : List RowView) (n : ℕ) → entry_for key None index ≡ found_at index n → length index ≤ n → Gets limit bytes key index (Ok None)
gets_none limit bytes key index n f l =
    let none : entry_for key None index ≡ None = f ∙ ap (first_after (last_key None (take n index))) (drop_all n index l) in
    subst (Named limit bytes key None) (sym none) refl

-- the block that it names can't be read
pub gets_refused : (limit : ℕ) (bytes key block : List ℕ) (index : List RowView) (n : ℕ) (a : BoundsView) (h : Handle) (e : TableErr) → entry_for key None index ≡ found_at index n → IsBlockAt index n a h → ReadsBlock {T = Unit {0}} limit bytes h block (Err e) → Gets limit bytes key index (Err e)
gets_refused limit bytes key block index n a h e f i (inl o) = inl o
gets_refused limit bytes key block index n a h e f i (inr s) =
    inr (subst (λ (x : Option (Option (List ℕ) × RowView)). RefusesNamed limit bytes x e) (sym (f ∙ i.here)) (h, i.named, inr (inl s)))

-- it is read
pub gets_value : (limit : ℕ) (bytes key block text : List ℕ) (index : List RowView) (n : ℕ) (a : BoundsView) (h : Handle) (r : Result (Option (List ℕ)) TableErr) → limit ≤ length bytes → entry_for key None index ≡ found_at index n → IsBlockAt index n a h → ReadsBlock {T = Unit {0}} limit bytes h block (Ok (tt {0})) → text ≡ block → ReadsValue (lies_in a) key h.offset text r → Gets limit bytes key index r
gets_value limit bytes key block text index n a h (Ok answer) l f i b t v =
    let good = subst (λ (xs : List ℕ). IsBlock xs v.0) (t ∙ b.1) v.1 in
    let stored = is_stored limit bytes h v.0 l b.0 good in
    let between = subst (λ (k : BoundsView). Between k.low k.high v.0) i.keys (between_is a v.0 v.2) in
    subst (Named limit bytes key answer) (sym (f ∙ i.here)) (v.0, record { handle = h; named = i.named; stored = stored; between = between }, v.3)
gets_value limit bytes key block text index n a h (Err e) l f i b t v =
    let refuses = subst (λ (xs : List ℕ). RefusesBlock (lies_in a) h.offset xs e) (t ∙ b.1) v in
    let here = subst (λ (k : BoundsView). RefusesBlock (lies_in k) h.offset (take h.size (drop h.offset bytes)) e) i.keys refuses in
    inr (subst (λ (x : Option (Option (List ℕ) × RowView)). RefusesNamed limit bytes x e) (sym (f ∙ i.here)) (h, i.named, inr (inr (b.0, here))))
