-- Bytes fail as a table in one way at most.
use Rattle.std.proofs.Common.{◌≡◌, ℕ, zero, suc, ◌+◌, ◌-◌, ◌<◌, Bool, true, false, List, [], ◌∷◌, length, take, drop, take-append-drop, All, Option, Some, None, Result, Ok, refl, sym, ap, ◌∙◌, subst, inl, inr, ◌⊎◌, arith}
use Rattle.std.specs.Prelude.{IsTrue, nat_lt}
use Rattle.std.proofs.lemmas.Bool.Decides.{nat_tests}
use Rattle.std.proofs.lemmas.List.Elements.{All-head, All-tail}
use Rattle.st_base.specs.Damages.{DamageView, damage_view}
use Rattle.st_tblock.specs.Block.{RowView, Entry, BlockReading, Rows, start, next_in, past}
use Rattle.st_tblock.specs.Handles.{footer_in, IsHandle}
use Rattle.st_tblock.specs.declared.handle.Handle.{Handle}
use Rattle.st_table.specs.TableFile.{HasIndex, Blocks, Stored, footer_at}
use Rattle.st_table.specs.RowOrder.{last_key}
use Rattle.st_table.specs.Errors.{TableErrView, Damaged, NoCheckFailed, err_view}
use Rattle.st_table.specs.Rows.{Fails, BoundsView, entry_wrong, row_wrong, row_of, lies_in}
use Rattle.st_table.specs.Index.{RefusesTable, RefusesStored, ReadsFooter, footer_wrong, moved, holds_handle, IsBlockAt, around}
use Rattle.st_table.specs.IndexLookup.{first_after, found_at}
use Rattle.st_table.specs.Cursor.{RefusesNext}
use Rattle.st_table.specs.declared.errors.TableErr.{TableErr}
use Rattle.st_table.specs.declared.errors.TableErr.TheVariants as table_err
use Rattle.st_table.proofs.Entries.{row_is_wrong}
use Rattle.st_table.proofs.Tables.{handle_once, stored_stands}
use Rattle.st_table.proofs.Stepping.{blocks-split}
use Rattle.std.proofs.lemmas.List.{take-take, drop-take}
use Rattle.std.proofs.lemmas.Bool.{cases_order}
use Rattle.st_index.proofs.TableStands.{next_stands, one_index, no_damage}
use Rattle.st_index.specs.Verdict.{IsDamage, RefusesData, FailsAsTable}

-- at a row that passes no check fails
row_passes : (takes : RowView → Bool) (base : ℕ) (w : BlockReading) (x : Entry × List ℕ) (r : RowView) (f : DamageView) → next_in w ≡ Some x → row_of w x ≡ r → takes r ≡ true → entry_wrong takes base w ≡ Some f → ⊥
row_passes takes base w x r f n e t wrong =
    let pass : takes (row_of w x) ≡ true = ap takes e ∙ t in
    let none : row_wrong takes base w (Some x) ≡ None = rw pass refl in
    let both : ◌≡◌ {A = Option DamageView} None (Some f) = sym none ∙ sym (row_is_wrong takes base w x n) ∙ wrong in
    cc

some_one : {X : Type 0} (x y : X) → ◌≡◌ {A = Option X} (Some x) (Some y) → x ≡ y
some_one x y e = cc

-- two readings of rows that pass end at the same failing check
one_end : (takes : RowView → Bool) (base : ℕ) (s w v : BlockReading) (rows others : List RowView) (f g : DamageView) → Rows s rows w → Rows s others v → All (λ r. IsTrue (takes r)) rows → All (λ r. IsTrue (takes r)) others → entry_wrong takes base w ≡ Some f → entry_wrong takes base v ≡ Some g → f ≡ g
one_end takes base s w v [] [] f g h k a b i j =
    some_one f g (sym i ∙ ap (entry_wrong takes base) (sym h ∙ k) ∙ j)
one_end takes base s w v [] (q ∷ others) f g h k a b i j =
    absurd (row_passes takes base s k.0 q f k.1 (λ n. (k.2 n, k.3 n)) (All-head (λ r. IsTrue (takes r)) q others b) (ap (entry_wrong takes base) h ∙ i))
one_end takes base s w v (r ∷ rows) [] f g h k a b i j =
    absurd (row_passes takes base s h.0 r g h.1 (λ n. (h.2 n, h.3 n)) (All-head (λ r. IsTrue (takes r)) r rows a) (ap (entry_wrong takes base) k ∙ j))
one_end takes base s w v (r ∷ rows) (q ∷ others) f g h k a b i j =
    let next : h.0 ≡ k.0 = some_one h.0 k.0 (sym h.1 ∙ k.1) in
    let rest : Rows (past s h.0) others v = subst (λ (x : Entry × List ℕ). Rows (past s x) others v) (sym next) k.4 in
    one_end takes base (past s h.0) w v rows others f g h.4 rest (All-tail (λ r. IsTrue (takes r)) r rows a) (All-tail (λ r. IsTrue (takes r)) q others b) i j

-- a block fails in one way
one_block : (takes : RowView → Bool) (base : ℕ) (block : List ℕ) (f g : DamageView) → Fails takes base block f → Fails takes base block g → f ≡ g
one_block takes base block f g (inl h) (inl k) = h.1 ∙ sym k.1
one_block takes base block f g (inl h) (inr (v, others, b, j)) =
    let both : ◌≡◌ {A = Option (List ℕ × List ℕ)} None (Some (b.text, b.restarts)) = sym h.0 ∙ b.split in
    cc
one_block takes base block f g (inr (w, rows, a, i)) (inl k) =
    let both : ◌≡◌ {A = Option (List ℕ × List ℕ)} None (Some (a.text, a.restarts)) = sym k.0 ∙ a.split in
    cc
one_block takes base block f g (inr (w, rows, a, i)) (inr (v, others, b, j)) =
    let parts : ◌≡◌ {A = List ℕ × List ℕ} (a.text, a.restarts) (b.text, b.restarts) = some_one _ _ (sym a.split ∙ b.split) in
    let again : Rows (start a.text a.restarts) others v = subst (λ (x : List ℕ × List ℕ). Rows (start x.0 x.1) others v) (sym parts) b.entries in
    one_end takes base (start a.text a.restarts) w v rows others f g a.entries again a.pass b.pass i j

-- two errors say one failing check, unless one is of no check
abbrev pub SayOne : TableErr → TableErr → Type 0
SayOne x y = NoCheckFailed x ⊎ (NoCheckFailed y ⊎ (err_view x ≡ err_view y))

-- a stored block is refused in one way
one_stored : (takes : RowView → Bool) (limit : ℕ) (bytes : List ℕ) (h : Handle) (x y : TableErr) → RefusesStored takes limit bytes h x → RefusesStored takes limit bytes h y → SayOne x y
one_stored takes limit bytes h x y (inl n) s = inl n
one_stored takes limit bytes h x y (inr r) (inl n) = inr (inl n)
one_stored takes limit bytes h x y (inr (inl a)) (inr (inl b)) = inr (inr (some_one _ _ (sym a ∙ b)))
one_stored takes limit bytes h x y (inr (inl a)) (inr (inr b)) =
    let both : ◌≡◌ {A = Option TableErrView} None (Some (err_view x)) = sym b.0 ∙ a in
    cc
one_stored takes limit bytes h x y (inr (inr a)) (inr (inl b)) =
    let both : ◌≡◌ {A = Option TableErrView} None (Some (err_view y)) = sym a.0 ∙ b in
    cc
one_stored takes limit bytes h x y (inr (inr (a, inl n))) (inr (inr b)) = inl n
one_stored takes limit bytes h x y (inr (inr (a, inr f))) (inr (inr (b, inl n))) = inr (inl n)
one_stored takes limit bytes h x y (inr (inr (a, inr (f, i, u)))) (inr (inr (b, inr (g, j, v)))) =
    let same = one_block takes h.offset (take h.size (drop h.offset bytes)) f g i j in
    inr (inr (u ∙ ap (λ (d : DamageView). Damaged d) same ∙ sym v))

-- a footer that is read holds its checks
footer_holds : (bytes : List ℕ) (h : Handle) (x : TableErr) → ReadsFooter bytes (Ok h) → footer_wrong bytes ≡ Some (err_view x) → ⊥
footer_holds bytes h x f w =
    let some : nat_lt (length bytes) 48 ≡ false = let l = f.0 in grind (arith, nat_tests) in
    let none : footer_wrong bytes ≡ None = rw some (ap (moved (footer_at bytes)) f.1.1) in
    let both : ◌≡◌ {A = Option TableErrView} None (Some (err_view x)) = sym none ∙ w in
    cc

one_named : (bytes : List ℕ) (meta named m n : Handle) → footer_in bytes ≡ Ok (meta, named) → footer_in bytes ≡ Ok (m, n) → named ≡ n
one_named bytes meta named m n p q =
    let both : ◌≡◌ {A = Result (Handle × Handle) DamageView} (Ok (meta, named)) (Ok (m, n)) = sym p ∙ q in
    let inner : ◌≡◌ {A = Handle × Handle} (meta, named) (m, n) = cc in
    ap (λ (x : Handle × Handle). x.1) inner

-- a table is refused on entering in one way
one_refusal : (bytes : List ℕ) (x y : TableErr) → RefusesTable bytes x → RefusesTable bytes y → SayOne x y
one_refusal bytes x y (inl n) s = inl n
one_refusal bytes x y (inr r) (inl n) = inr (inl n)
one_refusal bytes x y (inr (inl a)) (inr (inl b)) = inr (inr (some_one _ _ (sym a ∙ b)))
one_refusal bytes x y (inr (inl a)) (inr (inr (named, f, r))) = absurd (footer_holds bytes named x f a)
one_refusal bytes x y (inr (inr (named, f, r))) (inr (inl b)) = absurd (footer_holds bytes named y f b)
one_refusal bytes x y (inr (inr (named, f, r))) (inr (inr (other, g, s))) =
    let same = one_named (drop (footer_at bytes) bytes) f.1.0 named g.1.0 other f.1.1 g.1.1 in
    let again = subst (λ (h : Handle). RefusesStored holds_handle (footer_at bytes) bytes h y) (sym same) s in
    one_stored holds_handle (footer_at bytes) bytes named x y r again

-- an index that was entered was not refused
entered_holds : (bytes : List ℕ) (index : List RowView) (x : TableErr) → HasIndex bytes index → All (λ r. IsTrue (holds_handle r)) index → RefusesTable bytes x → NoCheckFailed x
entered_holds bytes index x h a (inl n) = n
entered_holds bytes index x h a (inr (inl w)) = absurd (footer_holds bytes h.named x (h.footer, (h.meta, h.handles)) w)
entered_holds bytes index x h a (inr (inr (named, f, r))) =
    let same = one_named (drop (footer_at bytes) bytes) h.meta h.named f.1.0 named h.handles f.1.1 in
    stored_stands holds_handle (footer_at bytes) bytes named index x (subst (λ (k : Handle). Stored (footer_at bytes) bytes k index) same h.stored) a r

-- the first row of some rows is that of their beginning
first_front : (low : Option (List ℕ)) (rows : List RowView) (j : ℕ) → 0 < j → first_after low (take j rows) ≡ first_after low rows
first_front low [] zero h = refl
first_front low [] (suc j) h = refl
first_front low (r ∷ rows) zero h = absurd (omega arith)
first_front low (r ∷ rows) (suc j) h = refl

-- the entry of a number stands among the first entries, if these are more
found_front : (index : List RowView) (n m : ℕ) → n < m → found_at (take m index) n ≡ found_at index n
found_front index n m h =
    let sum : m ≡ n + (m - n) = omega arith in
    let front : take n (take m index) ≡ take n index = take-take n m index (omega arith) in
    let back : drop n (take m index) ≡ take (m - n) (drop n index) = ap (λ (k : ℕ). drop n (take k index)) sum ∙ drop-take n (m - n) index in
    (λ i. first_after (last_key None (front i)) (back i)) ∙ first_front (last_key None (take n index)) (drop n index) (m - n) (omega arith)

-- a data block before the one that is refused holds its checks
earlier_stands : (limit : ℕ) (bytes : List ℕ) (index before : List RowView) (n m : ℕ) (x : TableErr) → n < m → Blocks limit bytes None (take m index) before → RefusesNext limit bytes index n x → NoCheckFailed x
earlier_stands limit bytes index before n m x h b (inl o) = o
earlier_stands limit bytes index before n m x h b (inr (a, k, i, r)) =
    let parts = blocks-split limit bytes None (take n (take m index)) (drop n (take m index)) before
    (subst (λ (xs : List RowView). Blocks limit bytes None xs before) (sym (take-append-drop n (take m index))) b) in
    let there : IsBlockAt (take m index) n a k =
    record { low = i.low; entry = i.entry; here = found_front index n m h ∙ i.here; keys = i.keys; named = i.named } in
    next_stands limit bytes (take m index) parts.back n x parts.second (inr (a, k, there, r))

-- the same data block is refused in one way
one_next : (limit : ℕ) (bytes : List ℕ) (index : List RowView) (n : ℕ) (x y : TableErr) → RefusesNext limit bytes index n x → RefusesNext limit bytes index n y → SayOne x y
one_next limit bytes index n x y (inl o) s = inl o
one_next limit bytes index n x y (inr r) (inl o) = inr (inl o)
one_next limit bytes index n x y (inr (a, h, i, r)) (inr (b, k, j, s)) =
    let found : ◌≡◌ {A = Option (List ℕ) × RowView} (i.low, i.entry) (j.low, j.entry) = some_one _ _ (sym i.here ∙ j.here) in
    let bounds : b ≡ a = j.keys ∙ ap around (sym found) ∙ sym i.keys in
    let entry : j.entry.1 ≡ i.entry.1 = ap (λ (z : Option (List ℕ) × RowView). z.1.1) (sym found) in
    let same : k ≡ h = handle_once i.entry.1 k h (subst (λ (v : List ℕ). IsHandle v k) entry j.named) i.named in
    let again : RefusesStored (lies_in a) limit bytes h y =
    subst (λ (z : BoundsView). RefusesStored (lies_in z) limit bytes h y) bounds (subst (λ (z : Handle). RefusesStored (lies_in b) limit bytes z y) same s) in
    one_stored (lies_in a) limit bytes h x y r again

-- the data blocks are refused in one way
one_data : (bytes : List ℕ) (x y : TableErr) → RefusesData bytes x → RefusesData bytes y → SayOne x y
one_data bytes x y r s = either (cases_order r.number s.number)
  where
    limit : ℕ
    limit = footer_at bytes

    index : r.index ≡ s.index
    index = one_index bytes r.index s.index r.has s.has

    first : RefusesNext limit bytes s.index r.number x
    first = subst (λ (xs : List RowView). RefusesNext limit bytes xs r.number x) index r.refused

    good : Blocks limit bytes None (take r.number s.index) r.before
    good = subst (λ (xs : List RowView). Blocks limit bytes None (take r.number xs) r.before) index r.good

    either : ((r.number ≡ s.number) ⊎ ((r.number < s.number) ⊎ (s.number < r.number))) → SayOne x y
    either (inl e) = one_next limit bytes s.index s.number x y (subst (λ (n : ℕ). RefusesNext limit bytes s.index n x) e first) s.refused
    either (inr (inl l)) = inl (earlier_stands limit bytes s.index s.before r.number s.number x l s.good first)
    either (inr (inr l)) = inr (inl (earlier_stands limit bytes s.index r.before s.number r.number y l good s.refused))

-- one failing check is said
one_said : (x y : TableErr) (d e : DamageView) → IsDamage x d → IsDamage y e → SayOne x y → d ≡ e
one_said x y d e i j (inl n) = absurd (no_damage x d i n)
one_said x y d e i j (inr (inl n)) = absurd (no_damage y e j n)
one_said x y d e i j (inr (inr s)) = views x y d e i j s
  where
    views : (x y : TableErr) (d e : DamageView) → IsDamage x d → IsDamage y e → err_view x ≡ err_view y → d ≡ e
    views table_err.ReadFault y d e i j s = absurd i
    views table_err.NoMemory y d e i j s = absurd i
    views (table_err.Damaged a) table_err.ReadFault d e i j s = absurd j
    views (table_err.Damaged a) table_err.NoMemory d e i j s = absurd j
    views (table_err.Damaged a) (table_err.Damaged b) d e i j s =
        let same : damage_view a ≡ damage_view b = cc in
        i ∙ same ∙ sym j
    views (table_err.Damaged a) (table_err.Compressed p) d e i j s = cc
    views (table_err.Compressed p) table_err.ReadFault d e i j s = absurd j
    views (table_err.Compressed p) table_err.NoMemory d e i j s = absurd j
    views (table_err.Compressed p) (table_err.Damaged b) d e i j s = cc
    views (table_err.Compressed p) (table_err.Compressed q) d e i j s =
        let same : p ≡ q = cc in
        i ∙ ap (λ (n : ℕ). let v : DamageView = record { place = n; found = 1; want = 0 } in v) same ∙ sym j

-- so bytes fail as a table in one way
pub one_table_failure : (bytes : List ℕ) (d e : DamageView) → FailsAsTable bytes d → FailsAsTable bytes e → d ≡ e
one_table_failure bytes d e (x, i, inl r) (y, j, inl s) = one_said x y d e i j (one_refusal bytes x y r s)
one_table_failure bytes d e (x, i, inl r) (y, j, inr s) = absurd (no_damage x d i (entered_holds bytes s.index x s.has s.handles r))
one_table_failure bytes d e (x, i, inr r) (y, j, inl s) = absurd (no_damage y e j (entered_holds bytes r.index y r.has r.handles s))
one_table_failure bytes d e (x, i, inr r) (y, j, inr s) = one_said x y d e i j (one_data bytes x y r s)
