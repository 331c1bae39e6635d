-- Over a table a key has its row's value, and no check fails.
use Rattle.std.proofs.Common.{◌≡◌, ℕ, Bool, true, false, List, [], ◌∷◌, ◌++◌, length, take, drop, All, Option, Some, None, Result, Ok, Err, refl, sym, ap, ◌∙◌, subst, inl, inr, arith}
use Rattle.std.specs.Prelude.{IsTrue, not, if◌then◌else◌, nat_lt}
use Rattle.std.proofs.lemmas.List.Elements.{All-weaker, All-head, All-tail, All-append, All-same, All-cons, All-nil}
use Rattle.st_base.specs.Damages.{DamageView, unmet}
use Rattle.st_tblock.specs.Parsing.{Read}
use Rattle.st_tblock.specs.Block.{RowView, BlockReading, Rows, IsBlock, next_in, is_above, is_before, is_had}
use Rattle.st_tblock.specs.Cursor.{damage_at}
use Rattle.st_tblock.specs.Handles.{IsHandle}
use Rattle.st_tblock.specs.declared.handle.Handle.{Handle}
use Rattle.st_tblock.proofs.Following.{no_next, prefix_of_block, one_reading}
use Rattle.st_table.specs.TableFile.{Stored, Blocks, IsTable, is_at_most, footer_at}
use Rattle.st_tblock.specs.Lookup.{lookup}
use Rattle.st_table.specs.IndexLookup.{entry_for}
use Rattle.st_table.specs.Errors.{TableErrView, err_view, NoCheckFailed}
use Rattle.st_table.specs.Rows.{Fails, entry_wrong, row_wrong, row_of, lies_in}
use Rattle.st_table.specs.Index.{Entered, RefusesStored, RefusesTable, holds_handle, footer_wrong, moved}
use Rattle.st_table.proofs.Indexes.{handle_passes}
use Rattle.std.proofs.lemmas.Bool.Decides.{nat_tests}
use Rattle.st_table.specs.RowOrder.{KeysRiseAbove}
use Rattle.st_table.specs.IndexLookup.{Named}
use Rattle.st_table.specs.Table.{RefusesNamed, Gets, GetsRow}
use Rattle.st_table.specs.Index.{around}
use Rattle.st_table.specs.declared.errors.TableErr.{TableErr}
use Rattle.st_table.specs.declared.index.IndexEntry.{IndexEntry}
use Rattle.st_tblock.proofs.Order.{before_trans, at_most_before, not_behind}
use Rattle.st_table.proofs.Entries.{row_is_wrong}
use Rattle.st_table.proofs.Blocks.{stored_is}
use Rattle.st_table.proofs.Values.{good_rises, is_between}

-- a test that fails is no test that passes
pub not_true : (b : Bool) → IsTrue (not b) → b ≡ false
not_true true h = cc
not_true false h = refl

-- no check fails at an entry of a block whose rows pass
entry_is_good : (takes : RowView → Bool) (base : ℕ) (w v : BlockReading) (more : List RowView) (f : DamageView) → Rows w more v → v.rest ≡ [] → IsTrue (is_had v.at v.left) → All (λ r. IsTrue (takes r)) more → entry_wrong takes base w ≡ Some f → ⊥
entry_is_good takes base w v [] f h e t a wrong =
    let rest : w.rest ≡ [] = ap (λ (u : BlockReading). u.rest) h ∙ e in
    let had : is_had w.at w.left ≡ true = ap (λ (u : BlockReading). is_had u.at u.left) h ∙ t in
    let none : damage_at base w w.rest ≡ None = ap (damage_at base w) rest ∙ ap (λ (b : Bool). if b then None else Some (unmet base)) had in
    let no_row : row_wrong takes base w (next_in w) ≡ None = ap (row_wrong takes base w) (no_next w rest) in
    let both : ◌≡◌ {A = Option DamageView} None (Some f) = rw (none, no_row) at wrong in
    cc
entry_is_good takes base w v (r ∷ more) f h e t a wrong =
    let row : row_of w h.0 ≡ r = λ i. (h.2 i, h.3 i) in
    let pass : takes (row_of w h.0) ≡ true = ap takes row ∙ All-head (λ q. IsTrue (takes q)) r more a in
    let here = row_is_wrong takes base w h.0 h.1 in
    let none : row_wrong takes base w (Some h.0) ≡ None = rw pass refl in
    let both : ◌≡◌ {A = Option DamageView} None (Some f) = sym none ∙ sym here ∙ wrong in
    cc

-- the second part of a list whose elements all pass
pub rest_pass : (P : RowView → Type 0) (xs ys : List RowView) → All P (xs ++ ys) → All P ys
rest_pass P [] ys a = a
rest_pass P (x ∷ xs) ys a = rest_pass P xs ys (All-tail P x (xs ++ ys) a)

-- no check of a block fails whose rows pass
pub good_block : (takes : RowView → Bool) (base : ℕ) (block : List ℕ) (rows : List RowView) (f : DamageView) → IsBlock block rows → All (λ r. IsTrue (takes r)) rows → Fails takes base block f → ⊥
good_block takes base block rows f g a (inl h) =
    let both : ◌≡◌ {A = Option (List ℕ × List ℕ)} (Some (g.text, g.restarts)) None = sym g.split ∙ h.0 in
    cc
good_block takes base block rows f g a (inr (w, done, b, wrong)) =
    let front = prefix_of_block block b.text b.restarts done rows w b.split b.entries g in
    let more = rest_pass (λ r. IsTrue (takes r)) done front.0 (All-same (λ r. IsTrue (takes r)) (done ++ front.0) rows (sym front.1) a) in
    entry_is_good takes base w g.end front.0 f front.2 g.whole g.had more wrong

-- a stored block whose rows pass is refused by no check
pub stored_stands : (takes : RowView → Bool) (limit : ℕ) (bytes : List ℕ) (h : Handle) (rows : List RowView) (e : TableErr) → Stored limit bytes h rows → All (λ r. IsTrue (takes r)) rows → RefusesStored takes limit bytes h e → NoCheckFailed e
stored_stands takes limit bytes h rows e s a (inl o) = o
stored_stands takes limit bytes h rows e s a (inr (inl w)) =
    absurd (let none = (stored_is limit bytes h rows s).0 in let both : ◌≡◌ {A = Option TableErrView} None (Some (err_view e)) = sym none ∙ w in cc)
stored_stands takes limit bytes h rows e s a (inr (inr (w, inl o))) = o
stored_stands takes limit bytes h rows e s a (inr (inr (w, inr (f, fails, r)))) =
    absurd (good_block takes h.offset (take h.size (drop h.offset bytes)) rows f (stored_is limit bytes h rows s).1 a fails)

-- a value is one handle at most, and a handle's block has one list of rows
pub handle_once : (value : List ℕ) (h k : Handle) → IsHandle value h → IsHandle value k → h ≡ k
handle_once value h k a b =
    let both : ◌≡◌ {A = Read Handle} (Some (h, [])) (Some (k, [])) = sym a ∙ b in
    let inner : ◌≡◌ {A = Handle × List ℕ} (h, []) (k, []) = cc in
    ap (λ (x : Handle × List ℕ). x.0) inner

pub stored_once : (limit : ℕ) (bytes : List ℕ) (h k : Handle) (rows others : List RowView) → h ≡ k → Stored limit bytes h rows → Stored limit bytes k others → rows ≡ others
stored_once limit bytes h k rows others e s t =
    let again = subst (λ (x : Handle). Stored limit bytes x others) (sym e) t in
    one_reading (take h.size (drop h.offset bytes)) rows others (stored_is limit bytes h rows s).1 (stored_is limit bytes h others again).1

-- rows before a key don't have it
skip_before : (key : List ℕ) (here more : List RowView) → All (λ r. is_before r.0 key ≡ true) here → lookup key (here ++ more) ≡ lookup key more
skip_before key [] more a = refl
skip_before key (r ∷ here) more a =
    let low = All-head (λ q. is_before q.0 key ≡ true) r here a in
    let rest = skip_before key here more (All-tail (λ q. is_before q.0 key ≡ true) r here a) in
    rw low rest

-- and rows after it neither
none_behind : (key : List ℕ) (more : List RowView) → All (λ r. is_before key r.0 ≡ true) more → lookup key more ≡ None
none_behind key [] a = refl
none_behind key (r ∷ more) a =
    let high = All-head (λ q. is_before key q.0 ≡ true) r more a in
    let low = not_behind key r.0 high in
    rw (low, high) refl

stop_behind : (key : List ℕ) (here more : List RowView) → All (λ r. is_before key r.0 ≡ true) more → lookup key (here ++ more) ≡ lookup key here
stop_behind key [] more a = none_behind key more a
stop_behind key (r ∷ here) more a =
    ap (λ (o : Option (List ℕ)). if is_before r.0 key then o else if is_before key r.0 then None else Some r.1) (stop_behind key here more a)

-- the rows of blocks lie above the key that their index rises from
pub blocks_above : (limit : ℕ) (bytes k : List ℕ) (index rows : List RowView) → Blocks limit bytes (Some k) index rows → KeysRiseAbove (Some k) index → All (λ r. is_before k r.0 ≡ true) rows
blocks_above limit bytes k [] rows b h = All-same (λ r. is_before k r.0 ≡ true) rows [] b (All-nil (λ r. is_before k r.0 ≡ true))
blocks_above limit bytes k (e ∷ index) rows (here, more, n, split, rest) h =
    let front = All-weaker (λ r. IsTrue (is_before k r.0) × IsTrue (is_at_most e.0 r.0)) (λ r. is_before k r.0 ≡ true) (λ r p. p.0) here n.between in
    let tail = All-weaker (λ r. is_before e.0 r.0 ≡ true) (λ r. is_before k r.0 ≡ true) (λ r p. before_trans k e.0 r.0 h.0 p) more (blocks_above limit bytes e.0 index more rest h.1) in
    All-same (λ r. is_before k r.0 ≡ true) rows (here ++ more) split (All-append (λ r. is_before k r.0 ≡ true) here more front tail)

-- a key's value is in the block that the index names for it, or nowhere
pub value_is : (limit : ℕ) (bytes key : List ℕ) (low : Option (List ℕ)) (index rows : List RowView) (answer : Option (List ℕ)) → Blocks limit bytes low index rows → KeysRiseAbove low index → Named limit bytes key answer (entry_for key low index) → answer ≡ lookup key rows
value_is limit bytes key low [] rows answer b h n = n ∙ ap (lookup key) (sym b)
value_is limit bytes key low (e ∷ index) rows answer (here, more, names, split, rest) h n =
    either (is_before e.0 key) refl n (value_is limit bytes key (Some e.0) index more answer rest h.1) ∙ ap (lookup key) (sym split)
  where
    either : (b : Bool) → is_before e.0 key ≡ b → Named limit bytes key answer (if b then entry_for key (Some e.0) index else Some (low, e)) → (Named limit bytes key answer (entry_for key (Some e.0) index) → answer ≡ lookup key more) → answer ≡ lookup key (here ++ more)
    either true t m next =
        let below = All-weaker (λ r. IsTrue (is_above low r.0) × IsTrue (is_at_most e.0 r.0)) (λ r. is_before r.0 key ≡ true) (λ r p. at_most_before r.0 e.0 key (not_true (is_before e.0 r.0) p.1) t) here names.between in
        next m ∙ sym (skip_before key here more below)
    either false t (there, m, a) next =
        let same = stored_once limit bytes names.handle m.handle here there (handle_once e.1 names.handle m.handle names.named m.named) names.stored m.stored in
        let above = All-weaker (λ r. is_before e.0 r.0 ≡ true) (λ r. is_before key r.0 ≡ true) (λ r p. at_most_before key e.0 r.0 t p) more (blocks_above limit bytes e.0 index more rest h.1) in
        a ∙ ap (lookup key) (sym same) ∙ sym (stop_behind key here more above)

-- and that block is refused by no check
pub named_stands : (limit : ℕ) (bytes key : List ℕ) (low : Option (List ℕ)) (index rows : List RowView) (e : TableErr) → Blocks limit bytes low index rows → RefusesNamed limit bytes (entry_for key low index) e → NoCheckFailed e
named_stands limit bytes key low [] rows e b n = absurd n
named_stands limit bytes key low (r ∷ index) rows e (here, more, names, split, rest) n =
    either (is_before r.0 key) n (named_stands limit bytes key (Some r.0) index more e rest)
  where
    either : (b : Bool) → RefusesNamed limit bytes (if b then entry_for key (Some r.0) index else Some (low, r)) e → (RefusesNamed limit bytes (entry_for key (Some r.0) index) e → NoCheckFailed e) → NoCheckFailed e
    either true m next = next m
    either false (k, two, refuses) next =
        let same = handle_once r.1 names.handle k names.named two in
        let there = subst (λ (x : Handle). Stored limit bytes x here) same names.stored in
        stored_stands (lies_in (around (low, r))) limit bytes k here e there (is_between low r.0 here names.between) refuses

-- a table has one index
pub index_once : (bytes : List ℕ) (rows : List RowView) (entries : List IndexEntry) → (t : IsTable bytes rows) → (n : Entered bytes entries) → t.index ≡ n.index
index_once bytes rows entries t n =
    let both : ◌≡◌ {A = Result (Handle × Handle) DamageView} (Ok (t.has.meta, t.has.named)) (Ok (n.has.meta, n.has.named)) = sym t.has.handles ∙ n.has.handles in
    let inner : ◌≡◌ {A = Handle × Handle} (t.has.meta, t.has.named) (n.has.meta, n.has.named) = cc in
    stored_once (footer_at bytes) bytes t.has.named n.has.named t.index n.index (ap (λ (x : Handle × Handle). x.1) inner) t.has.stored n.has.stored

-- the keys of an index rise
pub entered_rises : (bytes : List ℕ) (entries : List IndexEntry) → (n : Entered bytes entries) → KeysRiseAbove None n.index
entered_rises bytes entries n = good_rises _ n.index (stored_is (footer_at bytes) bytes n.has.named n.index n.has.stored).1

-- so what the index says of a key over a table is the row's value
pub gets_row : (bytes key : List ℕ) (rows : List RowView) (entries : List IndexEntry) (r : Result (Option (List ℕ)) TableErr) → (t : IsTable bytes rows) → (n : Entered bytes entries) → Gets (footer_at bytes) bytes key n.index r → GetsRow key rows r
gets_row bytes key rows entries (Ok answer) t n g =
    let blocks = subst (λ (i : List RowView). Blocks (footer_at bytes) bytes None i rows) (index_once bytes rows entries t n) t.blocks in
    value_is (footer_at bytes) bytes key None n.index rows answer blocks (entered_rises bytes entries n) g
gets_row bytes key rows entries (Err e) t n (inl o) = o
gets_row bytes key rows entries (Err e) t n (inr g) =
    let blocks = subst (λ (i : List RowView). Blocks (footer_at bytes) bytes None i rows) (index_once bytes rows entries t n) t.blocks in
    named_stands (footer_at bytes) bytes key None n.index rows e blocks g

-- each entry of an index that names blocks is one handle
blocks_handles : (limit : ℕ) (bytes : List ℕ) (low : Option (List ℕ)) (index rows : List RowView) → Blocks limit bytes low index rows → All (λ r. IsTrue (holds_handle r)) index
blocks_handles limit bytes low [] rows b = All-nil (λ r. IsTrue (holds_handle r))
blocks_handles limit bytes low (e ∷ index) rows (here, more, n, split, rest) =
    All-cons (λ r. IsTrue (holds_handle r)) e index (handle_passes e.1 n.handle n.named) (blocks_handles limit bytes (Some e.0) index more rest)

-- over a table no check fails at entering it
pub table_entered : (bytes : List ℕ) (rows : List RowView) (e : TableErr) → IsTable bytes rows → RefusesTable bytes e → NoCheckFailed e
table_entered bytes rows e t (inl o) = o
table_entered bytes rows e t (inr (inl w)) =
    let some : nat_lt (length bytes) 48 ≡ false = let l = t.has.footer in grind (arith, nat_tests) in
    let none : footer_wrong bytes ≡ None = rw some (ap (moved (footer_at bytes)) t.has.handles) in
    absurd (let both : ◌≡◌ {A = Option TableErrView} None (Some (err_view e)) = sym none ∙ w in cc)
table_entered bytes rows e t (inr (inr (named, f, refuses))) =
    let both : ◌≡◌ {A = Result (Handle × Handle) DamageView} (Ok (t.has.meta, t.has.named)) (Ok (f.1.0, named)) = sym t.has.handles ∙ f.1.1 in
    let inner : ◌≡◌ {A = Handle × Handle} (t.has.meta, t.has.named) (f.1.0, named) = cc in
    let stored = subst (λ (h : Handle). Stored (footer_at bytes) bytes h t.index) (ap (λ (x : Handle × Handle). x.1) inner) t.has.stored in
    stored_stands holds_handle (footer_at bytes) bytes named t.index e stored (blocks_handles (footer_at bytes) bytes None t.index rows t.blocks) refuses
