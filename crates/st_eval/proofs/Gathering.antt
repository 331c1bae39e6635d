-- What lookups and ranges of rows add to positions, and how they are refused.
use Rattle.std.proofs.Common.{◌≡◌, ℕ, Bool, true, false, ◌||◌, nat_eq, List, [], ◌∷◌, ◌++◌, Option, Some, None, Result, Ok, Err, All, IfErr, OnOk, refl, sym, ap, ◌∙◌, subst, ◌⊎◌, inl, inr, ⊎_elim, arith}
use Rattle.std.specs.List.{list_any}
use Rattle.st_tblock.specs.Block.{RowView}
use Rattle.st_tblock.specs.Lookup.{lookup}
use Rattle.st_table.specs.Errors.{NoCheckFailed}
use Rattle.st_table.specs.Index.{Entered}
use Rattle.st_table.specs.IndexLookup.{entry_for}
use Rattle.st_table.specs.Marks.{Checked}
use Rattle.st_table.specs.RowOrder.{in_range, KeysRise}
use Rattle.st_table.specs.Table.{GetsRow, RefusesNamed}
use Rattle.st_table.specs.TableFile.{IsTable, footer_at}
use Rattle.st_table.specs.declared.errors.TableErr.{TableErr}
use Rattle.st_table.specs.declared.errors.TableErr.TheVariants as table
use Rattle.st_table.specs.declared.index.IndexEntry.{IndexEntry}
use Rattle.st_table.proofs.Rising.{table_rises}
use Rattle.st_rows.specs.Positions.{has, positions_in}
use Rattle.st_rows.specs.Laws.{found_row}
use Rattle.st_rows.proofs.Lookups.{lookup_range}
use Rattle.st_eval.specs.declared.errors.EvalErr.{EvalErr}
use Rattle.st_rows.specs.Values.{positions_wrong}
use Rattle.st_eval.specs.Refusals.{NoDamage, Repeats, RefusesEval, IsAfterSummary, Answers, damage_in}
use Rattle.st_eval.specs.Selection.{IsEntered, IsOver}
use Rattle.st_walk.specs.declared.text.Key.{Key}
use Rattle.st_walk.specs.KeyText.{key_text}
use Rattle.st_query.specs.Trees.{Tree, both, either, one}
use Rattle.st_eval.specs.Ranges.{range_in}
use Rattle.st_eval.specs.Selecting.{row_has, any_has, picks, selects}
use Rattle.st_eval.specs.Lookups.{Appends, Gains, SoundBetween, HasSoundValues}

-- ---- tests of positions

pub or_assoc : (a b c : Bool) → ((a || b) || c) ≡ (a || (b || c))
or_assoc true b c = refl
or_assoc false b c = refl

pub or_false : (a : Bool) → (a || false) ≡ a
or_false true = refl
or_false false = refl

pub has_append : (xs ys : List ℕ) (p : ℕ) → has (xs ++ ys) p ≡ (has xs p || has ys p)
has_append [] ys p = refl
has_append (x ∷ xs) ys p = rw (has_append xs ys p) (sym (or_assoc (nat_eq p x) (has xs p) (has ys p)))

-- ---- errors

pub no_damage : (t : TableErr) (e : EvalErr) → Repeats t e → NoCheckFailed t → NoDamage e
no_damage table.ReadFault e r n = ap damage_in r
no_damage (table.Damaged d) e r n = absurd n
no_damage (table.Compressed place) e r n = absurd n
no_damage table.NoMemory e r n = ap damage_in r

pub refuses_named : (bytes : List ℕ) (index : List RowView) (key : List ℕ) (t : TableErr) (e : EvalErr) → Repeats t e → NoCheckFailed t ⊎ RefusesNamed (footer_at bytes) bytes (entry_for key None index) t → RefusesEval bytes index e
refuses_named bytes index key t e r h = ⊎_elim (λ n. inl (no_damage t e r n)) (λ n. inr (inl (t, r, inl (key, n)))) h

-- an error on a row's value
abbrev pub RefusesValue : List ℕ → EvalErr → Type 0
RefusesValue value e = NoDamage e ⊎ (damage_in e ≡ positions_wrong value)

pub refuses_value : {T : Type 0} (bytes : List ℕ) (index : List RowView) (key value : List ℕ) (result : Result T EvalErr) → IsAfterSummary key → Answers bytes index key (Some value) → IfErr result (RefusesValue value) → IfErr result (RefusesEval bytes index)
refuses_value bytes index key value (Ok x) after a h = h
refuses_value bytes index key value (Err e) after a h = ⊎_elim (λ n. inl n) (λ w. inr (inr (key, value, after, a, w))) h

-- ---- a table that was entered

abbrev pub entered : (content : Option (List ℕ)) (entries : List IndexEntry) (checked : List Bool) (bytes : List ℕ) (index : List RowView) → IsEntered content entries checked bytes index → Entered bytes entries
entered content entries checked bytes index is = record { index = index; has = is.has; decoded = is.decoded }

-- what a lookup says over a table of rows
abbrev pub SaysRow : Option (List ℕ) → List IndexEntry → List Bool → List ℕ → Result (Option (List ℕ)) TableErr → Type 0
SaysRow content entries checked key result =
    (bytes : List ℕ) (rows : List RowView) → content ≡ Some bytes → Entered bytes entries → Checked (footer_at bytes) bytes None entries checked → IsTable bytes rows → GetsRow key rows result

pub gets_row : (content : Option (List ℕ)) (entries : List IndexEntry) (checked : List Bool) (key : List ℕ) (rows : List RowView) (result : Result (Option (List ℕ)) TableErr) → SaysRow content entries checked key result → IsOver content entries checked rows → GetsRow key rows result
gets_row content entries checked key rows result says over = says over.bytes rows over.is.known (entered content entries checked over.bytes over.index over.is) over.is.marks over.table

pub rows_rise : (content : Option (List ℕ)) (entries : List IndexEntry) (checked : List Bool) (rows : List RowView) → IsOver content entries checked rows → KeysRise rows
rows_rise content entries checked rows over = table_rises over.bytes rows over.table

-- ---- one key

one_row : (key : List ℕ) (rows : List RowView) (o : Option (List ℕ)) → KeysRise rows → o ≡ lookup key rows → in_range key key rows ≡ found_row key o
one_row key rows o rise e = lookup_range key rows rise ∙ ap (found_row key) (sym e)

pub appends_value : {T : Type 0} (test : ℕ → Bool) (Sound : Type 0) (value old new : List ℕ) (result : Result T EvalErr)
    → ((p : ℕ) → has (positions_in value) p ≡ test p) → (Sound → positions_wrong value ≡ None)
    → OnOk result (new ≡ old ++ positions_in value) → IfErr result (RefusesValue value) → Appends test Sound old new result
appends_value test Sound value old new (Ok x) says sound added refused = λ p.
    ap (λ (xs : List ℕ). has xs p) added ∙ (has_append old (positions_in value) p ∙ ap (λ b. has old p || b) (says p))
appends_value test Sound value old new (Err e) says sound added refused = λ s. ⊎_elim (λ n. n) (λ w. w ∙ sound s) refused

-- a key whose row has this value
pub appends_one : {T : Type 0} (key value : List ℕ) (rows : List RowView) (old new : List ℕ) (result : Result T EvalErr)
    → KeysRise rows → Some value ≡ lookup key rows
    → OnOk result (new ≡ old ++ positions_in value) → IfErr result (RefusesValue value)
    → Appends (any_has key key rows) (SoundBetween key key rows) old new result
appends_one key value rows old new result rise e =
    let one : in_range key key rows ≡ (key, value) ∷ [] = one_row key rows (Some value) rise e in
    appends_value (any_has key key rows) (SoundBetween key key rows) value old new result
    (λ p. sym (ap (λ (rs : List RowView). list_any (row_has p) rs) one ∙ or_false (has (positions_in value) p)))
    (λ sound. let all = subst (λ (rs : List RowView). All (λ row. positions_wrong row.1 ≡ None) rs) one sound in all 0 (key, value) (omega arith))

-- a key without a row
pub appends_none : (key : List ℕ) (rows : List RowView) (old : List ℕ) → KeysRise rows → None ≡ lookup key rows → Gains (any_has key key rows) old old
appends_none key rows old rise e p =
    let none : in_range key key rows ≡ [] = one_row key rows None rise e in
    sym (or_false (has old p)) ∙ ap (λ (rs : List RowView). has old p || list_any (row_has p) rs) (sym none)

-- a row of the table whose value is refused
pub refuses_row : (bytes : List ℕ) (index : List RowView) (key value read : List ℕ) (e : EvalErr) → read ≡ value → IsAfterSummary key → Answers bytes index key (Some value) → RefusesValue read e → RefusesEval bytes index e
refuses_row bytes index key value read e same after a h = ⊎_elim (λ n. inl n) (λ w. inr (inr (key, value, after, a, w ∙ ap positions_wrong same))) h

-- ---- keys

pub appends_keys : {T : Type 0} (low high : List ℕ) (a b : Key) (rows : List RowView) (old new : List ℕ) (result : Result T EvalErr)
    → low ≡ key_text a → high ≡ key_text b
    → Appends (any_has low high rows) (SoundBetween low high rows) old new result → Appends (picks rows (Some (a, b))) (HasSoundValues rows) old new result
appends_keys low high a b rows old new (Ok x) e f h = λ p. h p ∙ (ap (λ (l : List ℕ). has old p || any_has l high rows p) e ∙ ap (λ (l : List ℕ). has old p || any_has (key_text a) l rows p) f)
appends_keys low high a b rows old new (Err x) e f h = λ sound. h (subst (λ (l : List ℕ). SoundBetween l high rows) (sym e) (subst (λ (l : List ℕ). SoundBetween (key_text a) l rows) (sym f) (sound a b)))

pub appends_selected : {T : Type 0} (rows : List RowView) (q : Tree) (now : ℕ) (x : Key × Key) (old new : List ℕ) (result : Result T EvalErr)
    → Some x ≡ range_in q now
    → Appends (picks rows (Some x)) (HasSoundValues rows) old new result → Appends (selects rows q now) (HasSoundValues rows) old new result
appends_selected rows (both a b) now x old new result e h = cc
appends_selected rows (either a b) now x old new result e h = cc
appends_selected rows (one q) now x old new (Ok y) e h = λ p. h p ∙ ap (λ (o : Option (Key × Key)). has old p || picks rows o p) e
appends_selected rows (one q) now x old new (Err y) e h = h
