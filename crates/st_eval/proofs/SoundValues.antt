-- Nothing is wrong with the values of the rows of packets.
use Rattle.std.proofs.Common.{◌≡◌, ℕ, zero, suc, ◌*◌, ◌%◌, ◌<◌, ◌^◌, Bool, true, false, ◌||◌, nat_eq, if◌then◌else◌, Option, None, List, [], ◌∷◌, length, IsTrue, All, Contains, slice_index_or, refl, sym, ap, ◌∙◌, subst, arith, true≢false, eq-eqb, ⊎_elim}
use Rattle.std.specs.Option.{option_or}
use Rattle.std.proofs.Math.Nat.{mul-mod_right}
use Rattle.std.proofs.lemmas.List.Elements.{All-contains, All-cons}
use Rattle.st_base.specs.Damages.{DamageView}
use Rattle.st_walk.specs.declared.text.Key.{Key}
use Rattle.st_walk.specs.KeyText.{key_text, Fits}
use Rattle.st_tblock.specs.Block.{RowView}
use Rattle.st_table.specs.RowOrder.{in_range}
use Rattle.st_block.specs.Fields.{not_same}
use Rattle.st_block.specs.BlockText.{HasBytes}
use Rattle.st_block.specs.Scan.{PositionedRecord}
use Rattle.st_rows.specs.KeyOrder.{lies_text}
use Rattle.st_rows.specs.Positions.{has, positions_in, positions_value}
use Rattle.st_rows.specs.Rows.{summary_key, summary_value, IsKeyRow, AllFit}
use Rattle.st_rows.proofs.OneList.{here, there, here_or}
use Rattle.st_rows.proofs.Values.{values_say}
use Rattle.st_rows.specs.Values.{positions_wrong, order_wrong, rises}
use Rattle.st_eval.specs.Selection.{IsIndexOf}
use Rattle.st_eval.specs.Lookups.{HasSoundValues}
use Rattle.st_eval.proofs.Joining.{no_summary}
use Rattle.st_eval.proofs.Risings.{rises_to}

-- what holds of each row that lies in a range, holds of all rows of the range
pub all_in_range : (P : RowView → Type 0) (low high : List ℕ) (rows : List RowView) → ((row : RowView) → Contains rows row → IsTrue (lies_text low high row.0) → P row) → All P (in_range low high rows)
all_in_range P low high [] h = λ k d less. let no : ⊥ = omega arith in absurd no
all_in_range P low high (x ∷ rows) h =
    let rest = all_in_range P low high rows (λ row c l. h row (there x row rows c) l) in
    elim (lies_text low high x.0) as (λ b. lies_text low high x.0 ≡ b → All P (if b then x ∷ in_range low high rows else in_range low high rows)) [
      | true ↦ λ e. All-cons P x (in_range low high rows) (h x (here x rows) e) rest
      | false ↦ λ e. rest
    ] refl

or_left : (a b : Bool) → a ≡ true → (a || b) ≡ true
or_left true b h = refl
or_left false b h = absurd (true≢false (sym h))

or_right : (a b : Bool) → b ≡ true → (a || b) ≡ true
or_right true b h = refl
or_right false b h = h

all_had : (xs : List ℕ) → ((q : ℕ) → IsTrue (has xs q) → q < 2 ^ 32) → (k d : ℕ) → k < length xs → slice_index_or xs k d < 2 ^ 32
all_had [] f k d less = omega arith
all_had (x ∷ xs) f zero d less = f x (or_left (nat_eq x x) _ (eq-eqb x x refl))
all_had (x ∷ xs) f (suc k) d less = all_had xs (λ q h. f q (or_right (nat_eq q x) _ h)) k d (omega arith)

value_length : (ps : List ℕ) → length (positions_value ps) ≡ 4 * length ps
value_length [] = refl
value_length (p ∷ ps) = let e = value_length ps in omega arith

value_whole : (ps : List ℕ) → length (positions_value ps) % 4 ≡ 0
value_whole ps = ap (λ n. n % 4) (value_length ps) ∙ mul-mod_right 4 (length ps)

no_length_wrong : (value : List ℕ) → length value % 4 ≡ 0 → not_same 0 (length value % 4) 0 ≡ None
no_length_wrong value e = rw e refl

no_order_wrong : (ps : List ℕ) → IsTrue (rises ps) → order_wrong ps ≡ None
no_order_wrong ps h = rw h refl

-- nothing is wrong with the value of the row of a key
row_sound : (given : List PositionedRecord) (k : Key) (row : RowView) → AllFit given → IsKeyRow given k row → positions_wrong row.1 ≡ None
row_sound given k row fit is =
    let ps = is.positions in
    let small = all_had ps (λ q h. let (r, c, i) = (is.exact q).0 h in (All-contains (λ (x : PositionedRecord). (x.0 < 2 ^ 32) × (x.1.sec < 2 ^ 32) × (x.1.nsec < 2 ^ 32) × HasBytes x.1) given (q, r) fit c).0) in
    let said : positions_in row.1 ≡ ps = ap positions_in is.value ∙ values_say ps small in
    let whole : not_same 0 (length row.1 % 4) 0 ≡ None = no_length_wrong row.1 (ap (λ (v : List ℕ). length v % 4) is.value ∙ value_whole ps) in
    let order : order_wrong (positions_in row.1) ≡ None = ap order_wrong said ∙ no_order_wrong ps (rises_to ps is.rising) in
    ap (λ (o : Option DamageView). option_or o (order_wrong (positions_in row.1))) whole ∙ order

pub sound_values : (given : List PositionedRecord) (rows : List RowView) → IsIndexOf given rows → HasSoundValues rows
sound_values given rows is low high = all_in_range (λ row. positions_wrong row.1 ≡ None) (key_text low) (key_text high) rows (λ row c l.
    ⊎_elim
    (λ same. absurd (no_summary low high (subst (λ (t : List ℕ). IsTrue (lies_text (key_text low) (key_text high) t)) (ap (λ (x : RowView). x.0) (sym same)) l)))
    (λ d.
    let (k, fk, of_key) = All-contains (λ (x : RowView). (k : Key) × Fits k × IsKeyRow given k x) is.are.keys row is.are.of_keys.each d in
    row_sound given k row is.fit of_key)
    (here_or (summary_key, summary_value is.are.summary) row is.are.keys (subst (λ (xs : List RowView). Contains xs row) is.are.split c)))
