-- The rows of packets hold all checks.
use Rattle.std.proofs.Common.{◌≡◌, ℕ, ◌+◌, ◌-◌, ◌*◌, ◌%◌, ◌<◌, ◌^◌, Bool, true, false, nat_eq, nat_lt, List, [], ◌∷◌, ◌++◌, length, length-append, All, Contains, Option, Some, None, refl, sym, ap, ◌∙◌, subst, lit<, arith}
use Rattle.std.specs.Prelude.{option_map, if◌then◌else◌}
use Rattle.std.specs.Option.{option_or}
use Rattle.std.proofs.lemmas.Bool.Decides.{nat_tests}
use Rattle.std.proofs.lemmas.List.Elements.{All-head, All-tail, All-contains, All-nil, All-cons, All-weaker}
use Rattle.st_base.specs.Damages.{DamageView, unmet}
use Rattle.st_tblock.specs.Block.{RowView}
use Rattle.st_block.specs.BlockText.{HasBytes}
use Rattle.st_block.specs.Scan.{PositionedRecord}
use Rattle.st_walk.specs.declared.text.Key.{Key}
use Rattle.st_walk.specs.KeyText.{key_text, Fits}
use Rattle.st_rows.specs.Positions.{positions_in}
use Rattle.st_rows.specs.Rows.{SummaryView, summary_key, summary_value, IsKeyRow, AreRowsOf, AllFit}
use Rattle.st_rows.proofs.Values.{values_say}
use Rattle.st_rows.proofs.OneList.{Sorted, sorted_from, here, there, has_from}
use Rattle.st_index.specs.CheckRows.{is_summary_key, summary_wrong, rises, positions_wrong, value_wrong, values_wrong, content_wrong, rows_wrong, row_wrong, length_text, row_text, first_difference}
use Rattle.st_index.proofs.RowsOf.{text_size, value_size}
use Rattle.st_index.proofs.Differences.{no_difference, no_difference_itself, same_rows, length_size}

-- the value of a summary row passes its checks
summary_stands : (s : SummaryView) → summary_wrong (Some (summary_value s)) ≡ None
summary_stands s = refl

-- lists that rise do
rises_sorted : (ps : List ℕ) → Sorted (λ (p q : ℕ). p < q) ps → rises ps ≡ true
rises_sorted [] h = refl
rises_sorted (p ∷ []) h = refl
rises_sorted (p ∷ q ∷ ps) h =
    let below : nat_lt p q ≡ true = let less = h.0 q (here q ps) in grind (arith, nat_tests) in
    rw below (rises_sorted (q ∷ ps) h.1)

-- what holds of each number that a list has, holds of all
all_of : (P : ℕ → Type 0) (xs : List ℕ) → ((q : ℕ) → Contains xs q → P q) → All P xs
all_of P [] f = All-nil P
all_of P (x ∷ xs) f = All-cons P x xs (f x (here x xs)) (all_of P xs (λ q c. f q (there x q xs c)))

-- the positions of a key's row fit
small : (given : List PositionedRecord) (k : Key) (row : RowView) → AllFit given → (is : IsKeyRow given k row) → All (λ p. p < 2 ^ 32) is.positions
small given k row fit is = all_of (λ p. p < 2 ^ 32) is.positions (λ q c.
    let (r, d, i) = (is.exact q).0 (has_from is.positions q c) in
    (All-contains (λ (x : PositionedRecord). (x.0 < 2 ^ 32) × (x.1.sec < 2 ^ 32) × (x.1.nsec < 2 ^ 32) × HasBytes x.1) given (q, r) fit d).0)

-- four times a number leaves nothing by four
four_times : (n : ℕ) → 4 * n % 4 ≡ 0
four_times n = omega arith

-- so a key's row passes its checks
row_stands : (given : List PositionedRecord) (k : Key) (row : RowView) → AllFit given → IsKeyRow given k row → value_wrong row ≡ None
row_stands given k row fit is =
    let size : length row.1 % 4 ≡ 0 = ap (λ (v : List ℕ). length v % 4) is.value ∙ ap (λ (n : ℕ). n % 4) (value_size is.positions) ∙ four_times (length is.positions) in
    let same : positions_in row.1 ≡ is.positions = ap positions_in is.value ∙ values_say is.positions (small given k row fit is) in
    let rise : rises (positions_in row.1) ≡ true = ap rises same ∙ rises_sorted is.positions (sorted_from (λ (p q : ℕ). p < q) is.positions is.rising) in
    let none : positions_wrong row.1 ≡ None = no_wrong (length row.1 % 4) (rises (positions_in row.1)) size rise in
    either (is_summary_key row.0) none
  where
    no_wrong : (n : ℕ) (b : Bool) → n ≡ 0 → b ≡ true → option_or (if nat_eq n 0 then None else Some (record { place = 0; found = n; want = 0 })) (if b then None else Some (unmet 0)) ≡ None
    no_wrong n b e t =
        let zero : nat_eq n 0 ≡ true = grind (arith, nat_tests) in
        rw (zero, t) refl

    either : (b : Bool) → positions_wrong row.1 ≡ None → ◌≡◌ {A = Option DamageView} (if b then None else positions_wrong row.1) None
    either true h = refl
    either false h = h

-- and so do those of all keys
values_stand : (given : List PositionedRecord) (rows : List RowView) → AllFit given → All (λ row. (k : Key) × Fits k × IsKeyRow given k row) rows → values_wrong rows ≡ None
values_stand given [] fit a = refl
values_stand given (r ∷ rows) fit a =
    let (k, f, is) = All-head (λ (row : RowView). (k : Key) × Fits k × IsKeyRow given k row) r rows a in
    let first = row_stands given k r fit is in
    rw first (values_stand given rows fit (All-tail (λ (row : RowView). (k : Key) × Fits k × IsKeyRow given k row) r rows a))

-- the rows of packets say nothing wrong
pub content_stands : (given : List PositionedRecord) (rows : List RowView) → AllFit given → AreRowsOf given rows → content_wrong rows ≡ None
content_stands given rows fit are =
    ap content_wrong are.split ∙ rw (summary_stands are.summary) (values_stand given are.keys fit are.of_keys.each)

-- rows that are those wanted differ nowhere
row_itself : (n : ℕ) (r : RowView) → row_wrong n (row_text r) (row_text r) ≡ None
row_itself n r = rw (no_difference_itself (row_text r)) refl

pub rows_themselves : (n : ℕ) (rows : List RowView) → rows_wrong n rows rows ≡ None
rows_themselves n [] = refl
rows_themselves n (r ∷ rows) = rw (row_itself n r) (rows_themselves (n + 1) rows)

-- and rows that differ nowhere from those wanted, whose keys are short, are those
no_row : (n : ℕ) (xs ys : List ℕ) → row_wrong n xs ys ≡ None → first_difference xs ys ≡ None
no_row n xs ys e = either (first_difference xs ys) e
  where
    either : (o : Option (ℕ × ℕ)) → ◌≡◌ {A = Option DamageView} (option_map (λ x. record { place = n; found = x.0; want = x.1 }) o) None → o ≡ None
    either None h = refl
    either (Some x) h = cc

or_left : {X : Type 0} (o p : Option X) → option_or o p ≡ None → o ≡ None
or_left None p h = refl
or_left (Some x) p h = cc

or_right : {X : Type 0} (o p : Option X) → option_or o p ≡ None → p ≡ None
or_right None p h = h
or_right (Some x) p h = cc

-- a row has bytes
some_bytes : (r : RowView) → row_text r ≡ [] → ⊥
some_bytes r e =
    let n = ap length e in
    let l = length-append (length_text r.0) (r.0 ++ r.1) in
    let four = length_size r.0 in
    let no : ⊥ = omega arith in
    no

pub same_lists : (n : ℕ) (rows wanted : List RowView) → All (λ r. length r.0 < 2 ^ 32 - 1) wanted → rows_wrong n rows wanted ≡ None → rows ≡ wanted
same_lists n [] [] a e = refl
same_lists n [] (q ∷ wanted) a e =
    absurd (some_bytes q (sym (no_difference [] (row_text q) (no_row n [] (row_text q) e))))
same_lists n (r ∷ rows) [] a e =
    absurd (some_bytes r (no_difference (row_text r) [] (no_row n (row_text r) [] e)))
same_lists n (r ∷ rows) (q ∷ wanted) a e =
    let first = or_left (row_wrong n (row_text r) (row_text q)) (rows_wrong (n + 1) rows wanted) e in
    let rest = or_right (row_wrong n (row_text r) (row_text q)) (rows_wrong (n + 1) rows wanted) e in
    let head = same_rows r q (All-head (λ (r : RowView). length r.0 < 2 ^ 32 - 1) q wanted a) (no_row n (row_text r) (row_text q) first) in
    let tail = same_lists (n + 1) rows wanted (All-tail (λ (r : RowView). length r.0 < 2 ^ 32 - 1) q wanted a) rest in
    λ i. head i ∷ tail i

-- the keys of the rows of packets are short
short_key : (given : List PositionedRecord) (row : RowView) → (k : Key) × Fits k × IsKeyRow given k row → length row.0 < 2 ^ 32 - 1
short_key given row (k, f, is) = let size = text_size k in let l : length row.0 ≡ length (key_text k) = ap length is.key in omega arith

pub short_keys : (given : List PositionedRecord) (rows : List RowView) → AreRowsOf given rows → All (λ r. length r.0 < 2 ^ 32 - 1) rows
short_keys given rows are =
    let keys = All-weaker (λ (row : RowView). (k : Key) × Fits k × IsKeyRow given k row) (λ (r : RowView). length r.0 < 2 ^ 32 - 1) (λ row h. short_key given row h) are.keys are.of_keys.each in
    subst (λ (xs : List RowView). All (λ r. length r.0 < 2 ^ 32 - 1) xs) (sym are.split)
    (All-cons (λ (r : RowView). length r.0 < 2 ^ 32 - 1) (summary_key, summary_value are.summary) are.keys (lit< tt) keys)
