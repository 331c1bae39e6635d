-- Packets have one list of rows.
use Rattle.std.proofs.Common.{◌≡◌, ℕ, suc, ◌<◌, true, List, [], ◌∷◌, length, IsTrue, AllPairs, Contains, inl, inr, refl, sym, ap, ap₂, ◌∙◌, subst, arith, true≢false, Less, is_lt, Ordering, Equal, Greater}
use Rattle.std.proofs.lemmas.List.Elements.{All-contains}
use Rattle.std.proofs.lemmas.Cmp.{nat_list_cmp_total, tied_itself}
use Rattle.st_base.specs.Records.{time}
use Rattle.st_walk.specs.declared.text.Key.{Key}
use Rattle.st_walk.specs.KeyText.{key_text, Fits}
use Rattle.st_walk.proofs.Texts.{same_key}
use Rattle.st_tblock.specs.Block.{RowView, is_before}
use Rattle.st_block.specs.Scan.{PositionedRecord}
use Rattle.st_rows.specs.Positions.{positions_value}
use Rattle.st_rows.specs.Rows.{Moment, IsUpTo, SummaryView, summary_key, summary_value, IsKeyRow, AreKeyRows}
use Rattle.st_rows.specs.Laws.{OneSummary, OneKeyRow, OneListOfRows}
use Rattle.st_rows.proofs.OneList.{here, sorted_from, one_sorted, has_from, one_rising_list}

-- ---- the summary

-- of moments that are each up to the other, there is one
one_moment : (t u : Moment) → IsUpTo t u → IsUpTo u t → t ≡ u
one_moment t u (inl h) (inl i) = let no : ⊥ = omega (arith, h, i) in absurd no
one_moment t u (inl h) (inr (e, i)) = let no : ⊥ = omega (arith, h, e) in absurd no
one_moment t u (inr (e, h)) (inl i) = let no : ⊥ = omega (arith, i, e) in absurd no
one_moment t u (inr (e, h)) (inr (f, i)) = let same : t.1 ≡ u.1 = omega (arith, h, i) in λ n. (e n, same n)

pub one_summary : OneSummary
one_summary given s t is also =
    let first : s.first ≡ t.first =
    (let (x, c, e) = is.first in let (y, d, f) = also.first in
    one_moment s.first t.first
    (subst (λ (m : Moment). IsUpTo s.first m) f (All-contains (λ (z : PositionedRecord). IsUpTo s.first (time z.1)) given y is.none_before d))
    (subst (λ (m : Moment). IsUpTo t.first m) e (All-contains (λ (z : PositionedRecord). IsUpTo t.first (time z.1)) given x also.none_before c))) in
    let last : s.last ≡ t.last =
    (let (x, c, e) = is.last in let (y, d, f) = also.last in
    one_moment s.last t.last
    (subst (λ (m : Moment). IsUpTo m t.last) e (All-contains (λ (z : PositionedRecord). IsUpTo (time z.1) t.last) given x also.none_after c))
    (subst (λ (m : Moment). IsUpTo m s.last) f (All-contains (λ (z : PositionedRecord). IsUpTo (time z.1) s.last) given y is.none_after d))) in
    let count : s.packets ≡ t.packets = is.packets ∙ sym also.packets in
    λ n. record { packets = count n; first = first n; last = last n }

-- ---- a key's row

pub one_key_row : OneKeyRow
one_key_row given k row other is also =
    let places : is.positions ≡ also.positions = one_rising_list is.positions also.positions is.rising also.rising
    (λ p. (λ h. (also.exact p).1 ((is.exact p).0 h), λ h. (is.exact p).1 ((also.exact p).0 h))) in
    λ n. ((is.key ∙ sym also.key) n, (is.value ∙ (ap positions_value places ∙ sym also.value)) n)

-- ---- all rows

-- a row's key is before another's
abbrev pub Before : RowView → RowView → Type 0
Before r q = IsTrue (is_before r.0 q.0)

less : (o : Ordering) → is_lt o ≡ true → o ≡ Less
less Less h = refl
less Equal h = absurd (true≢false (sym h))
less Greater h = absurd (true≢false (sym h))

pub before_trans : (x y z : RowView) → Before x y → Before y z → Before x z
before_trans x y z h i = ap (λ (o : Ordering). is_lt o) (nat_list_cmp_total.trans x.0 y.0 z.0 (less _ h) (less _ i))

pub before_never : (x : RowView) → Before x x → ⊥
before_never x h = true≢false (sym h ∙ ap (λ (o : Ordering). is_lt o) (tied_itself nat_list_cmp_total x.0))

some_held : (ps : List ℕ) → 0 < length ps → (p : ℕ) × Contains ps p
some_held [] h = let no : ⊥ = omega arith in absurd no
some_held (p ∷ ps) h = (p, here p ps)

-- a row is named by one key
one_name : (row : RowView) (j k : Key) → Fits j → Fits k → row.0 ≡ key_text j → row.0 ≡ key_text k → j ≡ k
one_name row j k f g e h = same_key j k f g (sym e ∙ h)

-- two rows of one key are equal
same_row : (given : List PositionedRecord) (j k : Key) (row z : RowView) → j ≡ k → IsKeyRow given j row → IsKeyRow given k z → row ≡ z
same_row given j k row z same other own = one_key_row given k row z (subst (λ (i : Key). IsKeyRow given i row) same other) own

-- a row of the one list is in the other
row_in : (given : List PositionedRecord) (rows more : List RowView) → AreKeyRows given rows → AreKeyRows given more → (z : RowView) → Contains rows z → Contains more z
row_in given rows more are also z c =
    let (k, fk, own) = All-contains (λ (x : RowView). (k : Key) × Fits k × IsKeyRow given k x) rows z are.each c in
    let (p, held) = some_held own.positions own.some in
    let (row, d, named) = also.all k p ((own.exact p).0 (has_from own.positions p held)) in
    let (j, fj, other) = All-contains (λ (x : RowView). (k : Key) × Fits k × IsKeyRow given k x) more row also.each d in
    let same : j ≡ k = one_name row j k fj fk other.key named in
    let one : row ≡ z = same_row given j k row z same other own in
    subst (λ (x : RowView). Contains more x) one d

tail_pairs : {X : Type 0} (lt : X → X → Type 0) (x : X) (xs : List X) → AllPairs lt (x ∷ xs) → AllPairs lt xs
tail_pairs lt x xs h = λ i j d less under. h (suc i) (suc j) d (omega arith) (omega arith)

pub one_list_of_rows : OneListOfRows
one_list_of_rows given rows others are also =
    let sorted = sorted_from Before are.keys (tail_pairs Before _ are.keys (subst (λ (xs : List RowView). AllPairs Before xs) are.split are.order)) in
    let ordered = sorted_from Before also.keys (tail_pairs Before _ also.keys (subst (λ (xs : List RowView). AllPairs Before xs) also.split also.order)) in
    let keys : are.keys ≡ also.keys = one_sorted Before before_trans before_never are.keys also.keys sorted ordered
    (row_in given are.keys also.keys are.of_keys also.of_keys) (row_in given also.keys are.keys also.of_keys are.of_keys) in
    let summary = one_summary given are.summary also.summary are.is also.is in
    are.split ∙ (ap₂ (λ (s : SummaryView) (rs : List RowView). (summary_key, summary_value s) ∷ rs) summary keys ∙ sym also.split)
