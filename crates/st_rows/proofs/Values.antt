-- What the values of rows say.
use Rattle.std.proofs.Common.{◌≡◌, ℕ, zero, suc, ◌<◌, ◌^◌, Bool, true, false, ◌||◌, List, [], ◌∷◌, length, IsTrue, slice_index_or, refl, sym, ap, ap₂, ◌∙◌, subst, arith, true≢false, nat_eq, eq-eqb}
use Rattle.std.proofs.lemmas.List.Elements.{All-contains}
use Rattle.byteorder.specs.Numbers.{big_number-reads_back}
use Rattle.st_rows.specs.Positions.{has, positions_in}
use Rattle.st_rows.specs.Rows.{FitsFields}
use Rattle.st_rows.specs.Laws.{ValuesSayPositions, RowsSayPositions}

pub values_say : ValuesSayPositions
values_say [] h = refl
values_say (p ∷ ps) h = ap₂ (λ (q : ℕ) (qs : List ℕ). q ∷ qs) (big_number-reads_back 4 p [] (h 0 0 (omega arith))) (values_say ps (λ k d less. h (suc k) d (omega arith)))

left : (a b : Bool) → a ≡ true → (a || b) ≡ true
left true b h = refl
left false b h = absurd (true≢false (sym h))

right : (a b : Bool) → b ≡ true → (a || b) ≡ true
right true b h = refl
right false b h = h

-- what holds of each position that a list has, holds of all of it
all_had : (xs : List ℕ) → ((q : ℕ) → IsTrue (has xs q) → q < 2 ^ 32) → (k d : ℕ) → k < length xs → slice_index_or xs k d < 2 ^ 32
all_had [] f k d less = omega arith
all_had (x ∷ xs) f zero d less = f x (left (nat_eq x x) _ (eq-eqb x x refl))
all_had (x ∷ xs) f (suc k) d less = all_had xs (λ q h. f q (right (nat_eq q x) _ h)) k d (omega arith)

pub rows_say : RowsSayPositions
rows_say given k row p fit is =
    let small = all_had is.positions (λ q h. let (r, c, i) = (is.exact q).0 h in (All-contains FitsFields given (q, r) fit c).0) in
    let same : positions_in row.1 ≡ is.positions = ap positions_in is.value ∙ values_say is.positions small in
    (λ h. (is.exact p).0 (subst (λ (xs : List ℕ). IsTrue (has xs p)) same h), λ h. subst (λ (xs : List ℕ). IsTrue (has xs p)) (sym same) ((is.exact p).1 h))
