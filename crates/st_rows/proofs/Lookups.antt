-- A lookup of a key is the range from it to itself.
use Rattle.std.proofs.Common.{◌≡◌, ℕ, Bool, true, false, ◌&&◌, not, if◌then◌else◌, List, [], ◌∷◌, Some, None, IsTrue, Contains, refl, sym, ap, ◌∙◌, true≢false, Less, is_lt, nat_cmp, Ordering, Equal, Greater}
use Rattle.std.specs.Cmp.Lexicographic.{slice_cmp}
use Rattle.std.specs.Ordering.{ordering_reverse, is_gt, is_eq}
use Rattle.std.proofs.lemmas.Cmp.{nat_list_cmp_total}
use Rattle.std.proofs.lemmas.Map.Text.{is_eq-slice_cmp}
use Rattle.std.specs.Cmp.Lexicographic.{bytes_decides}
use Rattle.st_tblock.specs.Block.{RowView, is_before}
use Rattle.st_tblock.specs.Lookup.{lookup}
use Rattle.st_table.specs.RowOrder.{in_range}
use Rattle.st_rows.specs.Laws.{LookupIsRange, found_row}
use Rattle.st_rows.proofs.OneList.{here, there, Sorted, sorted_from}
use Rattle.st_rows.proofs.OneRows.{Before, before_trans}

and_false : (b : Bool) → (b && false) ≡ false
and_false true = refl
and_false false = refl

-- no row above a key is in its range
none_in : (k : List ℕ) (rows : List RowView) → ((y : RowView) → Contains rows y → IsTrue (is_before k y.0)) → in_range k k rows ≡ []
none_in k [] h = refl
none_in k (r ∷ rows) h =
    let above : is_before k r.0 ≡ true = h r (here r rows) in
    ap (λ (b : Bool). if not b && not (is_before r.0 k) then r ∷ in_range k k rows else in_range k k rows) above ∙ none_in k rows (λ y c. h y (there r y rows c))

tied : (o q : Ordering) → o ≡ ordering_reverse q → is_lt o ≡ false → is_lt q ≡ false → o ≡ Equal
tied Less q e h i = absurd (true≢false h)
tied Equal q e h i = refl
tied Greater Less e h i = absurd (true≢false i)
tied Greater Equal e h i = e
tied Greater Greater e h i = let bad : true ≡ false = ap (λ (o : Ordering). is_gt o) e in absurd (true≢false bad)

-- neither is before the other: they are tied
tie : (a b : List ℕ) → is_before a b ≡ false → is_before b a ≡ false → slice_cmp nat_cmp a b ≡ Equal
tie a b h i = tied (slice_cmp nat_cmp a b) (slice_cmp nat_cmp b a) (nat_list_cmp_total.antisymm a b) h i

-- keys of which neither is before the other are equal
pub equal : (a b : List ℕ) → is_before a b ≡ false → is_before b a ≡ false → a ≡ b
equal a b h i = (bytes_decides a b).0 (sym (is_eq-slice_cmp a b) ∙ ap is_eq (tie a b h i))

find : (k : List ℕ) (rows : List RowView) → Sorted Before rows → in_range k k rows ≡ found_row k (lookup k rows)
find k [] s = refl
find k (r ∷ rows) s = elim (is_before r.0 k) as (λ a. is_before r.0 k ≡ a → (if not (is_before k r.0) && not a then r ∷ in_range k k rows else in_range k k rows) ≡ found_row k (if a then lookup k rows else if is_before k r.0 then None else Some r.1)) [
  | true ↦ λ e. ap (λ (b : Bool). if b then r ∷ in_range k k rows else in_range k k rows) (and_false (not (is_before k r.0))) ∙ find k rows s.1
  | false ↦ λ e. elim (is_before k r.0) as (λ b. is_before k r.0 ≡ b → (if not b && true then r ∷ in_range k k rows else in_range k k rows) ≡ found_row k (if b then None else Some r.1)) [
    | true ↦ λ f. none_in k rows (λ y c. before_trans (k, []) r y f (s.0 y c))
    | false ↦ λ f.
        let same : r.0 ≡ k = equal r.0 k e f in
        let rest : in_range k k rows ≡ [] = none_in k rows (λ y c. ap (λ (t : List ℕ). is_before t y.0) (sym same) ∙ s.0 y c) in
        λ n. (same n, r.1) ∷ rest n
  ] refl
] refl

pub lookup_range : LookupIsRange
lookup_range key rows rise = find key rows (sorted_from Before rows rise)
