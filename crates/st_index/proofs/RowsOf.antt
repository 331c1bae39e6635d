-- The rows of a maker are those of its packets, and have room in a table.
use Rattle.std.proofs.Common.{◌≡◌, ℕ, zero, suc, ◌+◌, ◌*◌, ◌<◌, ◌≤◌, List, [], ◌∷◌, length, length-append, map, IsTrue, All, AllPairs, Contains, slice_index_or, refl, sym, ap, ◌∙◌, subst, arith, true≢false, Option, Some, None, IsSome, is_lt, nat_cmp, Ordering}
use Rattle.std.proofs.lemmas.Bool.Decides.{nat_tests}
use Rattle.std.specs.Ordering.{ordering_then}
use Rattle.std.specs.Int.{bytes_high_first}
use Rattle.std.proofs.lemmas.List.Elements.{All-contains}
use Rattle.byteorder.specs.Numbers.{length-bytes_high_first}
use Rattle.st_walk.specs.declared.text.Key.{Key}
use Rattle.st_walk.specs.declared.text.Key.TheVariants.{Proto, Port, Vlan, V4, Mpls, V6, Second}
use Rattle.st_walk.specs.KeyText.{key_text, Fits}
use Rattle.st_tblock.specs.Block.{RowView, is_before}
use Rattle.st_table.specs.TableBuilderView.{room_of}
use Rattle.st_block.specs.Scan.{PositionedRecord}
use Rattle.st_rows.specs.KeyOrder.{key_cmp, kind_of, number_of}
use Rattle.st_rows.specs.Positions.{has, positions_value}
use Rattle.st_rows.specs.Rows.{IsKeyRow, AreRowsOf, summary_key}
use Rattle.st_rows.proofs.KeyTexts.{texts}
use Rattle.st_rows.proofs.OneList.{here, there, has_from, Sorted}
use Rattle.st_rows.proofs.Packets.{packet_keys_fit}
use Rattle.st_index.specs.PositionLists.{positions_at, AreDistinct, count_in}
use Rattle.st_index.specs.Summaries.{summary_view}
use Rattle.st_index.specs.EntryLists.{KeyList}
use Rattle.st_index.specs.KeyLists.{Ascend, AreLists, count_of}
use Rattle.st_index.specs.Maker.{ArePositions, HasPackets}
use Rattle.st_index.specs.RowList.{summary_row, key_row, rows_from}
use Rattle.st_index.specs.declared.lists.PositionLists.{PositionLists}
use Rattle.st_index.specs.declared.summary.Summary.{Summary}

-- ---- the order of rows

-- a key that is before another has its text before the other's
pub text_before : (k j : Key) → Fits k → Fits j → IsTrue (is_lt (key_cmp k j)) → IsTrue (is_before (key_text k) (key_text j))
text_before k j f g h = ap (λ (o : Ordering). is_lt o) (texts k j f g) ∙ h

pub summary_before : (k : Key) → IsTrue (is_before summary_key (key_text k))
summary_before (Proto n) = refl
summary_before (Port n) = refl
summary_before (Vlan n) = refl
summary_before (V4 n) = refl
summary_before (Mpls n) = refl
summary_before (V6 n) = refl
summary_before (Second n) = refl

all_pairs_of : {X : Type 0} (lt : X → X → Type 0) (xs : List X) → Sorted lt xs → AllPairs lt xs
all_pairs_of lt [] s i j d less under = absurd (omega arith)
all_pairs_of lt (x ∷ xs) s i zero d less under = absurd (omega arith)
all_pairs_of lt (x ∷ xs) s zero (suc j) d less under = s.0 (slice_index_or xs j d) (j, (omega arith), same_default xs j d (omega arith))
  where
    same_default : {X : Type 0} (xs : List X) (i : ℕ) (d : X) → i < length xs → slice_index_or xs i (slice_index_or xs i d) ≡ slice_index_or xs i d
    same_default [] i d less = absurd (omega arith)
    same_default (x ∷ xs) zero d less = refl
    same_default (x ∷ xs) (suc i) d less = same_default xs i d (omega arith)
all_pairs_of lt (x ∷ xs) s (suc i) (suc j) d less under = all_pairs_of lt xs s.1 i j d (omega arith) (omega arith)

-- a row of these lists
in_rows : (xs : List KeyList) (r : RowView) → Contains (map key_row xs) r → (x : KeyList) × Contains xs x × (key_row x ≡ r)
in_rows [] r (k, less, e) = absurd (omega (arith, less))
in_rows (x ∷ xs) r (zero, less, e) = (x, here x xs, e)
in_rows (x ∷ xs) r (suc k, less, e) = let (y, c, f) = in_rows xs r (k, omega arith, e) in (y, there x y xs c, f)

row_in : (xs : List KeyList) (x : KeyList) → Contains xs x → Contains (map key_row xs) (key_row x)
row_in [] x (k, less, e) = absurd (omega (arith, less))
row_in (y ∷ xs) x (zero, less, e) = (zero, omega arith, ap key_row e)
row_in (y ∷ xs) x (suc k, less, e) = there (key_row y) (key_row x) (map key_row xs) (row_in xs x (k, omega arith, e))

-- a row's key is before another's
abbrev Before : RowView → RowView → Type 0
Before r q = IsTrue (is_before r.0 q.0)

rows_sorted : (xs : List KeyList) → ((x : KeyList) → Contains xs x → Fits x.0) → Ascend xs → Sorted Before (map key_row xs)
rows_sorted [] fit s = tt
rows_sorted (x ∷ xs) fit s = (
  (λ r c. let (y, d, e) = in_rows xs r c in
      subst (λ (q : RowView). Before (key_row x) q) e (text_before x.0 y.0 (fit x (here x xs)) (fit y (there x y xs d)) (s.0 y d))),
  rows_sorted xs (λ y c. fit y (there x y xs c)) s.1,
)

-- ---- the rows of packets

some_had : (ps : List ℕ) → 0 < length ps → (p : ℕ) × IsTrue (has ps p)
some_had [] h = absurd (omega arith)
some_had (p ∷ ps) h = (p, has_from (p ∷ ps) p (here p ps))

had_some : (ps : List ℕ) (p : ℕ) → IsTrue (has ps p) → 0 < length ps
had_some [] p h = absurd (true≢false (sym h))
had_some (x ∷ ps) p h = omega arith

all_rows : (P : RowView → Type 0) (xs : List KeyList) → ((x : KeyList) → Contains xs x → P (key_row x)) → All P (map key_row xs)
all_rows P [] h i d less = absurd (omega (arith, less))
all_rows P (x ∷ xs) h zero d less = h x (here x xs)
all_rows P (x ∷ xs) h (suc i) d less = all_rows P xs (λ y c. h y (there x y xs c)) i d (omega arith)

pub rows_of_records : (l : PositionLists) (s : Summary) (end : ℕ) (given : List PositionedRecord) (xs : List KeyList) → AreLists l xs → HasPackets l (Some s) end given
    → AreRowsOf given (summary_row s ∷ map key_row xs)
rows_of_records l s end given xs are h =
    let own : (x : KeyList) → Contains xs x → (x.1 ≡ positions_at l x.0) × (0 < length x.1) = λ x c. All-contains (λ (x : KeyList). (x.1 ≡ positions_at l x.0) × (0 < length x.1)) xs x are.each c in
    let listed : (x : KeyList) → Contains xs x → ArePositions given x.0 x.1 = λ x c. subst (λ (ps : List ℕ). ArePositions given x.0 ps) (sym (own x c).0) (h.positions x.0) in
    let fit : (x : KeyList) → Contains xs x → Fits x.0 = λ x c. let (p, i) = some_had x.1 (own x c).1 in packet_keys_fit given x.0 p h.fit (((listed x c).1 p).0 i) in
    record {
      summary = summary_view s;
      is = h.summed;
      keys = map key_row xs;
      split = refl;
      of_keys = record {
        each = all_rows (λ row. (k : Key) × Fits k × IsKeyRow given k row) xs (λ x c. (
          x.0,
          fit x c,
          record {
            key = refl;
            positions = x.1;
            value = refl;
            rising = (listed x c).0;
            some = (own x c).1;
            exact = (listed x c).1;
          },
        ));
        all = λ k p i.
            let held = ((h.positions k).1 p).1 i in
            let c = are.all k (had_some (positions_at l k) p held) in
            (key_row (k, positions_at l k), row_in xs (k, positions_at l k) c, refl);
      };
      order = all_pairs_of Before (summary_row s ∷ map key_row xs)
          ((λ r c. let (x, d, e) = in_rows xs r c in subst (λ (q : RowView). Before (summary_row s) q) e (summary_before x.0)), rows_sorted xs fit are.ascend);
    }

-- ---- the room that rows take

-- no key is before itself
never : (a b : ℕ) → IsTrue (is_lt (ordering_then (nat_cmp a a) (nat_cmp b b))) → ⊥
never a b h = grind (arith, nat_tests)

apart : (k j : Key) → IsTrue (is_lt (key_cmp k j)) → k ≡ j → ⊥
apart k j h e = never (kind_of k) (number_of k) (subst (λ (i : Key). IsTrue (is_lt (key_cmp k i))) (sym e) h)

keys_of_lists : List KeyList → List Key
keys_of_lists [] = []
keys_of_lists (x ∷ xs) = x.0 ∷ keys_of_lists xs

in_keys : (xs : List KeyList) (k : Key) → Contains (keys_of_lists xs) k → (x : KeyList) × Contains xs x × (x.0 ≡ k)
unfolding keys_of_lists
in_keys [] k (i, less, e) = absurd (omega (arith, less))
in_keys (x ∷ xs) k (zero, less, e) = (x, here x xs, e)
in_keys (x ∷ xs) k (suc i, less, e) = let (y, c, f) = in_keys xs k (i, omega arith, e) in (y, there x y xs c, f)

distinct : (xs : List KeyList) → Ascend xs → AreDistinct (keys_of_lists xs)
unfolding keys_of_lists
distinct [] h = tt
distinct (x ∷ xs) h = ((λ j c e. let (y, d, f) = in_keys xs j c in apart x.0 y.0 (h.0 y d) (e ∙ sym f)), distinct xs h.1)

counted : (l : PositionLists) (xs : List KeyList) → ((x : KeyList) → Contains xs x → x.1 ≡ positions_at l x.0) → count_in l (keys_of_lists xs) ≡ count_of xs
unfolding keys_of_lists
counted l [] own = refl
counted l (x ∷ xs) own =
    let first : length x.1 ≡ length (positions_at l x.0) = ap length (own x (here x xs)) in
    let rest = counted l xs (λ y c. own y (there x y xs c)) in
    omega (arith, first, rest)

-- all lists together have a fourth as many positions as there are bytes
pub count_bound : (l : PositionLists) (end : ℕ) (xs : List KeyList) → AreLists l xs → ((ks : List Key) → AreDistinct ks → 4 * count_in l ks + 48 ≤ end) → 4 * count_of xs + 48 ≤ end
count_bound l end xs are few =
    let own : (x : KeyList) → Contains xs x → (x.1 ≡ positions_at l x.0) × (0 < length x.1) = λ x c. All-contains (λ (x : KeyList). (x.1 ≡ positions_at l x.0) × (0 < length x.1)) xs x are.each c in
    let same = counted l xs (λ x c. (own x c).0) in
    let bound = few (keys_of_lists xs) (distinct xs are.ascend) in
    omega (arith, same, bound)

pub value_size : (ps : List ℕ) → length (positions_value ps) ≡ 4 * length ps
value_size [] = refl
value_size (p ∷ ps) =
    let rest = value_size ps in
    let first = length-bytes_high_first 4 p in
    let all = length-append (bytes_high_first 4 p) (positions_value ps) in
    omega (arith, rest, first, all)

pub text_size : (k : Key) → length (key_text k) ≤ 17
text_size (Proto n) = let h = length-bytes_high_first 1 n in omega (arith, h)
text_size (Port n) = let h = length-bytes_high_first 2 n in omega (arith, h)
text_size (Vlan n) = let h = length-bytes_high_first 2 n in omega (arith, h)
text_size (V4 n) = let h = length-bytes_high_first 4 n in omega (arith, h)
text_size (Mpls n) = let h = length-bytes_high_first 4 n in omega (arith, h)
text_size (V6 n) = let h = length-bytes_high_first 16 n in omega (arith, h)
text_size (Second n) = let h = length-bytes_high_first 4 n in omega (arith, h)

-- the room of a row with positions: 53 bytes for each at most
pub row_room : (x : KeyList) → 0 < length x.1 → room_of (key_row x) ≤ 53 * length x.1
row_room x some = let key = text_size x.0 in let value = value_size x.1 in omega (arith, key, value, some)

pub rows_of_some : (l : PositionLists) (summary : Option Summary) (end : ℕ) (given : List PositionedRecord) (xs : List KeyList) → IsSome summary → AreLists l xs → HasPackets l summary end given
    → AreRowsOf given (rows_from summary xs)
rows_of_some l None end given xs some are h = absurd (true≢false (sym some))
rows_of_some l (Some s) end given xs some are h = rows_of_records l s end given xs are h
