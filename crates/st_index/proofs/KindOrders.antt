-- The lists of a maker that have positions rise by their keys, and are all of them.
use Rattle.std.proofs.Common.{◌≡◌, ℕ, zero, suc, ◌<◌, ◌≤◌, List, [], ◌∷◌, ◌++◌, length, IsTrue, All, Contains, slice_index_or, refl, sym, ap, ◌∙◌, arith, ⊎_elim, Vec, nat_cmp, is_lt, lit<}
use Rattle.std.specs.Global.{Global}
use Rattle.std.specs.BTreeMap.{BTreeMap}
use Rattle.std.specs.Ordering.{ordering_then}
use Rattle.std.proofs.lemmas.Bool.Decides.{nat_tests}
use Rattle.std.proofs.lemmas.List.Elements.{Contains-append_left, Contains-append_right, Contains-append_cases}
use Rattle.st_walk.specs.declared.text.Key.{Key}
use Rattle.st_walk.specs.declared.text.Key.TheVariants.{Proto, Port, Vlan, V4, Mpls, V6, Second}
use Rattle.st_rows.specs.KeyOrder.{kind_of, number_of}
use Rattle.st_index.specs.PositionLists.{positions_at}
use Rattle.st_index.specs.EntryLists.{KeyList, lists_of_numbers, lists_of_values, lists_of_entries}
use Rattle.st_index.specs.Slots.{in_slot}
use Rattle.st_index.specs.KeyLists.{key_lists, Ascend, AreLists}
use Rattle.st_index.specs.declared.lists.PositionLists.{PositionLists}
use Rattle.st_index.proofs.KeyOrders.{here, there, Lower, IsMap, IsOf, numbers_ascend, entries_ascend, of_number, of_number_all, of_map, of_map_all}

by_kind : (k j : Key) → kind_of k < kind_of j → Lower k j
by_kind k j h = by_numbers (kind_of k) (kind_of j) (number_of k) (number_of j) h
  where
    by_numbers : (a b c d : ℕ) → a < b → IsTrue (is_lt (ordering_then (nat_cmp a b) (nat_cmp c d)))
    by_numbers a b c d h = grind (arith, nat_tests)

by_number : (key : ℕ → Key) → ((n : ℕ) → kind_of (key n) ≡ kind_of (key 0)) → ((n : ℕ) → number_of (key n) ≡ n) → (i j : ℕ) → i < j → Lower (key i) (key j)
by_number key kinds numbers i j h = by_numbers (kind_of (key i)) (kind_of (key j)) (number_of (key i)) (number_of (key j)) (kinds i ∙ sym (kinds j)) (let a = numbers i in let b = numbers j in omega (arith, a, b, h))
  where
    by_numbers : (a b c d : ℕ) → a ≡ b → c < d → IsTrue (is_lt (ordering_then (nat_cmp a b) (nat_cmp c d)))
    by_numbers a b c d e h = grind (arith, nat_tests)

append_ascend : (xs ys : List KeyList) → Ascend xs → Ascend ys → ((x y : KeyList) → Contains xs x → Contains ys y → Lower x.0 y.0) → Ascend (xs ++ ys)
append_ascend [] ys s t low = t
append_ascend (x ∷ xs) ys s t low =
    ((λ y c. ⊎_elim (λ d. s.0 y d) (λ d. low x y (here x xs) d) (Contains-append_cases xs ys y c)), append_ascend xs ys s.1 t (λ z y c d. low z y (there x z xs c) d))

-- lists of this kind and of later ones, in their order
record AreFrom (l : PositionLists) (kind : ℕ) (xs : List KeyList) : Type 0 where
  ascend : Ascend xs
  each : (x : KeyList) → Contains xs x → (kind ≤ kind_of x.0) × (x.1 ≡ positions_at l x.0) × (0 < length x.1)

-- those of one kind
of_one : (l : PositionLists) (key : ℕ → Key) (kind : ℕ) (xs : List KeyList) → ((n : ℕ) → kind_of (key n) ≡ kind) → Ascend xs → ((x : KeyList) → Contains xs x → IsOf l key x) → AreFrom l kind xs
of_one l key kind xs kinds rise each = record {
  ascend = rise;
  each = λ x c.
      let (n, e, own, some) = each x c in
      let same : kind_of x.0 ≡ kind = ap kind_of e ∙ kinds n in
      (omega (arith, same), own, some);
}

-- those of one kind, and of the kinds after it
before_later : (l : PositionLists) (key : ℕ → Key) (kind next : ℕ) (xs ys : List KeyList) → ((n : ℕ) → kind_of (key n) ≡ kind) → kind < next → Ascend xs → ((x : KeyList) → Contains xs x → IsOf l key x) → AreFrom l next ys → AreFrom l kind (xs ++ ys)
before_later l key kind next xs ys kinds less rise each later = record {
  ascend = append_ascend xs ys rise later.ascend (λ x y c d.
      let (n, e, own, some) = each x c in
      let same : kind_of x.0 ≡ kind = ap kind_of e ∙ kinds n in
      let (from, f, g) = later.each y d in
      by_kind x.0 y.0 (omega (arith, same, from, less)));
  each = λ x c. ⊎_elim
      (λ i.
      let (n, e, own, some) = each x i in
      let same : kind_of x.0 ≡ kind = ap kind_of e ∙ kinds n in
      (omega (arith, same), own, some))
      (λ i. let (from, f, g) = later.each x i in (omega (arith, from, less), f, g))
      (Contains-append_cases xs ys x c);
}

all_of : {X : Type 0} (P : X → Type 0) (xs : List X) → ((x : X) → Contains xs x → P x) → All P xs
all_of P [] h = λ i d less. absurd (omega arith)
all_of P (x ∷ xs) h = λ i d less. h (slice_index_or (x ∷ xs) i d) (i, less, same_default (x ∷ xs) i d less)
  where
    same_default : {X : Type 0} (xs : List X) (i : ℕ) (d : X) → i < length xs → slice_index_or xs i (slice_index_or xs i d) ≡ slice_index_or xs i d
    same_default [] i d less = absurd (omega arith)
    same_default (x ∷ xs) zero d less = refl
    same_default (x ∷ xs) (suc i) d less = same_default xs i d (omega arith)

-- ---- the lists of each kind, and those from a kind on

abbrev items : Vec ℕ Global → List ℕ
items v = v.items

abbrev protos_of : PositionLists → List KeyList
protos_of l = lists_of_numbers (λ n. Proto n) 0 l.protos.items

abbrev ports_of : PositionLists → List KeyList
ports_of l = lists_of_numbers (λ n. Port n) 0 l.ports.items

abbrev vlans_of : PositionLists → List KeyList
vlans_of l = lists_of_entries (λ n. Vlan n) l.vlans.entries

abbrev v4_of : PositionLists → List KeyList
v4_of l = lists_of_values (in_slot l.v4_addresses.lists.items) (λ n. V4 n) l.v4_addresses.order.entries

abbrev labels_of : PositionLists → List KeyList
labels_of l = lists_of_entries (λ n. Mpls n) l.labels.entries

abbrev v6_of : PositionLists → List KeyList
v6_of l = lists_of_entries (λ n. V6 n) l.v6_addresses.entries

abbrev seconds_of : PositionLists → List KeyList
seconds_of l = lists_of_entries (λ n. Second n) l.seconds.entries

abbrev from_v6 : PositionLists → List KeyList
from_v6 l = v6_of l ++ seconds_of l

abbrev from_labels : PositionLists → List KeyList
from_labels l = labels_of l ++ from_v6 l

abbrev from_v4 : PositionLists → List KeyList
from_v4 l = v4_of l ++ from_labels l

abbrev from_vlans : PositionLists → List KeyList
from_vlans l = vlans_of l ++ from_v4 l

abbrev from_ports : PositionLists → List KeyList
from_ports l = ports_of l ++ from_vlans l

after_ports : (l : PositionLists) (x : KeyList) → Contains (from_vlans l) x → Contains (key_lists l) x
after_ports l x c = Contains-append_right (protos_of l) (from_ports l) x (Contains-append_right (ports_of l) (from_vlans l) x c)

after_vlans : (l : PositionLists) (x : KeyList) → Contains (from_v4 l) x → Contains (key_lists l) x
after_vlans l x c = after_ports l x (Contains-append_right (vlans_of l) (from_v4 l) x c)

after_v4 : (l : PositionLists) (x : KeyList) → Contains (from_labels l) x → Contains (key_lists l) x
after_v4 l x c = after_vlans l x (Contains-append_right (v4_of l) (from_labels l) x c)

after_labels : (l : PositionLists) (x : KeyList) → Contains (from_v6 l) x → Contains (key_lists l) x
after_labels l x c = after_v4 l x (Contains-append_right (labels_of l) (from_v6 l) x c)

every : (l : PositionLists) (k : Key) → 0 < length (positions_at l k) → Contains (key_lists l) (k, positions_at l k)
every l (Proto n) some = Contains-append_left (protos_of l) (from_ports l) _ (of_number_all (λ n. Proto n) l.protos.items n some)
every l (Port n) some = Contains-append_right (protos_of l) (from_ports l) _ (Contains-append_left (ports_of l) (from_vlans l) _ (of_number_all (λ n. Port n) l.ports.items n some))
every l (Vlan n) some = after_ports l _ (Contains-append_left (vlans_of l) (from_v4 l) _ (of_map_all (λ n. Vlan n) items l.vlans n some))
every l (V4 n) some = after_vlans l _ (Contains-append_left (v4_of l) (from_labels l) _ (of_map_all (λ n. V4 n) (in_slot l.v4_addresses.lists.items) l.v4_addresses.order n some))
every l (Mpls n) some = after_v4 l _ (Contains-append_left (labels_of l) (from_v6 l) _ (of_map_all (λ n. Mpls n) items l.labels n some))
every l (V6 n) some = after_labels l _ (Contains-append_left (v6_of l) (seconds_of l) _ (of_map_all (λ n. V6 n) items l.v6_addresses n some))
every l (Second n) some = after_labels l _ (Contains-append_right (v6_of l) (seconds_of l) _ (of_map_all (λ n. Second n) items l.seconds n some))

-- those of a map's kind ascend
map_ascends : {X : Type 0} (key : ℕ → Key) (list : X → List ℕ) (m : BTreeMap ℕ X) → ((n : ℕ) → kind_of (key n) ≡ kind_of (key 0)) → ((n : ℕ) → number_of (key n) ≡ n) → IsMap m → Ascend (lists_of_values list key m.entries)
map_ascends key list m kinds numbers is = entries_ascend list key m.entries (by_number key kinds numbers) is.0

-- the lists of the kinds that have maps
of_maps : (l : PositionLists) → IsMap l.vlans → IsMap l.v4_addresses.order → IsMap l.labels → IsMap l.v6_addresses → IsMap l.seconds → AreFrom l 3 (from_vlans l)
of_maps l vlans v4 labels v6 seconds =
    let last = of_one l (λ n. Second n) 7 (seconds_of l) (λ n. refl) (map_ascends (λ n. Second n) items l.seconds (λ n. refl) (λ n. refl) seconds) (of_map l (λ n. Second n) items l.seconds (λ n. refl) seconds) in
    let sixth = before_later l (λ n. V6 n) 6 7 (v6_of l) (seconds_of l) (λ n. refl) (lit< tt) (map_ascends (λ n. V6 n) items l.v6_addresses (λ n. refl) (λ n. refl) v6) (of_map l (λ n. V6 n) items l.v6_addresses (λ n. refl) v6) last in
    let fifth = before_later l (λ n. Mpls n) 5 6 (labels_of l) (from_v6 l) (λ n. refl) (lit< tt) (map_ascends (λ n. Mpls n) items l.labels (λ n. refl) (λ n. refl) labels) (of_map l (λ n. Mpls n) items l.labels (λ n. refl) labels) sixth in
    let fourth = before_later l (λ n. V4 n) 4 5 (v4_of l) (from_labels l) (λ n. refl) (lit< tt) (map_ascends (λ n. V4 n) (in_slot l.v4_addresses.lists.items) l.v4_addresses.order (λ n. refl) (λ n. refl) v4) (of_map l (λ n. V4 n) (in_slot l.v4_addresses.lists.items) l.v4_addresses.order (λ n. refl) v4) fifth in
    before_later l (λ n. Vlan n) 3 4 (vlans_of l) (from_v4 l) (λ n. refl) (lit< tt) (map_ascends (λ n. Vlan n) items l.vlans (λ n. refl) (λ n. refl) vlans) (of_map l (λ n. Vlan n) items l.vlans (λ n. refl) vlans) fourth

-- the lists of all kinds
of_all : (l : PositionLists) → AreFrom l 3 (from_vlans l) → AreFrom l 1 (key_lists l)
of_all l later =
    let second = before_later l (λ n. Port n) 2 3 (ports_of l) (from_vlans l) (λ n. refl) (lit< tt) (numbers_ascend (λ n. Port n) 0 l.ports.items (by_number (λ n. Port n) (λ n. refl) (λ n. refl))) (of_number l (λ n. Port n) l.ports.items (λ n. refl)) later in
    before_later l (λ n. Proto n) 1 2 (protos_of l) (from_ports l) (λ n. refl) (lit< tt) (numbers_ascend (λ n. Proto n) 0 l.protos.items (by_number (λ n. Proto n) (λ n. refl) (λ n. refl))) (of_number l (λ n. Proto n) l.protos.items (λ n. refl)) second

pub are_lists : (l : PositionLists) → IsMap l.vlans → IsMap l.v4_addresses.order → IsMap l.labels → IsMap l.v6_addresses → IsMap l.seconds → AreLists l (key_lists l)
are_lists l vlans v4 labels v6 seconds =
    let all = of_all l (of_maps l vlans v4 labels v6 seconds) in
    record {
      ascend = all.ascend;
      each = all_of (λ x. (x.1 ≡ positions_at l x.0) × (0 < length x.1)) (key_lists l) (λ x c. let (from, own, some) = all.each x c in (own, some));
      all = every l;
    }
