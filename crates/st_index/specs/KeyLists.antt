-- The lists of a maker that have positions, in the order of their keys.
use Rattle.std.specs.Prelude.{◌≡◌, ℕ, ◌+◌, ◌<◌, List, [], ◌∷◌, ◌++◌, length, IsTrue, All, Contains}
use Rattle.std.specs.Ordering.{is_lt}
use Rattle.st_walk.specs.declared.text.Key.{Key}
use Rattle.st_walk.specs.declared.text.Key.TheVariants.{Proto, Port, Vlan, V4, Mpls, V6, Second}
use Rattle.st_rows.specs.KeyOrder.{key_cmp}
use Rattle.st_index.specs.PositionLists.{positions_at}
use Rattle.st_index.specs.EntryLists.{KeyList, lists_of_numbers, lists_of_values, lists_of_entries}
use Rattle.st_index.specs.Slots.{in_slot}
use Rattle.st_index.specs.declared.lists.PositionLists.{PositionLists}
use Rattle.st_index.specs.declared.key_lists.KeyLists.{KeyLists}

-- the lists of each kind, in the order of kinds
abbrev pub key_lists : PositionLists → List KeyList
key_lists l =
    lists_of_numbers (λ n. Proto n) 0 l.protos.items
    ++ (lists_of_numbers (λ n. Port n) 0 l.ports.items
    ++ (lists_of_entries (λ n. Vlan n) l.vlans.entries
    ++ (lists_of_values (in_slot l.v4_addresses.lists.items) (λ n. V4 n)
    l.v4_addresses.order.entries
    ++ (lists_of_entries (λ n. Mpls n) l.labels.entries
    ++ (lists_of_entries (λ n. V6 n) l.v6_addresses.entries
    ++ lists_of_entries (λ n. Second n) l.seconds.entries)))))

-- the lists that are still to come
abbrev pub lists_left : KeyLists → List KeyList
lists_left s =
    lists_of_numbers (λ n. Proto n) s.protos.number s.protos.rest.now
    ++ (lists_of_numbers (λ n. Port n) s.ports.number s.ports.rest.now
    ++ (lists_of_entries (λ n. Vlan n) s.vlans
    ++ (lists_of_values (in_slot s.v4_addresses.lists.now) (λ n. V4 n) s.v4_addresses.order
    ++ (lists_of_entries (λ n. Mpls n) s.labels
    ++ (lists_of_entries (λ n. V6 n) s.v6_addresses
    ++ lists_of_entries (λ n. Second n) s.seconds)))))

-- each key is before all later ones, by kind and then by number
abbrev pub Ascend : List KeyList → Type 0
Ascend [] = Unit {0}
Ascend (x ∷ xs) =
    ((y : KeyList) → Contains xs y → IsTrue (is_lt (key_cmp x.0 y.0))) × Ascend xs

-- these are all lists that have positions, in the order of their keys
pub record AreLists (l : PositionLists) (xs : List KeyList) : Type 0 where
  pub ascend : Ascend xs
  pub each : All (λ x. (x.1 ≡ positions_at l x.0) × (0 < length x.1)) xs
  pub all : (k : Key) → 0 < length (positions_at l k) → Contains xs (k, positions_at l k)

-- how many positions are in these lists together
abbrev pub count_of : List KeyList → ℕ
count_of [] = 0
count_of (x ∷ xs) = length x.1 + count_of xs
