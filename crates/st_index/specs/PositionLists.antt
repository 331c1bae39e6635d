-- The positions of each key that `PositionLists` keeps.
use Rattle.std.specs.Prelude.{◌≡◌, ℕ, ◌+◌, List, [], ◌∷◌, length, Contains}
use Rattle.std.specs.Ordering.{nat_cmp}
use Rattle.st_walk.specs.declared.text.Key.{Key}
use Rattle.st_walk.specs.declared.text.Key.TheVariants.{Proto, Port, Vlan, V4, Mpls, V6, Second}
use Rattle.st_index.specs.NumberedLists.{at_number, at_key}
use Rattle.st_index.specs.AddressLists.{at_address}
use Rattle.st_index.specs.declared.lists.PositionLists.{PositionLists}

-- the positions of a key
abbrev pub positions_at : PositionLists → Key → List ℕ
positions_at l (Proto n) = at_number l.protos.items n
positions_at l (Port n) = at_number l.ports.items n
positions_at l (Vlan n) = at_key nat_cmp l.vlans n
positions_at l (V4 n) = at_address l.v4_addresses n
positions_at l (Mpls n) = at_key nat_cmp l.labels n
positions_at l (V6 n) = at_key nat_cmp l.v6_addresses n
positions_at l (Second n) = at_key nat_cmp l.seconds n

-- no key is there twice
abbrev pub AreDistinct : List Key → Type 0
AreDistinct [] = Unit {0}
AreDistinct (k ∷ ks) = ((j : Key) → Contains ks j → k ≡ j → ⊥) × AreDistinct ks

-- how many positions these keys have together
abbrev pub count_in : PositionLists → List Key → ℕ
count_in l [] = 0
count_in l (k ∷ ks) = length (positions_at l k) + count_in l ks
