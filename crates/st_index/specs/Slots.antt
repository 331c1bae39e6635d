-- The lists of addresses, by slots: the slot of an address is the place of its list.
use Rattle.std.specs.Prelude.{◌≡◌, ℕ, ◌↔◌, List, [], Option, Some, option_map, unwrap_or, slice_get}
use Rattle.std.specs.BTreeMap.{BTreeMap, get}
use Rattle.std.specs.Ordering.{nat_cmp}
use Rattle.st_index.specs.declared.addresses.AddressList.{AddressList}

-- the positions in a slot, none if there is no such slot
abbrev pub in_slot : List AddressList → ℕ → List ℕ
in_slot lists s = unwrap_or (option_map (λ x. x.positions.items) (slice_get lists s)) []

-- the address whose slot it is
abbrev pub address_at : List AddressList → ℕ → Option ℕ
address_at lists s = option_map (λ x. x.address) (slice_get lists s)

-- the order has each address that has a slot, with that slot, and no other
abbrev pub AreSlots : BTreeMap ℕ ℕ → List AddressList → Type 0
AreSlots order lists = (a s : ℕ) → (get nat_cmp order a ≡ Some s) ↔ (address_at lists s ≡ Some a)
