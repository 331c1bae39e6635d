-- The positions of each address that `AddressLists` keeps.
use Rattle.std.specs.Prelude.{ℕ, List}
use Rattle.std.specs.Ordering.{nat_cmp}
use Rattle.st_index.specs.NumberedLists.{list_at}
use Rattle.st_index.specs.Slots.{in_slot}
use Rattle.st_index.specs.declared.addresses.AddressLists.{AddressLists}

-- the positions of an address
abbrev pub at_address : AddressLists → ℕ → List ℕ
at_address l a = list_at (in_slot l.lists.items) nat_cmp l.order a
