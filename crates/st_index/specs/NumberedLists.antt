-- Lists of positions by number or by key, and what putting a position does to them.
use Rattle.std.specs.Prelude.{◌≡◌, ℕ, ◌-◌, ◌⊎◌, List, [], ◌∷◌, ◌++◌, length, take, Bool, ◌&&◌, nat_eq, nat_lt, if◌then◌else◌, option_map, unwrap_or, slice_index, slice_get, Vec}
use Rattle.std.specs.Global.{Global}
use Rattle.std.specs.BTreeMap.{BTreeMap, get}
use Rattle.std.specs.declared.cmp.Ordering.{Ordering}

-- the list of a number, empty if there is none
abbrev pub at_number : List (Vec ℕ Global) → ℕ → List ℕ
at_number lists n = unwrap_or (option_map (λ v. v.items) (slice_get lists n)) []

-- the list of a key in a map of this order whose values have these lists, empty if there is none
abbrev pub list_at : {N X : Type 0} → (X → List ℕ) → (N → N → Ordering) → BTreeMap N X → N → List ℕ
list_at list cmp m k = unwrap_or (option_map list (get cmp m k)) []

-- the list of a key in a map of lists
abbrev pub at_key : {N : Type 0} → (N → N → Ordering) → BTreeMap N (Vec ℕ Global) → N → List ℕ
at_key cmp lists k = list_at (λ v. v.items) cmp lists k

-- the last of these positions is this one
abbrev pub ends_with : List ℕ → ℕ → Bool
ends_with ps p = nat_lt 0 (length ps) && nat_eq (slice_index ps (length ps - 1)) p

-- these positions with this one at their end, once
abbrev pub with_last : List ℕ → ℕ → List ℕ
with_last ps p = if ends_with ps p then ps else ps ++ p ∷ []

-- these positions but this one, where it is the last
abbrev pub without_last : List ℕ → ℕ → List ℕ
without_last ps p = if ends_with ps p then take (length ps - 1) ps else ps

-- the list gained the position and the key is had, or it stayed and the key is not
abbrev pub Gained : Type 0 → List ℕ → List ℕ → ℕ → Type 0
Gained Has before now p = ((now ≡ before ++ p ∷ []) × Has) ⊎ ((now ≡ before) × (Has → ⊥))

-- the list gained the position and the key is had, or it stayed
abbrev pub MayHave : Type 0 → List ℕ → List ℕ → ℕ → Type 0
MayHave Has before now p = ((now ≡ before ++ p ∷ []) × Has) ⊎ (now ≡ before)
