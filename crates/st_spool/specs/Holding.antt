-- Which pairs a hold has, where their files are, and what its release removes.
use Rattle.std.specs.Prelude.{◌≡◌, ◌<◌, ◌≤◌, ◌-◌, ◌∷◌, [], ◌++◌, ℕ, List, Option, None, slice_index, Bool, true, false, length, nat_eq, nat_lt, ◌||◌}
use Rattle.std.specs.List.{remove, slice_index_or}
use Rattle.st_disk.specs.declared.naming.Name.{Name}
use Rattle.st_disk.specs.declared.naming.Name.TheVariants.{Block, Index, Parked}
use Rattle.st_disk.specs.Disks.{Log}
use Rattle.st_disk.specs.LoggedCalls.{Reads}
use Rattle.st_base.specs.Faults.{Rose, next_count}
use Rattle.st_spool.specs.States.{SpoolState, covers}
use Rattle.st_spool.specs.declared.state.Span.{Span}
use Rattle.st_spool.specs.declared.state.Doubt.{Doubt}
use Rattle.st_spool.specs.declared.state.Doubt.TheVariants.{Nothing, Unsettled, Settled, Unhidden, Hidden}

-- how many pairs a hold has
abbrev pub size_of : Span → ℕ
size_of hold = hold.to - hold.from

-- the hold of all pairs that are published
abbrev pub whole_set : SpoolState → Span
whole_set st = record { from = st.removed; to = length st.stamps }

-- the state with a further hold, which is the one that was asked for last
abbrev pub with_hold : SpoolState → SpoolState
with_hold st =
    record st {
      holds = st.holds ++ whole_set st ∷ [];
      asks = next_count st.asks;
      asked = whole_set st;
    }

-- the second list is the first with this hold taken out once
abbrev pub IsWithout : Span → List Span → List Span → Type 0
IsWithout hold old new =
    (k : ℕ) × (k < length old) × (slice_index_or old k hold ≡ hold) × (new ≡ remove old k)

-- whether the index of the pair at this place is parked, by the doubt and how many were removed
abbrev pub is_parked : Doubt → ℕ → ℕ → Bool
is_parked Nothing removed place = nat_lt place removed
is_parked (Unsettled t) removed place = nat_lt place removed
is_parked (Settled t) removed place = nat_lt place removed
is_parked (Unhidden t) removed place = nat_lt place removed
is_parked (Hidden t) removed place = nat_lt place removed || nat_eq place removed

-- the name of the index of a stamp, if it is parked or if it isn't
abbrev pub index_name : Bool → ℕ → Name
index_name true s = Parked s
index_name false s = Index s

-- neither the block nor the parked index of this stamp is there
abbrev pub IsGone : Option Log → ℕ → Type 0
IsGone known s = Reads known (Block s) (λ v. v ≡ None) × Reads known (Parked s) (λ v. v ≡ None)

-- the name is neither of the two files that are left of a removed pair
abbrev pub IsOther : ℕ → Name → Type 0
IsOther s n = (n ≡ Block s → ⊥) × (n ≡ Parked s → ⊥)

-- under names that have P the same is read as before
abbrev pub StayRead : Option Log → Option Log → (Name → Type 0) → Type 0
StayRead old new P =
    (n : Name) (bytes : Option (List ℕ)) → P n → Reads old n (λ v. v ≡ bytes)
    → Reads new n (λ v. v ≡ bytes)

-- A sweep of the removed pairs from the place `from` on. None of those before the place `to` has a
-- file left. If the shelf counted no fault, nor has any other removed pair that no hold has.
pub record Sweeps (known : Option Log) (stamps : List ℕ) (holds : List Span)
    (from to removed before now : ℕ) : Type 0 where
  pub later : from ≤ to
  pub gone : (n : ℕ) → from ≤ n → n < to → IsGone known (slice_index stamps n)
  pub tried : (Rose before now → ⊥) → (n : ℕ) → from ≤ n → n < removed → covers holds n ≡ false
      → IsGone known (slice_index stamps n)
