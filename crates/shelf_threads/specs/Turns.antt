-- The rule by which threads take turns on a value: it is at home while the word is 0.
use Rattle.std.specs.Prelude.{◌≡◌, ℕ, [], ◌∷◌, Option, Some, length, slice_index}
use Rattle.atomic_table.specs.Table.{State, Me, Step}
use mathlib.Core.Option.{some}

module _ {X V : Type 0} where
  -- the one word is 0 only while the value is at home
  abbrev pub IsAtHome : State (Option X) V → Type 0
  IsAtHome s = (length s.words ≡ 1)
      × (slice_index s.words 0 ≡ 0 → (x : X) × (s.homes ≡ some (Some x) ∷ []))

  -- who found 0 has the turn, and the value is out with that seat
  abbrev pub Took : Step (Option X) → Me (Option X) V → ℕ → Me (Option X) V → Type 0
  Took s me found after = found ≡ 0 → (x : X) × (after.1 ≡ (0, Some x) ∷ [])

  -- the turn is over
  abbrev pub Gave : Step (Option X) → Me (Option X) V → ℕ → Me (Option X) V → Type 0
  Gave s me found after = Unit {0}
