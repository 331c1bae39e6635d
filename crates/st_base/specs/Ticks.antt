-- A clock by its answers to come, if they are known.
use Rattle.std.specs.Prelude.{Option, ◌≡◌, ℕ, List, [], ◌∷◌, None, Some}

-- the clock answers the first of its answers and goes on to the next; the last one stays, and
-- without any it answers 0
abbrev pub Ticks : Option (List ℕ) → Option (List ℕ) → ℕ → Type 0
Ticks None new n = new ≡ None
Ticks (Some []) new n = (n ≡ 0) × (new ≡ Some [])
Ticks (Some (x ∷ [])) new n = (n ≡ x) × (new ≡ Some (x ∷ []))
Ticks (Some (x ∷ y ∷ later)) new n = (n ≡ x) × (new ≡ Some (y ∷ later))
