-- Which calls of a shelf in memory fail, if some are to.
use Rattle.std.specs.Prelude.{Option, None, Some, ◌≤◌, ◌⊎◌, ℕ, List, Contains, MatchOption}

-- the call of this number is listed, or comes at the stop or after it
abbrev pub IsToFail : Option (List ℕ × Option ℕ) → ℕ → Type 0
IsToFail None call = ⊥
IsToFail (Some (fails, stop)) call =
    Contains fails call ⊎ MatchOption stop ⊥ (λ first. first ≤ call)
