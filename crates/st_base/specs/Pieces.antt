-- What putting bytes does to the bytes that a sink has, if they are known.
use Rattle.std.specs.Prelude.{Option, ℕ, List, take, Result, MatchResult}
use Rattle.std.specs.Io.KnownBytes.{Appends}

-- known bytes grow by a prefix of these, of whatever length
abbrev pub AppendsPrefix : Option (List ℕ) → Option (List ℕ) → List ℕ → Type 0
AppendsPrefix old new bytes = (n : ℕ) × Appends old new (take n bytes)

-- all of these bytes follow those that were known, or after a failure a prefix of them does
abbrev pub Puts : {T E : Type 0} → Option (List ℕ) → Option (List ℕ) → List ℕ → Result T E → Type 0
Puts old new bytes result =
    MatchResult result (λ _. Appends old new bytes) (λ _. AppendsPrefix old new bytes)
