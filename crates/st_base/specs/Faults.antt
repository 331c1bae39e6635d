-- Counts of faults, by which a caller tells a failure of I/O from one of its own.
use Rattle.std.specs.Prelude.{ℕ, ◌+◌, ◌-◌, ◌^◌, ◌<◌, ◌≤◌, ◌≡◌, min, max, List, length, Result, MatchResult, OnOk, OnErr, IfOk, IsErrOf}

-- the count rose, or it is the greatest number of a u64
abbrev pub Rose : ℕ → ℕ → Type 0
Rose before now = min (before + 1) (2 ^ 64 - 1) ≤ now

-- the count never falls, a call that succeeds leaves it as it was, and one fails only if it rose
pub record HasCause {T E : Type 0} (before now : ℕ) (result : Result T E) : Type 0 where
  pub later : before ≤ now
  pub still : OnOk result (now ≡ before)
  pub failed : OnErr result (Rose before now)

-- the count never falls, a call that succeeds leaves it as it was, and this failure comes only if
-- it rose
pub record HasCauseOf {T E : Type 0} (error : E) (before now : ℕ)
    (result : Result T E) : Type 0 where
  pub later : before ≤ now
  pub still : OnOk result (now ≡ before)
  pub failed : IsErrOf result error → Rose before now

-- the count never falls; a write that takes a byte, or has none to take, leaves it as it was; one
-- that takes nothing of a piece with bytes, or fails, comes only if it rose
pub record HasWriteCause {E : Type 0} (before now : ℕ) (piece : List ℕ)
    (result : Result ℕ E) : Type 0 where
  pub later : before ≤ now
  pub some : IfOk result (λ n. 0 < n → now ≡ before)
  pub empty : OnOk result (length piece ≡ 0 → now ≡ before)
  pub nothing : IfOk result (λ n. n ≡ 0 → 0 < length piece → Rose before now)
  pub failed : OnErr result (Rose before now)

-- one more, but no more than a u64 holds
abbrev pub next_count : ℕ → ℕ
next_count n = min (n + 1) (2 ^ 64 - 1)

-- a call that succeeds leaves the count as it was, and one that fails counts one fault
abbrev pub CountsOne : {T E : Type 0} → ℕ → ℕ → Result T E → Type 0
CountsOne before now result = MatchResult result (λ _. now ≡ before) (λ _. now ≡ next_count before)

-- a count rose by this many, but stops at the greatest number of a u64
abbrev pub CountsOn : ℕ → ℕ → ℕ → Type 0
CountsOn before now by = now ≡ max before (min (before + by) (2 ^ 64 - 1))
