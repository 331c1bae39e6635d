-- What a call of a shelf in a file system does to the count of faults and to the loans.
use Rattle.std.specs.Prelude.{◌≡◌, ◌<◌, ℕ, Result, MatchResult}
use Rattle.st_base.specs.Faults.{next_count}
use Rattle.st_shelf.specs.Loans.{LoansView}
use Rattle.st_folder.specs.Failures.{FaultsView}

-- both are as they were
abbrev pub IsLeftAlone : FaultsView → FaultsView → LoansView → LoansView → Type 0
IsLeftAlone before now loans_before loans_now = (now ≡ before) × (loans_now ≡ loans_before)

-- one fault is counted if the draft had any of its own, and else none
pub record CountsOwn (own before now : ℕ) : Type 0 where
  pub some : 0 < own → now ≡ next_count before
  pub none : own ≡ 0 → now ≡ before

-- one fault is counted if the removal failed or the draft had any of its own, and else none
abbrev pub SettlesUp : {T E : Type 0} → Result T E → ℕ → ℕ → ℕ → Type 0
SettlesUp removed own before now =
    MatchResult removed (λ _. CountsOwn own before now) (λ _. now ≡ next_count before)
