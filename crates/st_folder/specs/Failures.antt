-- What a shelf in a file system keeps of its faults.
use Rattle.std.specs.Prelude.{ℕ, Option, Some, None}
use Rattle.st_base.specs.Faults.{next_count}
use Rattle.st_folder.specs.declared.real.failures.Failure.{Failure}

-- how many faults there were, and the failure of the first
pub record FaultsView : Type 0 where
  pub count : ℕ
  pub first : Option Failure

-- as many as came after the first, and it, if there was one
abbrev pub fault_count : Option Failure → ℕ → ℕ
fault_count None later = 0
fault_count (Some first) later = next_count later

abbrev pub no_faults : FaultsView
no_faults = record { count = 0; first = None }

-- the earlier of two failures
abbrev pub earlier : Option Failure → Failure → Option Failure
earlier None failure = Some failure
earlier (Some first) failure = Some first

-- one fault more
abbrev pub add_fault : FaultsView → Failure → FaultsView
add_fault before failure =
    record { count = next_count before.count; first = earlier before.first failure }
