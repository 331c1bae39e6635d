-- What contracts see of all that a run works on.
use Rattle.std.specs.Prelude.{ℕ, List, Option}
use Rattle.st_disk.specs.Disks.{Log}
use Rattle.st_shelf.specs.Loans.{LoansView}

-- the input's bytes to come, the output's bytes so far, the clock's readings to come, and the log
-- of the shelf, each if it is known; and what the shelf counts of the files that it lent
pub record Scene : Type 0 where
  pub input : Option (List ℕ)
  pub output : Option (List ℕ)
  pub clock : Option (List ℕ)
  pub log : Option Log
  pub loans : LoansView

-- these, as a scene
abbrev pub scene :
    Option (List ℕ) → Option (List ℕ) → Option (List ℕ) → Option Log → LoansView → Scene
scene input output clock log loans =
    record { input = input; output = output; clock = clock; log = log; loans = loans }
