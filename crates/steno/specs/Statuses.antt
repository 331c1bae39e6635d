-- The ways in which a run ends.
use Rattle.std.specs.Prelude.{◌≡◌, ◌⊎◌, ℕ}
use Rattle.steno.specs.declared.status.Status.{Status}
use Rattle.steno.specs.declared.status.Status.TheVariants.{Done, Usage, BadInput, BadQuery, ReadFault, WriteFault, DiskFault, Damaged, NoMemory, StampsSpent}

-- the number that a process ends with
abbrev pub code_of : Status → ℕ
code_of Done = 0
code_of Usage = 2
code_of BadInput = 3
code_of BadQuery = 4
code_of ReadFault = 5
code_of WriteFault = 6
code_of DiskFault = 7
code_of Damaged = 8
code_of NoMemory = 9
code_of StampsSpent = 10

-- the status is this one, unless memory runs out
abbrev pub Ends : Status → Status → Type 0
Ends which status = (status ≡ which) ⊎ (status ≡ NoMemory)
