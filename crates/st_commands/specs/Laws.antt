-- Laws of what a command writes, which the functions of `laws` ensure.
use Rattle.std.specs.Prelude.{◌≡◌, ℕ, List, All, Contains, Option}
use Rattle.st_base.specs.declared.damages.Damage.{Damage}
use Rattle.st_disk.specs.Pairs.{Entry}
use Rattle.st_pairs.specs.Pairs.{IsWholePair}
use Rattle.st_commands.specs.Reports.{Reports}
use Rattle.st_commands.specs.declared.outcomes.Outcome.TheVariants.{Done, Damaged}
use Rattle.st_commands.specs.declared.outcomes.Report.{Report}
use Rattle.st_commands.specs.declared.outcomes.Report.TheVariants.{Verdicts}

-- if a check ended `Done`, each pair is whole
abbrev pub DoneIsWhole : Type 0
DoneIsWhole =
    (pairs : List Entry) (old new : Option (List ℕ)) → Reports Verdicts pairs old new Done
    → All (λ e. IsWholePair e.block e.index) pairs

-- if a command ended `Damaged`, the pair that it names is there and isn't whole
abbrev pub DamagedIsHurt : Type 0
DamagedIsHurt =
    (report : Report) (pairs : List Entry) (old new : Option (List ℕ)) (stamp : ℕ) (d : Damage)
    → Reports report pairs old new (Damaged stamp d)
    → (e : Entry) × Contains pairs e × (e.stamp ≡ stamp) × (IsWholePair e.block e.index → ⊥)
