-- Laws of what `check` answers, which the functions of `laws` ensure.
use Rattle.std.specs.Prelude.{◌≡◌, ℕ, List}
use Rattle.st_base.specs.Damages.{DamageView, damage_view}
use Rattle.st_block.specs.Scan.{PositionedRecord}
use Rattle.st_rows.specs.Whole.{IsWhole}
use Rattle.st_index.specs.Verdict.{Fails, Judges}
use Rattle.st_index.specs.declared.checker.Part.{Part}
use Rattle.st_index.specs.declared.checker.Verdict.{Verdict}
use Rattle.st_index.specs.declared.checker.Verdict.TheVariants.{Whole, Differs}

-- no check of a whole pair fails
abbrev pub WholeUnhurt : Type 0
WholeUnhurt =
    (block index : List ℕ) (given : List PositionedRecord) (p : Part) (d : DamageView)
    → IsWhole block index given → Fails block index p d → ⊥

-- one check of a pair is the first that fails
abbrev pub OneFailure : Type 0
OneFailure =
    (block index : List ℕ) (p q : Part) (d e : DamageView)
    → Fails block index p d → Fails block index q e → (p ≡ q) × (d ≡ e)

-- these verdicts say the same
abbrev pub IsSameVerdict : Verdict → Verdict → Type 0
IsSameVerdict (Whole n) (Whole m) = n ≡ m
IsSameVerdict (Whole n) (Differs q e) = ⊥
IsSameVerdict (Differs p d) (Whole m) = ⊥
IsSameVerdict (Differs p d) (Differs q e) = (p ≡ q) × (damage_view d ≡ damage_view e)

-- a pair has one verdict
abbrev pub OneVerdict : Type 0
OneVerdict =
    (block index : List ℕ) (v w : Verdict)
    → Judges block index v → Judges block index w → IsSameVerdict v w
