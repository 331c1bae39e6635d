-- A file that a spool lends.
use Rattle.std.specs.Prelude.{◌≡◌, ℕ, Result, Ok, Err}
use Rattle.st_disk.specs.declared.naming.Kind.{Kind}
use Rattle.st_shelf.specs.Origins.{FileOrigin}
use Rattle.st_shelf.specs.Loans.{LoansView, lend}

-- At Ok a file of this kind and of this shelf was lent, which has read nothing yet and has no
-- fault, and the shelf counts it. After an error the shelf lends what it lent before.
abbrev pub IsLent :
    {F E : Type 0} → Kind → (F → FileOrigin) → (F → ℕ) → (F → ℕ) → (F → ℕ) → ℕ → LoansView
    → LoansView → Result F E → Type 0
IsLent {F} {E} kind origin reads asked faults home old new (Ok file) =
    ((origin file).kind ≡ kind) × ((origin file).home ≡ home) × (reads file ≡ 0) × (asked file ≡ 0)
    × (faults file ≡ 0) × (new ≡ lend old)
IsLent {F} {E} kind origin reads asked faults home old new (Err e) = new ≡ old
