-- What comes back to its shelf: a draft, sealed or not, or a lent file.
use Rattle.std.specs.Prelude.{◌≤◌, ◌<◌, ℕ}
use Rattle.st_base.specs.Faults.{Rose}
use Rattle.st_shelf.specs.declared.shelves.End.{End}
use Rattle.st_shelf.specs.declared.shelves.End.TheVariants.{Unsealed, Sealed}
use Rattle.st_shelf.specs.Origins.{DraftOrigin}

-- the origin of a draft that comes back
abbrev pub end_origin :
    {T S : Type 0} → (T → DraftOrigin) → (S → DraftOrigin) → End T S → DraftOrigin
end_origin origin sealed_origin (Unsealed draft) = origin draft
end_origin origin sealed_origin (Sealed sealed) = sealed_origin sealed

-- its count of faults
abbrev pub end_faults : {T S : Type 0} → (T → ℕ) → (S → ℕ) → End T S → ℕ
end_faults faults sealed_faults (Unsealed draft) = faults draft
end_faults faults sealed_faults (Sealed sealed) = sealed_faults sealed

-- the shelf's count never falls, and it rose where that of what came back had risen
pub record TakesFaults (own before now : ℕ) : Type 0 where
  pub later : before ≤ now
  pub own_rose : 0 < own → Rose before now
