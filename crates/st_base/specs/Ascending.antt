-- A list in the order of a relation.
use Rattle.std.specs.Prelude.{⊤, List, [], ◌∷◌, All}

-- each member of the list comes, by R, before all that follow it
abbrev pub IsAscending : {A : Type 0} → (A → A → Type 0) → List A → Type 0
IsAscending R [] = ⊤
IsAscending R (x ∷ xs) = All (R x) xs × IsAscending R xs
