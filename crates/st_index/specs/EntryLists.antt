-- The lists that have positions, of lists by number or by key.
use Rattle.std.specs.Prelude.{◌≡◌, ℕ, ◌+◌, List, [], ◌∷◌, Vec, Option, None, Some}
use Rattle.std.specs.Global.{Global}
use Rattle.st_walk.specs.declared.text.Key.{Key}

-- a key and its positions
abbrev pub KeyList : Type 0
KeyList = Key × List ℕ

-- a key's list before others, left out where it is empty
abbrev pub list_before : Key → List ℕ → List KeyList → List KeyList
list_before k [] rest = rest
list_before k (p ∷ ps) rest = (k, p ∷ ps) ∷ rest

-- those of lists by number, the first of which has this one
abbrev pub lists_of_numbers : (ℕ → Key) → ℕ → List (Vec ℕ Global) → List KeyList
lists_of_numbers key n [] = []
lists_of_numbers key n (v ∷ vs) = list_before (key n) v.items (lists_of_numbers key (n + 1) vs)

-- those of the entries of a map whose values have these lists
abbrev pub lists_of_values : {N X : Type 0} → (X → List ℕ) → (N → Key) → List (N × X) → List KeyList
lists_of_values list key [] = []
lists_of_values list key (e ∷ es) =
    list_before (key e.0) (list e.1) (lists_of_values list key es)

-- those of the entries of a map of lists
abbrev pub lists_of_entries : {N : Type 0} → (N → Key) → List (N × Vec ℕ Global) → List KeyList
lists_of_entries key es = lists_of_values (λ v. v.items) key es

-- of the lists to come the first was given, or there is none
abbrev pub GivesList : List KeyList → List KeyList → Option KeyList → Type 0
GivesList left more None = (left ≡ []) × (more ≡ [])
GivesList left more (Some x) = left ≡ x ∷ more
