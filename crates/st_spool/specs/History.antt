-- A spool's history: which pairs were found, published and removed, and which are there after it.
use Rattle.std.specs.Prelude.{◌≡◌, ℕ, ◌<◌, List, [], ◌∷◌, ◌++◌, length, cond, nat_eq}
use Rattle.st_disk.specs.Pairs.{Entry, IsFileSet}
use Rattle.st_disk.specs.Events.{Event, Found, Publish, Remove}

-- a file set without the pair of this stamp
abbrev pub without : ℕ → List Entry → List Entry
without s [] = []
without s (e ∷ es) = cond (nat_eq e.stamp s) (without s es) (e ∷ without s es)

-- the file set after some events, of which the first finds this one
abbrev pub set_after : List Entry → List Event → List Entry
set_after set [] = set
set_after set (Found es ∷ h) = set_after es h
set_after set (Publish e ∷ h) = set_after (set ++ e ∷ []) h
set_after set (Remove s ∷ h) = set_after (without s set) h

-- the file set of a history
abbrev pub set_of : List Event → List Entry
set_of h = set_after [] h

-- the entries that were found or published after some events, of which the first finds these
abbrev pub entries_after : List Entry → List Event → List Entry
entries_after all [] = all
entries_after all (Found es ∷ h) = entries_after es h
entries_after all (Publish e ∷ h) = entries_after (all ++ e ∷ []) h
entries_after all (Remove s ∷ h) = entries_after all h

-- all entries that a history found or published, also those that were removed
abbrev pub entries_of : List Event → List Entry
entries_of h = entries_after [] h

-- the least stamp of a file set is this one
abbrev pub IsLeast : ℕ → List Entry → Type 0
IsLeast s [] = ⊥
IsLeast s (e ∷ es) = e.stamp ≡ s

-- Events that may come after these entries and this file set, in a spool of this limit: a stamp
-- that is published is above all stamps before it, and a removal takes the least stamp of a set of
-- more pairs than the limit. Pairs are found only at the beginning.
abbrev pub MayFollow : ℕ → List Entry → List Entry → List Event → Type 0
MayFollow limit all set [] = Unit {0}
MayFollow limit all set (Found es ∷ h) = ⊥
MayFollow limit all set (Publish e ∷ h) =
    IsFileSet (all ++ e ∷ []) × MayFollow limit (all ++ e ∷ []) (set ++ e ∷ []) h
MayFollow limit all set (Remove s ∷ h) =
    (limit < length set) × IsLeast s set × MayFollow limit all (without s set) h

-- a history: what was found, and then publications and removals
abbrev pub Legal : ℕ → List Event → Type 0
Legal limit [] = ⊥
Legal limit (Found es ∷ h) = IsFileSet es × MayFollow limit es es h
Legal limit (Publish e ∷ h) = ⊥
Legal limit (Remove s ∷ h) = ⊥
