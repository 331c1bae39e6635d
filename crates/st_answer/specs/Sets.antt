-- File sets in a list, whose order doesn't count, and events that more events follow.
use Rattle.std.specs.Prelude.{◌≡◌, List, ◌∷◌, ◌++◌, Bool, Option, Some, count_by}
use Rattle.st_disk.specs.Pairs.{Entry}
use Rattle.st_disk.specs.Events.{Event}

-- the same sets, each as often
abbrev pub AreSame : List (List Entry) → List (List Entry) → Type 0
AreSame xs ys = (test : List Entry → Bool) → count_by test ys ≡ count_by test xs

-- if the sets before are known, those after are, and are the same
abbrev pub KeepsSets : Option (List (List Entry)) → Option (List (List Entry)) → Type 0
KeepsSets before after =
    (sets : List (List Entry)) → before ≡ Some sets
    → (now : List (List Entry)) × (after ≡ Some now) × AreSame sets now

-- if the sets before are known, this one is, and those after are they and this one
abbrev pub AddsSet :
    Option (List Entry) → Option (List (List Entry)) → Option (List (List Entry)) → Type 0
AddsSet set before after =
    (sets : List (List Entry)) → before ≡ Some sets
    → (one : List Entry) × (now : List (List Entry)) × (set ≡ Some one) × (after ≡ Some now)
    × AreSame (one ∷ sets) now

-- if the sets before and this one are known, those after are they without this one
abbrev pub DropsSet :
    Option (List Entry) → Option (List (List Entry)) → Option (List (List Entry)) → Type 0
DropsSet set before after =
    (sets : List (List Entry)) (one : List Entry) → before ≡ Some sets → set ≡ Some one
    → (now : List (List Entry)) × (after ≡ Some now) × AreSame (one ∷ now) sets

-- if the first events are known, the others are, and begin with them
abbrev pub GoesOn : Option (List Event) → Option (List Event) → Type 0
GoesOn before after =
    (events : List Event) → before ≡ Some events
    → (more : List Event) × (after ≡ Some (events ++ more))
