-- A law of spools as stores: what a hold took was seen.
use Rattle.std.specs.Prelude.{ℕ, List, [], ◌++◌, take, drop, Option, None, Some, option_map}
use Rattle.std.proofs.Common.{sym, ap, ◌∙◌, subst, take-append-drop}
use Rattle.st_disk.specs.Events.{Event}
use Rattle.st_answer.specs.Sets.{GoesOn}

-- no history is known
abbrev IsUnknown : Option (List Event) → Type 0
IsUnknown None = Unit {0}
IsUnknown (Some events) = ⊥

-- the events of a history, none if it is not known
abbrev events_in : Option (List Event) → List Event
events_in None = []
events_in (Some events) = events

-- the first of some events are a prefix of them
pub taken_first : (n : ℕ) (seen : Option (List Event)) → GoesOn (option_map (take n) seen) seen
taken_first n None events is = absurd (subst IsUnknown is tt)
taken_first n (Some h) events is =
    (drop n h, ap Some (sym (take-append-drop n h) ∙ ap (λ z. z ++ drop n h) (ap events_in is)))
