-- Items that are stored one behind another.
use Rattle.std.proofs.Common.{◌≡◌, ℕ, ◌+◌, ◌<◌, List, [], ◌∷◌, ◌++◌, length, take, set, sym, append_assoc, append-nil}
use Rattle.std.proofs.lemmas.List.{take_more_set}

-- the item that was left first is now the last that is stored
pub gathered : {A : Type 0} (room left rest : List A) (n : ℕ) (x : A) → n < length room → left ≡ x ∷ rest → take n room ++ left ≡ take (n + 1) (set room n x) ++ rest
gathered room left rest n x h e = rw (e, take_more_set room n x h) (sym (append_assoc (take n room) (x ∷ []) rest))

pub all_gathered : {A : Type 0} (room left : List A) (n : ℕ) → left ≡ [] → take n room ++ left ≡ take n room
all_gathered room left n e = rw e (append-nil (take n room))
