-- Bytes that are known if there are a certain number of them, as those of a file are whose size was
-- said beforehand.
use Rattle.std.specs.Prelude.{Option, Bool, true, false, ◌≡◌, ◌==◌, ℕ, List, length, Some, None, cond, refl}
use Rattle.std.proofs.Common.{subst, eqb-true}

-- the known bytes, if there are this many
abbrev pub of_length : ℕ → Option (List ℕ) → Option (List ℕ)
of_length n None = None
of_length n (Some bytes) = cond (length bytes == n) (Some bytes) None

-- known bytes are this many
abbrev HasLength : ℕ → Option (List ℕ) → Type 0
HasLength n None = Unit {0}
HasLength n (Some bytes) = length bytes ≡ n

-- what the test decides
decided :
    (n : ℕ) (xs bytes : List ℕ) (b : Bool) → (length xs == n) ≡ b
    → cond b (Some xs) None ≡ Some bytes → (length bytes ≡ n) × (Some xs ≡ Some bytes)
decided n xs bytes true e h = (subst (HasLength n) h (eqb-true (length xs) n e), h)
decided n xs bytes false e h = cc

-- bytes that are known so are this many, and they are those that are known
of_length_known :
    (n : ℕ) (known : Option (List ℕ)) (bytes : List ℕ) → of_length n known ≡ Some bytes
    → (length bytes ≡ n) × (known ≡ Some bytes)
of_length_known n None bytes h = cc
of_length_known n (Some xs) bytes h = decided n xs bytes (length xs == n) refl h

-- bytes that are known so are this many
pub sized_of_length :
    (n : ℕ) (known : Option (List ℕ)) (bytes : List ℕ) → of_length n known ≡ Some bytes
    → length bytes ≡ n
sized_of_length n known bytes h = (of_length_known n known bytes h).0
