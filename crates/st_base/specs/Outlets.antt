-- What an outlet has after pieces were given to it, and after a piece that failed.
use Rattle.std.specs.Prelude.{Option, ◌≡◌, ℕ, List, ◌++◌, Some, Ok, Err, Result}
use Rattle.std.specs.List.{fold}

-- the first bytes are a prefix of the second
abbrev pub IsPrefix : List ℕ → List ℕ → Type 0
IsPrefix xs ys = (more : List ℕ) × (ys ≡ xs ++ more)

-- a known state went on by all of these pieces, in their order
abbrev pub SentAll : {S : Type 0} → (S → List ℕ → S) → Option S → Option S → List (List ℕ) → Type 0
SentAll {S} after old new pieces = (s : S) → old ≡ Some s → new ≡ Some (fold after s pieces)

-- from a known state no more went out than these pieces would send, and nothing was taken back
abbrev pub SentPart :
    {S : Type 0} → (S → List ℕ → S) → (S → List ℕ) → Option S → Option S → List (List ℕ) → Type 0
SentPart {S} after gone old new pieces =
    (s : S) → old ≡ Some s
    → (t : S) × (new ≡ Some t) × IsPrefix (gone s) (gone t)
    × IsPrefix (gone t) (gone (fold after s pieces))

-- all of these pieces were sent, or after a failure a prefix of what they send
abbrev pub Sends :
    {S T E : Type 0} → (S → List ℕ → S) → (S → List ℕ) → Option S → Option S → List (List ℕ)
    → Result T E → Type 0
Sends after gone old new pieces (Ok u) = SentAll after old new pieces
Sends after gone old new pieces (Err e) = SentPart after gone old new pieces
