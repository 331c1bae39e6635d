-- Reading at a place of a file whose bytes never change.
use Rattle.std.specs.Prelude.{Option, Bool, ◌≡◌, ◌↔◌, ℕ, ◌-◌, min, List, length, take, drop, Some, IsTrue, IsErr, Result, IfOk}

-- if the content is known, this part of it is at this place
abbrev pub HasPart : Option (List ℕ) → ℕ → List ℕ → Type 0
HasPart content place part =
    (bytes : List ℕ) → content ≡ Some bytes → part ≡ take (length part) (drop place bytes)

-- a read fills as much of `out` as the file has from this place on, with the bytes that are there
abbrev pub ReadsAt : {E : Type 0} → Option (List ℕ) → ℕ → ℕ → Result ℕ E → List ℕ → Type 0
ReadsAt content size place result out =
    IfOk result (λ n. (n ≡ min (length out) (size - place)) × HasPart content place (take n out))

-- if it is known which reads fail, this one fails if and only if it is one of them
abbrev pub FailsAsKnown : {T E : Type 0} → Option (ℕ → ℕ → Bool) → ℕ → ℕ → Result T E → Type 0
FailsAsKnown known place n result =
    (fails : ℕ → ℕ → Bool) → known ≡ Some fails → IsErr result ↔ IsTrue (fails place n)

-- a file keeps its content, its length and what else of it there is
pub record IsSameFile {B : Type 0} (content_before content_now : Option (List ℕ))
    (extent_before extent_now : ℕ) (beside_before beside_now : B) : Type 0 where
  pub content : content_now ≡ content_before
  pub extent : extent_now ≡ extent_before
  pub beside : beside_now ≡ beside_before
