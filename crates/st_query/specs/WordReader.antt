-- What the calls of the module `word_reader` ensure.
use Rattle.std.specs.Prelude.{ℕ, Option, List, MatchOption}
use Rattle.st_query.specs.declared.addrs.Addr.{Addr}
use Rattle.st_query.specs.Words.{IsNumber, IsAddress, IsNet}

-- the number that the word spells, or none if it spells none
abbrev pub ReadsNumber : ℕ → List ℕ → Option ℕ → Type 0
ReadsNumber most word r =
    MatchOption r ((n : ℕ) → IsNumber most word n → ⊥) (λ n. IsNumber most word n)

-- the address that the word spells, or none if it spells none
abbrev pub ReadsAddress : List ℕ → Option Addr → Type 0
ReadsAddress word r = MatchOption r ((a : Addr) → IsAddress word a → ⊥) (λ a. IsAddress word a)

-- the address and the bits of the net that the word spells, or none if it spells none
abbrev pub ReadsNet : List ℕ → Option (Addr × ℕ) → Type 0
ReadsNet word r =
    MatchOption r ((a : Addr) (n : ℕ) → IsNet word a n → ⊥) (λ (x : Addr × ℕ). IsNet word x.0 x.1)
