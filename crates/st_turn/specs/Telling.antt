-- What a caller learns of the spool and of its pass: as it takes the turn, and as it looks.
use Rattle.std.specs.Prelude.{◌≡◌, ◌<◌, ◌≤◌, ◌^◌, ℕ, List, length, Some}
use Rattle.st_turn.specs.Parts.{Facts, Booked, PassState, total, IsPrefix, Each, IsPass}

module _ {S E H : Type 0} where
  -- of the spool and its book as they were taken, and of the pass that took them
  pub record Learns (facts : S → Facts E H) (Keeps : S → S → Type 0) (x : Booked S)
      (p : PassState S E H) : Type 0 where
    pub start : S
    pub base : p.base ≡ Some start
    pub keeps : Keeps start x.spool
    pub own : IsPass start (facts x.spool) x.lines p
    pub within : (n : ℕ) → p.card.number ≡ Some n → n < length x.lines
    pub held : (f : H → ℕ) → total f p.held ≤ total f (facts x.spool).holds
    pub fits : (facts x.spool).halts < 2 ^ 64

  -- what a pass and its notes saw begins one history
  pub record Saw (p : PassState S E H) : Type 0 where
    pub history : List E
    pub seen : IsPrefix p.card.seen history
    pub notes : Each (λ c. IsPrefix c.seen history) p.notes
