-- What a step makes of a pass: a turn, a number that is given out, a pass cut in two, and two
-- passes joined into one.
use Rattle.std.specs.Prelude.{◌≡◌, ◌≤◌, ◌+◌, ◌⊎◌, ℕ, List, [], ◌∷◌, ◌++◌, length, set, None, Some, Bool, cond, nat_le, nat_lt}
use Rattle.st_base.specs.Faults.{next_count}
use Rattle.st_turn.specs.Parts.{Facts, Booked, Card, PassState, total}

-- whether a count rose, or is the greatest number of a u64
abbrev pub has_risen : ℕ → ℕ → Bool
has_risen before now = nat_le (next_count before) now

-- a count of the turns in which another count rose
abbrev pub failed_after : ℕ → ℕ → ℕ → ℕ
failed_after before now failed = cond (has_risen before now) (next_count failed) failed

-- the card of one who saw a history and did nothing
abbrev pub seen_only : {E : Type 0} → List E → Card E
seen_only seen =
    record { number = None; seen = seen; own = []; failed = 0; stops = 0; halts = 0 }

-- the longer of two histories
abbrev pub longer : {E : Type 0} → List E → List E → List E
longer xs ys = cond (nat_lt (length xs) (length ys)) ys xs

module _ {S E H : Type 0} where
  -- a pass without a number, which saw a history
  abbrev pub visitor : List E → PassState S E H
  visitor seen = record {
    card = seen_only seen;
    base = None;
    passes = 0;
    made = 0;
    held = [];
    asks = 0;
    asked = [];
    notes = [];
  }

  -- a pass as it starts, with its number, the number of passes and, for the pass with number 0, how
  -- many numbers are given out
  abbrev pub starts : S → Facts E H → ℕ → ℕ → ℕ → PassState S E H
  starts base h number passes made = record {
    card = record {
      number = Some number;
      seen = h.history;
      own = [];
      failed = 0;
      stops = 0;
      halts = h.halts;
    };
    base = Some base;
    passes = passes;
    made = made;
    held = [];
    asks = 0;
    asked = h.history;
    notes = [];
  }

  -- the pass with number 0, after it gave out the next number
  abbrev pub gave_out : PassState S E H → PassState S E H
  gave_out p = record p { made = p.made + 1 }

  -- the pass that has that number
  abbrev pub next_pass : PassState S E H → PassState S E H
  next_pass p = record {
    card = record {
      number = Some p.made;
      seen = p.card.seen;
      own = [];
      failed = 0;
      stops = 0;
      halts = p.card.halts;
    };
    base = p.base;
    passes = p.passes;
    made = 0;
    held = [];
    asks = 0;
    asked = p.card.seen;
    notes = [];
  }

  -- a pass into which another one was joined: it saw the longer of the two histories, and has notes
  -- of what it saw before and of the other's card and notes
  abbrev pub joined : PassState S E H → PassState S E H → PassState S E H
  joined p o = record {
    card = record p.card { seen = longer p.card.seen o.card.seen };
    base = p.base;
    passes = p.passes;
    made = p.made;
    held = p.held ++ o.held;
    asks = p.asks;
    asked = p.asked;
    notes = seen_only p.card.seen ∷ (o.card ∷ (p.notes ++ o.notes));
  }

  module _ (facts : S → Facts E H) (Keeps : S → S → Type 0) where
    -- A turn, which takes the spool with its book from x to y, and its pass from p to q.
    pub record Moves (x y : Booked S) (p q : PassState S E H) : Type 0 where
      -- the one history, with what the turn added, is what the pass saw last
      pub more : List E
      pub history : (facts y.spool).history ≡ (facts x.spool).history ++ more
      pub seen : q.card.seen ≡ (facts y.spool).history
      pub own : (q.card.own ≡ p.card.own) ⊎ ((1 ≤ length more)
          × (q.card.own ≡ p.card.own ++ length (facts x.spool).history ∷ []))
      -- holds: those of the pass and of the spool change alike
      pub held : (f : H → ℕ) → total f q.held + total f (facts x.spool).holds
          ≡ total f p.held + total f (facts y.spool).holds
      pub asked : (q.asked ≡ p.asked) ⊎ (q.asked ≡ (facts x.spool).history)
      -- counts, and the pass's line of the book, which alone changes
      pub later : (facts x.spool).faults ≤ (facts y.spool).faults
      pub failed : q.card.failed
          ≡ failed_after (facts x.spool).faults (facts y.spool).faults p.card.failed
      pub stops : (((facts y.spool).halts ≡ (facts x.spool).halts)
          × (q.card.stops ≡ p.card.stops))
          ⊎ (((facts y.spool).halts ≡ next_count (facts x.spool).halts)
          × (q.card.stops ≡ next_count p.card.stops)
          × (q.card.failed ≡ next_count p.card.failed))
      pub halts : q.card.halts ≡ (facts y.spool).halts
      pub number : ℕ
      pub is_number : p.card.number ≡ Some number
      pub lines : y.lines
          ≡ set x.lines number (record { failed = q.card.failed; stops = q.card.stops })
      -- the rest stays
      pub base : q.base ≡ p.base
      pub same : (q.card.number ≡ p.card.number) × (q.passes ≡ p.passes) × (q.made ≡ p.made)
          × (q.notes ≡ p.notes)
      pub keeps : (b : S) → Keeps b x.spool → Keeps b y.spool
