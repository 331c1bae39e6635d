-- What every turn makes of a pass, by the spool as it was found and as it was left.
use Rattle.std.specs.Prelude.{◌≡◌, ◌<◌, ◌≤◌, ◌⊎◌, ℕ, List, [], ◌∷◌, ◌++◌, length, Bool, true, cond, nat_lt}
use Rattle.std.specs.List.{remove, slice_index_or}
use Rattle.st_base.specs.Faults.{next_count}
use Rattle.st_turn.specs.declared.book.Line.{Line}
use Rattle.st_turn.specs.Parts.{Facts, PassState, IsPrefix}
use Rattle.st_turn.specs.Steps.{failed_after}

-- whether a list grew
abbrev pub has_more : {A : Type 0} → List A → List A → Bool
has_more xs ys = nat_lt (length xs) (length ys)

-- the places of a pass's own events, with that of an event which it added
abbrev pub own_after : {E : Type 0} → List E → List E → List ℕ → List ℕ
own_after before now own = cond (has_more before now) (own ++ length before ∷ []) own

-- a history stays, or has one event more
abbrev pub HistoryAfter : {E : Type 0} → List E → List E → Type 0
HistoryAfter {E} before now = (now ≡ before) ⊎ ((e : E) × (now ≡ before ++ e ∷ []))

-- the second list is the first without one member, which is this one
abbrev pub Without : {H : Type 0} → H → List H → List H → Type 0
Without {H} h old new =
    (k : ℕ) × (k < length old) × (slice_index_or old k h ≡ h) × (new ≡ remove old k)

-- the holds of a pass change as those of the spool: not at all, by one more, or by one less
abbrev pub HeldAfter : {H : Type 0} → List H → List H → List H → List H → Type 0
HeldAfter {H} before now held next =
    ((now ≡ before) × (next ≡ held))
    ⊎ (((h : H) × (now ≡ before ++ h ∷ []) × (next ≡ held ++ h ∷ []))
    ⊎ ((h : H) × Without h before now × Without h held next))

module _ {S E H : Type 0} where
  -- A turn, in which a call took the spool from v to w, and the pass went from p to q. What the
  -- pass had seen begins the history at home. The call left that history or added one event to it,
  -- which is the pass's own, and the pass has seen then the history that the call left. Its counts
  -- rose where the shelf's count rose and where the call failed. Its holds changed by this call's
  -- hold; if that was taken, it took the history at home.
  pub record IsTurn (facts : S → Facts E H) (v w : S) (p q : PassState S E H) : Type 0 where
    pub before : IsPrefix p.card.seen (facts v).history
    pub history : HistoryAfter (facts v).history (facts w).history
    pub after : q.card.seen ≡ (facts w).history
    pub own : q.card.own ≡ own_after (facts v).history (facts w).history p.card.own
    -- the counts
    pub failed : q.card.failed ≡ failed_after (facts v).faults (facts w).faults p.card.failed
    pub stops : (((facts w).halts ≡ (facts v).halts) × (q.card.stops ≡ p.card.stops))
        ⊎ (((facts w).halts ≡ next_count (facts v).halts)
        × (q.card.stops ≡ next_count p.card.stops) × ((facts v).halts < (facts w).halts))
    pub halts : (p.card.halts ≤ (facts v).halts) × (q.card.halts ≡ (facts w).halts)
    -- the holds
    pub held : HeldAfter (facts v).holds (facts w).holds p.held q.held
    pub asks : q.asks ≡ cond (has_more (facts v).holds (facts w).holds) (next_count p.asks) p.asks
    pub asked : q.asked ≡ cond (has_more (facts v).holds (facts w).holds) (facts v).history p.asked
    pub rest : (q.card.number ≡ p.card.number) × (q.base ≡ p.base) × (q.passes ≡ p.passes)
        × (q.made ≡ p.made)

  -- A call that may be made in a turn, which took the spool from v to w, and the holds of the pass
  -- from `held` to `next`. The history stays or has one event more, and the holds of the spool and
  -- of the pass change alike, by at most one. If the call stopped the spool, the shelf's count
  -- rose, and so did the count of the publications and ageings that failed.
  pub record MayTurn (facts : S → Facts E H) (Keeps : S → S → Type 0) (v w : S)
      (held next : List H) (stopped : Bool) : Type 0 where
    pub history : HistoryAfter (facts v).history (facts w).history
    pub holds : HeldAfter (facts v).holds (facts w).holds held next
    pub later : (facts v).faults ≤ (facts w).faults
    pub halts : (facts w).halts ≡ cond stopped (next_count (facts v).halts) (facts v).halts
    pub rose : stopped ≡ true → next_count (facts v).faults ≤ (facts w).faults
    pub one : stopped ≡ true → (facts v).halts < (facts w).halts
    pub keeps : (b : S) → Keeps b v → Keeps b w

-- a line of the book after a turn
abbrev pub line_after : Line → Bool → Bool → Line
line_after l rose stopped = record {
  failed = cond rose (next_count l.failed) l.failed;
  stops = cond stopped (next_count l.stops) l.stops;
}
