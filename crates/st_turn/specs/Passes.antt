-- How contracts see a pass and a shared spool, and what `share` and `meet` make of passes.
use Rattle.std.specs.Prelude.{◌≡◌, ◌+◌, ℕ, List, [], ◌∷◌, Some}
use Rattle.atomic_table.specs.Seated.{TableId}
use Rattle.st_disk.specs.Events.{Event}
use Rattle.st_shelf.specs.Loans.{LoansView, no_loans}
use Rattle.st_spool.specs.declared.state.Span.{Span}
use Rattle.st_turn.specs.Parts.{Facts, PassState, IsPrefix}
use Rattle.st_turn.specs.Steps.{starts, longer}

-- a pass: the table of its spool, which caller of it this is, what it knows, and what it counts of
-- the files that were lent to it and came back by it
pub record PassView (S : Type 0) : Type 0 where
  pub table : TableId
  pub id : ℕ
  pub state : PassState S Event Span
  pub loans : LoansView

-- a shared spool: its table, the spool as it was shared, and the number of passes
pub record SharedView (S : Type 0) : Type 0 where
  pub table : TableId
  pub base : S
  pub passes : ℕ

module _ {S : Type 0} where
  -- what a pass saw and did
  abbrev pub state_of : PassView S → PassState S Event Span
  state_of p = p.state

  -- a pass is one of this shared spool
  abbrev pub IsOf : SharedView S → PassView S → Type 0
  IsOf s p = (p.table ≡ s.table) × (p.state.base ≡ Some s.base)

  -- the second is the first pass, later: a caller of the same table, spool and number
  abbrev pub IsSame : PassView S → PassView S → Type 0
  IsSame p q =
      (q.table ≡ p.table) × (q.id ≡ p.id) × (q.state.base ≡ p.state.base)
      × (q.state.card.number ≡ p.state.card.number)

  -- no file was lent to this pass yet
  abbrev pub HasNoLoans : PassView S → Type 0
  HasNoLoans p = p.loans ≡ no_loans

  -- passes of this table as they start, with the numbers from this one on, in order
  abbrev pub AreOthers : TableId → S → Facts Event Span → ℕ → ℕ → List (PassView S) → Type 0
  AreOthers table base h n i [] = Unit {0}
  AreOthers table base h n i (p ∷ ps) =
      (p.table ≡ table) × (p.state ≡ starts base h i n 0) × AreOthers table base h n (i + 1) ps

  -- the passes of a shared spool so far: the first one knows how many have a number
  abbrev pub AreStarted : TableId → S → Facts Event Span → ℕ → ℕ → List (PassView S) → Type 0
  AreStarted table base h n made [] = ⊥
  AreStarted table base h n made (p ∷ ps) =
      (p.table ≡ table) × (p.state ≡ starts base h 0 n made) × AreOthers table base h n 1 ps

  -- The pass p met the pass o, and is q after it: what it saw is the longer of the two histories,
  -- which begins with both, and but for that and its notes it is the same.
  pub record Met (p o q : PassView S) : Type 0 where
    pub table : q.table ≡ p.table
    pub id : q.id ≡ p.id
    pub seen : q.state.card.seen ≡ longer p.state.card.seen o.state.card.seen
    pub own : IsPrefix p.state.card.seen q.state.card.seen
    pub its : IsPrefix o.state.card.seen q.state.card.seen
    pub same : (q.state.card ≡ record p.state.card { seen = q.state.card.seen })
        × (q.state.base ≡ p.state.base) × (q.state.passes ≡ p.state.passes)
        × (q.state.made ≡ p.state.made) × (q.state.held ≡ p.state.held)
        × (q.state.asks ≡ p.state.asks) × (q.state.asked ≡ p.state.asked)
    pub loans : q.loans ≡ p.loans

  -- these passes are those of one table
  abbrev pub AreOf : TableId → List (PassView S) → Type 0
  AreOf table [] = Unit {0}
  AreOf table (p ∷ ps) = (p.table ≡ table) × AreOf table ps
