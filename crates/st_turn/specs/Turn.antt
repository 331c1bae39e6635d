-- Turns over one value that threads share: the value is at home while the word is 0, and else it is
-- out with one caller.
use Rattle.std.specs.Prelude.{◌≡◌, ◌≢◌, ◌⊎◌, ℕ, List, [], ◌∷◌, map, Option, Some, None}
use mathlib.Core.Option.{some, none}
use lib.ListN.{get_elem?}
use Rattle.atomic_table.specs.Table.{State, Me, Step}

-- what a caller knows: the value as it was taken, while this caller has the turn, and its pass
pub record Caller (X P : Type 0) : Type 0 where
  pub taken : Option X
  pub pass : P

-- a caller without the turn
abbrev pub idle : {X P : Type 0} → P → Caller X P
idle p = record { taken = None; pass = p }

-- a caller that has the turn, and took this value
abbrev pub turning : {X P : Type 0} → X → P → Caller X P
turning x p = record { taken = Some x; pass = p }

-- the pass of a caller
abbrev pub pass_of : {X P : Type 0} → Caller X P → P
pass_of d = d.pass

-- a caller with another pass
abbrev pub with_pass : {X P : Type 0} → (P → P) → Caller X P → Caller X P
with_pass f d = record { taken = d.taken; pass = f d.pass }

-- a caller and the slot, if it has the slot
abbrev pub SeatState : Type 0 → Type 0 → Type 0
SeatState X P = Me (Option X) (Caller X P)

module _ {X P : Type 0} where
  -- the value is at home, and nobody has the turn
  pub record Free (s : State (Option X) (Caller X P)) (x : X) : Type 0 where
    pub words : s.words ≡ 0 ∷ []
    pub homes : s.homes ≡ some (Some x) ∷ []
    pub none_turns : (i : ℕ) (d : Caller X P) → get_elem? s.views i ≡ some d → d.taken ≡ None

  -- one caller has the turn, by a pass that may have it, and names the value as taken
  pub record Busy (able : P → Type 0) (s : State (Option X) (Caller X P)) (x : X) : Type 0 where
    pub words : s.words ≡ 1 ∷ []
    pub homes : s.homes ≡ none ∷ []
    pub by : ℕ
    pub pass : P
    pub turns : get_elem? s.views by ≡ some (turning x pass)
    pub is_able : able pass
    pub others : (i : ℕ) (d : Caller X P) → get_elem? s.views i ≡ some d → i ≢ by
        → d.taken ≡ None

  -- the rule of turns: of the value, at home or as taken, and of the passes all parts hold
  pub record Turning (able : P → Type 0) (parts : X → List P → Type 0)
      (s : State (Option X) (Caller X P)) : Type 0 where
    pub now : X
    pub turn : Free s now ⊎ Busy able s now
    pub kept : parts now (map pass_of s.views)

  -- a try for the turn: a caller that finds 0 has it, and learns something of the value
  pub record Takes (tells : X → P → Type 0) (s : Step (Option X)) (me : SeatState X P) (found : ℕ)
      (after : SeatState X P) : Type 0 where
    pub hit : found ≡ 0 → (x : X) × (after ≡ (turning x me.0.pass, (0, Some x) ∷ []))
        × tells x me.0.pass
    pub miss : found ≢ 0 → after ≡ me

  -- the turn is over: the value was put back, and the pass is another one
  pub record Gives (moves : X → X → P → P → Type 0) (s : Step (Option X)) (me : SeatState X P)
      (found : ℕ) (after : SeatState X P) : Type 0 where
    pub gives : (x y : X) → me.0.taken ≡ Some x → me.1 ≡ (0, Some y) ∷ []
        → (after ≡ (idle after.0.pass, [])) × moves x y me.0.pass after.0.pass

  -- a look, which tells something of a pass
  pub record Looks (tells : P → Type 0) (s : Step (Option X)) (me : SeatState X P) (found : ℕ)
      (after : SeatState X P) : Type 0 where
    pub same : after ≡ me
    pub told : tells me.0.pass
