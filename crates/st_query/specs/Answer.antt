-- The answer to a query over a list of records: the records that match, by time, and those of one
-- time in the list's order.
use Rattle.std.specs.Prelude.{◌≡◌, ◌<◌, ◌⊎◌, ◌↔◌, ℕ, List, map, slice_get, Some, Contains}
use Rattle.st_base.specs.Ascending.{IsAscending}
use Rattle.st_base.specs.Records.{Rec}
use Rattle.st_query.specs.declared.nodes.Node.{Node}
use Rattle.st_query.specs.Meaning.{Matches}

-- a record of a list, with its number there, counted from 0
pub record Numbered : Type 0 where
  pub number : ℕ
  pub packet : Rec

-- a comes before b: by second, then nanosecond, then number
abbrev pub Precedes : Numbered → Numbered → Type 0
Precedes a b =
    (a.packet.sec < b.packet.sec)
    ⊎ ((a.packet.sec ≡ b.packet.sec) × ((a.packet.nsec < b.packet.nsec)
    ⊎ ((a.packet.nsec ≡ b.packet.nsec) × (a.number < b.number))))

-- the list is in ascending order, and its members are exactly the records of rs that match
pub record IsAnswer (q : Node) (now : ℕ) (rs : List Rec) (ps : List Numbered) : Type 0 where
  pub ascending : IsAscending Precedes ps
  pub members : (p : Numbered)
      → Contains ps p ↔ ((slice_get rs p.number ≡ Some p.packet) × Matches q now p.packet)

-- the answer over the list of records
abbrev pub AnswerOf : Node → ℕ → List Rec → List Rec → Type 0
AnswerOf q now rs answer =
    (ps : List Numbered) × IsAnswer q now rs ps × (answer ≡ map (λ (p : Numbered). p.packet) ps)
