-- What holds of the definitions for all texts, queries and records.
use Rattle.std.specs.Prelude.{◌≡◌, ◌⊎◌, ℕ, List}
use Rattle.st_base.specs.Records.{Rec}
use Rattle.st_query.specs.declared.errors.QueryErr.{QueryErr}
use Rattle.st_query.specs.declared.nodes.Node.{Node}
use Rattle.st_query.specs.Answer.{AnswerOf}
use Rattle.st_query.specs.Spelling.{Spells, Refuses}

-- a text spells one query at most
abbrev pub OneSpelling : Type 0
OneSpelling = (text : List ℕ) (p q : Node) → Spells text p → Spells text q → p ≡ q

-- a text has one refusal at most
abbrev pub OneRefusal : Type 0
OneRefusal = (text : List ℕ) (d e : QueryErr) → Refuses text d → Refuses text e → d ≡ e

-- no text is both spelled and refused
abbrev pub NotBoth : Type 0
NotBoth = (text : List ℕ) (q : Node) (e : QueryErr) → Spells text q → Refuses text e → ⊥

-- the text spells a query, or it is refused
abbrev pub HasReading : List ℕ → Type 0
HasReading text = ((q : Node) × Spells text q) ⊎ ((e : QueryErr) × Refuses text e)

-- a list of records has one answer at most
abbrev pub OneAnswer : Type 0
OneAnswer =
    (q : Node) (now : ℕ) (rs xs ys : List Rec) → AnswerOf q now rs xs → AnswerOf q now rs ys
    → xs ≡ ys
