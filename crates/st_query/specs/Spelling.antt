-- Which query a text spells, and how a text is refused.
use Rattle.std.specs.Prelude.{◌≡◌, ℕ, ◌+◌, ◌≤◌, ◌<◌, List, [], ◌∷◌, ◌++◌, length, Some, None, ◌⊎◌}
use Rattle.st_query.specs.declared.tokens.Token.{Token}
use Rattle.st_query.specs.declared.errors.QueryErr.{QueryErr}
use Rattle.st_query.specs.declared.errors.QueryErr.TheVariants.{Syntax, Number, Address, Time, Deep, Long, NoMemory}
use Rattle.st_query.specs.declared.limits.TheConstants.{MAX_TEXT}
use Rattle.st_query.specs.declared.automaton.Kind.{Kind}
use Rattle.st_query.specs.declared.automaton.Kind.TheVariants as kind
use Rattle.st_query.specs.declared.nodes.Node.{Node}
use Rattle.st_query.specs.Tokens.{IsBlank, IsPiece}
use Rattle.st_query.specs.Trees.{Tree, tree}
use Rattle.st_query.specs.Grammar.{Query, CanGoOn, HasKind}

-- the text begins with these tokens, each after white space or none, and goes on with the rest
abbrev pub Starts : List ℕ → List Token → List ℕ → Type 0
Starts text [] rest = text ≡ rest
Starts text (t ∷ ts) rest =
    (gap : List ℕ) × (piece : List ℕ) × (more : List ℕ) × (text ≡ gap ++ (piece ++ more))
    × IsBlank gap
    × IsPiece t piece more × Starts more ts rest

-- the text's tokens are this query
abbrev pub IsSpelled : List ℕ → Tree → Type 0
IsSpelled text q =
    (ts : List Token) × (rest : List ℕ) × Starts text ts rest × IsBlank rest × Query 0 ts q

-- after these tokens, which may still become a query, the rest of the text begins with a token that
-- no query has there: `left` bytes before the text's end, with a refusal of this kind
pub record StopsAt (ts : List Token) (rest : List ℕ) (left : ℕ) (k : Kind) : Type 0 where
  pub gap : List ℕ
  pub piece : List ℕ
  pub more : List ℕ
  pub token : Token
  pub split : rest ≡ gap ++ (piece ++ more)
  pub blank : IsBlank gap
  pub is_piece : IsPiece token piece more
  pub place : left ≡ length piece + length more
  pub stops : CanGoOn (ts ++ token ∷ []) → ⊥
  pub has_kind : HasKind ts (Some token) k

-- after these tokens only white space is left, and they are no query yet
pub record EndsAt (ts : List Token) (rest : List ℕ) (left : ℕ) (k : Kind) : Type 0 where
  pub blank : IsBlank rest
  pub place : left ≡ 0
  pub unfinished : (q : Tree) → Query 0 ts q → ⊥
  pub has_kind : HasKind ts None k

-- the text is refused, with this kind, at the first token that no further tokens make a query, or
-- at its end
abbrev pub IsRefused : List ℕ → ℕ → Kind → Type 0
IsRefused text place k =
    (length text ≤ MAX_TEXT)
    × ((ts : List Token) × (rest : List ℕ) × (left : ℕ) × Starts text ts rest × CanGoOn ts
    × (place + left ≡ length text) × (StopsAt ts rest left k ⊎ EndsAt ts rest left k))

-- the text spells the query
abbrev pub Spells : List ℕ → Node → Type 0
Spells text q = (length text ≤ MAX_TEXT) × IsSpelled text (tree q)

-- the text is refused so: with its kind and place, or as too long
abbrev pub Refuses : List ℕ → QueryErr → Type 0
Refuses text (Syntax place) = IsRefused text place kind.Syntax
Refuses text (Number place) = IsRefused text place kind.Number
Refuses text (Address place) = IsRefused text place kind.Address
Refuses text (Time place) = IsRefused text place kind.Time
Refuses text (Deep place) = IsRefused text place kind.Deep
Refuses text (Long len) = (MAX_TEXT < length text) × (len ≡ length text)
Refuses text NoMemory = ⊥
