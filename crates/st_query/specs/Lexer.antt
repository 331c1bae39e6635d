-- What the calls of the module `lexer` ensure.
use Rattle.std.specs.Prelude.{◌≡◌, ℕ, ◌+◌, ◌≤◌, ◌<◌, List, [], ◌++◌, length, take, drop, Option, Some, None}
use Rattle.st_query.specs.declared.tokens.Token.{Token}
use Rattle.st_query.specs.declared.lexer.Found.{Found}
use Rattle.st_query.specs.Tokens.{IsPiece, IsBlank}

-- the token that the text begins with and how many bytes it has, or none if the text is empty
abbrev pub FirstToken : List ℕ → Option (Token × ℕ) → Type 0
FirstToken text None = text ≡ []
FirstToken text (Some x) =
    (0 < x.1) × (x.1 ≤ length text) × IsPiece x.0 (take x.1 text) (drop x.1 text)

-- the first token of the rest of a text, which begins at this offset; none if all of the rest is
-- white space
abbrev pub Next : ℕ → List ℕ → Option Found → Type 0
Next at rest None = IsBlank rest
Next at rest (Some f) =
    (gap : List ℕ) × (piece : List ℕ) × (more : List ℕ) × (rest ≡ gap ++ (piece ++ more))
    × IsBlank gap
    × (f.start ≡ at + length gap) × (f.end ≡ f.start + length piece) × IsPiece f.token piece more
