-- What the calls of the module `parser` ensure.
use Rattle.std.specs.Prelude.{◌≡◌, ℕ, List, [], drop, Option, Some}
use Rattle.st_query.specs.declared.tokens.Token.{Token}
use Rattle.st_query.specs.declared.errors.QueryErr.{QueryErr}
use Rattle.st_query.specs.declared.errors.QueryErr.TheVariants as err
use Rattle.st_query.specs.declared.automaton.Kind.{Kind}
use Rattle.st_query.specs.declared.automaton.Kind.TheVariants as kind
use Rattle.st_query.specs.Automaton.{PhaseView, HalfView, start, run}
use Rattle.st_query.specs.Spelling.{Starts}

-- the refusal of this kind, at this place
abbrev pub error_at : Kind → ℕ → QueryErr
error_at kind.Syntax place = err.Syntax place
error_at kind.Number place = err.Number place
error_at kind.Address place = err.Address place
error_at kind.Time place = err.Time place
error_at kind.Deep place = err.Deep place

-- the tokens of the text up to this offset lead to this phase and stack
abbrev pub HasRead : List ℕ → ℕ → PhaseView → List (Option HalfView) → Type 0
HasRead text at s hs =
    (ts : List Token) × Starts text ts (drop at text) × (run [] start ts ≡ Some (s, hs))
