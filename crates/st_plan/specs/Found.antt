-- What clap finds in the arguments.
use Rattle.std.specs.Prelude.{◌≡◌, List, [], Option, Some, None, Bool, false, option_map, codes}
use Rattle.std.specs.Str.{bytes_eq}
use Rattle.clap.specs.Words.{Text, first_value, matched_of, raw_values}
use Rattle.clap.specs.declared.parser.matches.Found.{Found}
use Rattle.st_plan.specs.Line.{Options, Line, no_options, name_of}

-- whether a flag is set, by its text
abbrev pub is_set : Option Text → Bool
is_set None = false
is_set (Some text) = bytes_eq text (codes "true")

-- the options that were found
abbrev pub options_of : Found → Options
options_of f = record {
  ns = is_set (first_value f (codes "ns"));
  value = λ x. first_value f (name_of x);
}

-- the values, if there are any
abbrev pub values_of : Option (List Text) → List Text
values_of None = []
values_of (Some gs) = gs

-- the operands that were found
abbrev pub operands_of : Found → List Text
operands_of f = values_of (option_map raw_values (matched_of f (codes "words")))

-- the arguments are a line, and what it makes, and nothing else, was found
pub record IsTaken (words : List Text) (f : Found) : Type 0 where
  pub line : Line no_options [] words (options_of f) (operands_of f)
  pub only : (o : Options) (gs : List Text) → Line no_options [] words o gs
      → (o ≡ options_of f) × (gs ≡ operands_of f)

-- the arguments are no line
abbrev pub IsNoLine : List Text → Type 0
IsNoLine words = (o : Options) (gs : List Text) → Line no_options [] words o gs → ⊥
