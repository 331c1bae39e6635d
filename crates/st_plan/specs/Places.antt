-- Where the folder of a plan stands among the arguments.
use Rattle.std.specs.Prelude.{◌≡◌, ℕ, ◌+◌, ◌<◌, List, [], Some, length, take, slice_get}
use Rattle.clap.specs.Words.{Text}
use Rattle.st_plan.specs.Line.{Options, Line, no_options}
use Rattle.st_plan.specs.Plans.{IsPlan, folder_of}
use Rattle.st_plan.specs.declared.jobs.Plan.{Plan}

-- the arguments are a line with this many operands
abbrev pub HasOperands : List Text → ℕ → Type 0
HasOperands words n =
    (o : Options) × (gs : List Text) × Line no_options [] words o gs × (length gs ≡ n)

-- the second operand stands at this place: the arguments before it hold one operand, and with it
-- they hold two
pub record IsSecondAt (words : List Text) (i : ℕ) (operand : Text) : Type 0 where
  pub is : slice_get words i ≡ Some operand
  pub before : HasOperands (take i words) 1
  pub both : HasOperands (take (i + 1) words) 2

-- the first place at which it stands, which is one at most
pub record IsSecond (words : List Text) (i : ℕ) (operand : Text) : Type 0 where
  pub at : IsSecondAt words i operand
  pub first : (j : ℕ) → j < i → IsSecondAt words j operand → ⊥

-- the folder of the plan that these arguments have stands at this place
pub record IsFolderAt (words : List Text) (i : ℕ) : Type 0 where
  pub plan : Plan
  pub is : IsPlan words plan
  pub folder : Text
  pub named : folder_of plan ≡ Some folder
  pub place : IsSecond words i folder
