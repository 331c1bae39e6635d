-- A pass that holds nothing, before and after a thread's work.
use Rattle.std.specs.Prelude.{◌≡◌, []}
use Rattle.st_turn.specs.Passes.{PassView, SharedView, IsOf, IsSame}

-- one of this shared spool
pub record Rests {S : Type 0} (s : SharedView S) (p : PassView S) : Type 0 where
  pub of : IsOf s p
  pub empty : p.state.held ≡ []

-- the same pass later, which holds nothing again
pub record Rested {S : Type 0} (p q : PassView S) : Type 0 where
  pub same : IsSame p q
  pub empty : q.state.held ≡ []
