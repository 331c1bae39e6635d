-- A pass that holds nothing, before and after a caller's work.
use Rattle.std.specs.Prelude.{◌≡◌, [], Option}
use Rattle.st_disk.specs.Disks.{Log}
use Rattle.st_turn.specs.Passes.{PassView, SharedView, IsSame}
use Rattle.st_seated.specs.Seats.{IsSeatable}

-- one of this shared spool, which may be a store
pub record Rests {S : Type 0} (known : Option Log) (s : SharedView S) (p : PassView S)
    : Type 0 where
  pub sits : IsSeatable known s p
  pub empty : p.state.held ≡ []

-- the same pass later, which holds nothing again
pub record Rested {S : Type 0} (p q : PassView S) : Type 0 where
  pub same : IsSame p q
  pub empty : q.state.held ≡ []
