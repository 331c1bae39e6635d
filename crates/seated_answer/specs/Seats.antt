-- The place of a caller's pass, which is there between the works of the caller.
use Rattle.std.specs.Prelude.{◌≡◌, Option, Some}
use Rattle.st_disk.specs.Disks.{Log}
use Rattle.st_turn.specs.Passes.{PassView, SharedView}
use Rattle.seated_answer.specs.Resting.{Rests, Rested}

-- a pass is there that rests
pub record IsReady {S : Type 0} (known : Option Log) (s : SharedView S)
    (place : Option (PassView S)) : Type 0 where
  pub pass : PassView S
  pub is : place ≡ Some pass
  pub rests : Rests known s pass

-- the pass that was there is there again, later
pub record IsDone {S : Type 0} (place later : Option (PassView S)) : Type 0 where
  pub pass : PassView S
  pub last : PassView S
  pub was : place ≡ Some pass
  pub is : later ≡ Some last
  pub rested : Rested pass last
