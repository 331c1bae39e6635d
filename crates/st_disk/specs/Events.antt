-- What calls did to the pairs of a shelf, in order.
use Rattle.std.specs.Prelude.{ℕ, List, [], ◌∷◌, ◌++◌}
use Rattle.st_disk.specs.declared.naming.Kind.TheVariants as kind
use Rattle.st_disk.specs.declared.naming.Name.TheVariants as name
use Rattle.st_disk.specs.declared.changes.Change.{Change}
use Rattle.st_disk.specs.declared.changes.Change.TheVariants as change
use Rattle.st_disk.specs.declared.changes.Call.{Call}
use Rattle.st_disk.specs.declared.changes.Call.TheVariants.{Did, Flush, Other}
use Rattle.st_disk.specs.Folders.{Folder, apply, folder_of, given, join}
use Rattle.st_disk.specs.Disks.{Log}
use Rattle.st_disk.specs.Pairs.{Entry}

-- pairs were found, a pair was published, or the pair of a stamp was removed
pub data Event : Type 0 where
  Found : List Entry → Event
  Publish : Entry → Event
  Remove : ℕ → Event

-- what a change of this folder does to its pairs: a block that is settled publishes its pair, and
-- an index that is hidden removes its pair
abbrev pub change_events : Folder → Change → List Event
change_events f (change.Settle kind.Block d s bytes) =
    Publish (record { stamp = s; block = bytes; index = given (f (name.Index s)) }) ∷ []
change_events f (change.Settle kind.Index d s bytes) = []
change_events f (change.Hide s) = Remove s ∷ []
change_events f (change.Make k d) = []
change_events f (change.Remove n) = []

-- what a call does to the pairs that are read
abbrev pub call_events : Folder → Call → List Event
call_events f (Did c) = change_events f c
call_events f (Flush k) = []
call_events f Other = []

-- what is read after a call
abbrev pub read_after : Folder → Call → Folder
read_after f (Did c) = apply c f
read_after f (Flush k) = f
read_after f Other = f

-- the events of these calls, of which the first finds this folder
abbrev pub events_from : Folder → List Call → List Event
events_from f [] = []
events_from f (c ∷ cs) = call_events f c ++ events_from (read_after f c) cs

-- the events of all calls of a log
unfoldable pub events : Log → List Event
events log = events_from (join (folder_of log.start_blocks) (folder_of log.start_indexes)) log.calls
