use Rattle.std.proofs.Common.{◌++◌, ◌≤◌, length, take}
use Rattle.st_walk.specs.Listing.{keys_left}
use Rattle.st_query.specs.Matcher.{KeysAre}
use Rattle.st_query.proofs.matcher.gather.Given as goal

abbrev pub invariant-loop-key : goal.invariant-loop-key
invariant-loop-key l = (l.len ≤ length l.room) × KeysAre l.frame (take l.len l.room ++ keys_left l.key-iterator)
