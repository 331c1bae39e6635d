use Rattle.std.proofs.Common.{◌≡◌, ◌++◌, ◌+◌, length}
use Rattle.st_disk.specs.Book.{idle_calls}
use Rattle.st_disk.proofs.call_list.make_room.Given as goal

abbrev pub invariant-calls : goal.invariant-calls
invariant-calls l = record {
  same : l.written.items ++ idle_calls l.idle ≡ l.fn.written.items ++ idle_calls l.fn.idle;
  count : length l.written.items + l.idle ≡ length l.fn.written.items + l.fn.idle;
}

abbrev pub decreases-calls : goal.decreases-calls
decreases-calls l = l.idle
