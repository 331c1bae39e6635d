-- The history of a spool as a function of what it keeps and of its shelf's log.
use Rattle.std.specs.Prelude.{◌+◌, ◌-◌, ℕ, List, [], ◌∷◌, length, take, drop, Option, option_map, cond, nat_le}
use Rattle.st_disk.specs.declared.naming.Name.TheVariants.{Block, Index, Parked}
use Rattle.st_disk.specs.declared.changes.Call.{Call}
use Rattle.st_disk.specs.Folders.{Folder, where_there, given, join, folder_of}
use Rattle.st_disk.specs.Disks.{Log, log_of, reads}
use Rattle.st_disk.specs.Events.{Event, Found, call_events, read_after, events}
use Rattle.st_disk.specs.Pairs.{Entry}
use Rattle.st_spool.specs.States.{SpoolState, SpoolView}
use Rattle.st_spool.specs.declared.state.Doubt.{Doubt}
use Rattle.st_spool.specs.declared.state.Doubt.TheVariants.{Nothing, Unsettled, Settled, Unhidden, Hidden}

-- the entry of a stamp by its block and its index, or by the parked index if no index is there
abbrev pub entry_in : Folder → ℕ → Entry
entry_in f s = record {
  stamp = s;
  block = given (f (Block s));
  index = where_there (f (Index s)) (λ bytes. bytes) (given (f (Parked s)));
}

-- the entries of these stamps
abbrev pub entries_in : Folder → List ℕ → List Entry
entries_in f [] = []
entries_in f (s ∷ ss) = entry_in f s ∷ entries_in f ss

-- the first of these calls, made one after the other from this folder on: as many as make no more
-- than k events
abbrev pub calls_within : ℕ → Folder → List Call → List Call
calls_within k f [] = []
calls_within k f (c ∷ cs) =
    cond (nat_le (length (call_events f c)) k)
    (c ∷ calls_within (k - length (call_events f c)) (read_after f c) cs) []

-- what was read at the beginning of a log
abbrev pub first_read : Log → Folder
first_read log = join (folder_of log.start_blocks) (folder_of log.start_indexes)

-- the log as it was when it had k events, just before the next one, or now if there was none
abbrev pub log_before : ℕ → Log → Log
log_before k log =
    log_of log.start_blocks log.start_indexes (calls_within k (first_read log) log.calls)

-- how many pairs were published and removed since the opening
abbrev pub event_count : SpoolState → ℕ
event_count st = (length st.stamps - st.found) + st.removed

-- how many events are in doubt: one, or none
abbrev pub in_doubt_count : Doubt → ℕ
in_doubt_count Nothing = 0
in_doubt_count (Unsettled t) = 0
in_doubt_count (Settled t) = 1
in_doubt_count (Unhidden t) = 0
in_doubt_count (Hidden t) = 1

-- how many events the log had before the opening
abbrev pub earlier_count : SpoolState → Log → ℕ
earlier_count st log = length (events log) - (event_count st + in_doubt_count st.doubt)

-- the events before the opening
abbrev pub earlier : SpoolState → Log → List Event
earlier st log = take (earlier_count st log) (events log)

-- The history of a spool with this state, over a shelf with this log: the pairs that the opening
-- found, as they were read just before the first event since, and then the events, without the one
-- in doubt.
abbrev pub history : SpoolState → Log → List Event
history st log =
    Found (entries_in (reads (log_before (earlier_count st log) log)) (take st.found st.stamps))
    ∷ take (event_count st) (drop (earlier_count st log) (events log))

-- how many events the history had of which the last hold took the set
abbrev pub taken_count : SpoolState → ℕ
taken_count st = ((st.asked.to - st.found) + st.asked.from) + 1

-- the history of a spool, if its shelf's log is known
abbrev pub history_of : {D : Type 0} → (D → Option Log) → SpoolView D → Option (List Event)
history_of {D} log spool = option_map (history spool.state) (log spool.shelf)

-- the history that the last hold of a spool took, if its shelf's log is known
abbrev pub taken_of : {D : Type 0} → (D → Option Log) → SpoolView D → Option (List Event)
taken_of {D} log spool =
    option_map (take (taken_count spool.state)) (history_of log spool)
