-- What a load did when it ended.
use Rattle.std.specs.Prelude.{◌≡◌, ◌≤◌, ◌+◌, ◌-◌, ◌^◌, ℕ, List, [], ◌∷◌, ◌++◌, length, take, Option, Some, ⊤}
use Rattle.std.specs.Io.KnownBytes.{Appends}
use Rattle.st_base.specs.Records.{Rec}
use Rattle.st_disk.specs.Disks.{Log}
use Rattle.st_disk.specs.Events.{Event}
use Rattle.st_disk.specs.Pairs.{Files}
use Rattle.st_pairs.specs.Pairs.{IsWholePair}
use Rattle.st_pcap.specs.Input.{End, Whole, Refused, Input}
use Rattle.st_plan.specs.declared.jobs.LanePlan.{LanePlan}
use Rattle.st_spool.specs.History.{set_of}
use Rattle.st_spool.specs.Covers.{CoversInDoubt}
use Rattle.st_spool.specs.Standing.{StandsFor, failed_event, in_doubt}
use Rattle.st_spool.specs.States.{SpoolState}
use Rattle.st_load.specs.Acts.{Act, Writes, line_text, events_of, lines_of, happen}
use Rattle.st_load.specs.Job.{Situation, AreFirstLists, Takes}
use Rattle.st_load.specs.declared.ends.LoadEnd.{LoadEnd}
use Rattle.st_load.specs.declared.ends.LoadEnd.TheVariants as end

-- The records of an input: how the input ends, the records that a load takes, those that follow
-- them, and of those that it takes the last ones, which no pair has.
pub record InputParts : Type 0 where
  pub input : End
  pub taken : List Rec
  pub others : List Rec
  pub left : List Rec

-- How a load ended, by its input. If the input ended it, all records were taken, up to the end or
-- to the one that is too long, and each is in a pair. If no stamp was left, some are in none.
abbrev pub EndsInput : LoadEnd → InputParts → Type 0
EndsInput end.Done rest = (rest.input ≡ Whole) × (rest.others ≡ []) × (rest.left ≡ [])
EndsInput (end.BadInput e) rest =
    (rest.input ≡ Refused e) × (rest.others ≡ []) × (rest.left ≡ [])
EndsInput (end.TooLong number len) rest =
    (r : Rec) × (later : List Rec) × (rest.others ≡ r ∷ later) × (len ≡ length r.body)
    × (number ≡ length rest.taken + 1) × (rest.left ≡ [])
EndsInput end.ReadFault rest = ⊤
EndsInput end.WriteFault rest = ⊤
EndsInput end.DiskFault rest = ⊤
EndsInput (end.StampsSpent last) rest = 1 ≤ length rest.left
EndsInput end.NoMemory rest = ⊤

-- The pairs have the first records of an input of these bytes, as they are cut into files of this
-- layout.
pub record AreCutFrom (layout : LanePlan) (bytes : List ℕ) (ended : LoadEnd)
    (pairs : List (List Rec)) : Type 0 where
  pub records : List Rec
  pub rest : InputParts
  pub input : Input bytes records rest.input
  pub takes : Takes layout.size records rest.taken rest.others
  pub lists : AreFirstLists layout.size layout.blocks pairs rest.taken rest.left
  pub ends : EndsInput ended rest

-- How a load ended, by its job: the acts that were still to come, the situation after all acts, and
-- the clock's readings to come. Only a fault of the shelf or the output, or running out of memory,
-- leaves an act to be done.
abbrev pub EndsJob : LoadEnd → List Act → Situation → Option (List ℕ) → Type 0
EndsJob end.Done to_come final times = (to_come ≡ []) × (times ≡ final.times)
EndsJob (end.BadInput e) to_come final times = (to_come ≡ []) × (times ≡ final.times)
EndsJob (end.TooLong number len) to_come final times = (to_come ≡ []) × (times ≡ final.times)
EndsJob end.ReadFault to_come final times = (to_come ≡ []) × (times ≡ final.times)
EndsJob end.WriteFault to_come final times = times ≡ final.times
EndsJob end.DiskFault to_come final times = ⊤
EndsJob (end.StampsSpent last) to_come final times =
    (to_come ≡ []) × (final.last ≡ 2 ^ 64 - 1) × (last ≡ final.last)
EndsJob end.NoMemory to_come final times = ⊤

-- The output gained the lines among the acts that were done, and if writing failed, also a prefix
-- of the line that was the next act.
abbrev pub WritesLines :
    LoadEnd → List Act → List Act → Option (List ℕ) → Option (List ℕ) → Type 0
WritesLines end.Done acts to_come old new = Appends old new (lines_of acts)
WritesLines (end.BadInput e) acts to_come old new = Appends old new (lines_of acts)
WritesLines (end.TooLong number len) acts to_come old new = Appends old new (lines_of acts)
WritesLines end.ReadFault acts to_come old new = Appends old new (lines_of acts)
WritesLines end.WriteFault acts to_come old new =
    (stamp : ℕ) × (packets : ℕ) × (later : List Act) × (n : ℕ)
    × (to_come ≡ Writes stamp packets ∷ later)
    × Appends old new (lines_of acts ++ take n (line_text stamp packets))
WritesLines end.DiskFault acts to_come old new = Appends old new (lines_of acts)
WritesLines (end.StampsSpent last) acts to_come old new = Appends old new (lines_of acts)
WritesLines end.NoMemory acts to_come old new = Appends old new (lines_of acts)

-- Of the job for these pairs these acts were done, and these are to come. The clock has these
-- readings to come, and the output went from the old bytes to the new.
pub record Did (Job : List (List Rec) → List Act → Situation → Type 0) (ended : LoadEnd)
    (pairs : List (List Rec)) (acts to_come : List Act) (times : Option (List ℕ))
    (old new : Option (List ℕ)) : Type 0 where
  pub final : Situation
  pub job : Job pairs (acts ++ to_come) final
  pub ends : EndsJob ended to_come final times
  pub lines : WritesLines ended acts to_come old new

-- these acts begin with these events
abbrev pub BeginsWith : List Act → List Event → Type 0
BeginsWith acts es = (later : List Act) × (acts ≡ happen es ++ later)

-- Since the log that was known before, these events followed the history h, one after the other. At
-- every moment each crash left the pairs of the history so far or, while a call made an event, the
-- pairs with that event. At the end one event may be in doubt.
abbrev pub Covered :
    Option Log → Option Log → List Event → List Event → List Event → Type 0
Covered old known h es doubt =
    (first : Log) → old ≡ Some first
    → (now : Log) × (known ≡ Some now) × CoversInDoubt h es doubt first now

-- What a load made of a spool that stood for the history h. It did the first acts of a job; the
-- spool stands for the history with their events, and so each crash left. If an event is in doubt,
-- it was the next act.
pub record Loads (Job : List (List Rec) → List Act → Situation → Type 0)
    (Are : List (List Rec) → Type 0) (ended : LoadEnd) (before known : Option Log)
    (st : SpoolState) (earlier h : List Event) (times : Option (List ℕ))
    (old new : Option (List ℕ)) : Type 0 where
  pub pairs : List (List Rec)
  pub are : Are pairs
  pub acts : List Act
  pub to_come : List Act
  pub did : Did Job ended pairs acts to_come times old new
  pub f : Files
  pub stands : StandsFor IsWholePair known st earlier (h ++ events_of acts) f
  pub doubt : BeginsWith to_come (failed_event st.doubt f)
  pub images : Covered before known h (events_of acts) (in_doubt st.doubt f)

-- what a load goes on from in a spool of this history
abbrev pub situation : List Event → SpoolState → Option (List ℕ) → Situation
situation h st times = record { set = set_of h; last = st.last; times = times }
