-- What a drill makes of a shelf, and what it writes.
use Rattle.std.specs.Prelude.{◌≡◌, ◌-◌, ◌^◌, ◌⊎◌, [], ◌∷◌, ℕ, List, length, Option, Some, ⊤}
use Rattle.std.specs.Io.KnownBytes.{Appends}
use Rattle.st_base.specs.Pieces.{AppendsPrefix}
use Rattle.st_disk.specs.Disks.{Log}
use Rattle.st_disk.specs.Events.{Found}
use Rattle.st_disk.specs.Pairs.{Entry}
use Rattle.st_answer.specs.Packets.{IsWholeSet}
use Rattle.st_load.specs.Acts.{events_of}
use Rattle.st_load.specs.Opening.{LoadsOpened}
use Rattle.st_load.specs.declared.ends.LoadEnd.{LoadEnd}
use Rattle.st_load.specs.declared.ends.LoadEnd.TheVariants as load
use Rattle.st_plan.specs.declared.jobs.LanePlan.{LanePlan}
use Rattle.st_plan.specs.declared.limits.TheConstants.{MAX_PAIRS}
use Rattle.st_spool.specs.Entering.{FailsToEnter}
use Rattle.st_spool.specs.History.{set_of}
use Rattle.st_drill.specs.declared.ends.DrillEnd.{DrillEnd}
use Rattle.st_drill.specs.declared.ends.DrillEnd.TheVariants as end
use Rattle.st_drill.specs.declared.numbers.TheConstants.{BLOCK_SIZE, BLOCKS}
use Rattle.st_drill.specs.declared.queries.DrillQuery.{DrillQuery}
use Rattle.st_drill.specs.declared.summary.Answers.{Answers}
use Rattle.st_drill.specs.Asking.{CountsMatches, AnswerFails}
use Rattle.st_drill.specs.Packets.{input}
use Rattle.st_drill.specs.Summary.{told_of, summary_text}

-- the layout of a drill's block files: blocks of 65,536 bytes, at most 16 of them in a file
abbrev pub layout : LanePlan
layout = record { size = BLOCK_SIZE; blocks = BLOCKS }

-- The text is the summary of a drill of this many packets, which became this many pairs. Its counts
-- are those of the answers over the file set, if the pairs of the set are whole.
pub record IsSummary (packets pairs : ℕ) (set : List Entry) (text : List ℕ) : Type 0 where
  pub answers : Answers
  pub counts : IsWholeSet set → (q : DrillQuery) → CountsMatches set q (told_of answers q)
  pub text_is : text ≡ summary_text packets pairs answers

-- How a drill of this many packets ended once they were loaded, as this many pairs, into a spool
-- that has this file set then; and what it wrote.
abbrev pub EndsLoaded :
    ℕ → ℕ → List Entry → Option (List ℕ) → Option (List ℕ) → DrillEnd → Type 0
EndsLoaded packets pairs set old new end.Done =
    (text : List ℕ) × IsSummary packets pairs set text × Appends old new text
EndsLoaded packets pairs set old new end.WriteFault =
    (text : List ℕ) × IsSummary packets pairs set text × AppendsPrefix old new text
EndsLoaded packets pairs set old new ended = AnswerFails set ended × (new ≡ old)

-- How a drill ended if its load ended so, before all packets were loaded. The load's input is
-- whole, fits the blocks and never fails. The lines of the pairs are kept in memory, so that
-- writing them fails only if memory runs out.
abbrev pub EndsUnloaded : LoadEnd → DrillEnd → Type 0
EndsUnloaded load.Done ended = ⊥
EndsUnloaded (load.BadInput e) ended = ⊥
EndsUnloaded (load.TooLong number len) ended = ⊥
EndsUnloaded load.ReadFault ended = ⊥
EndsUnloaded load.WriteFault ended = ended ≡ end.NoMemory
EndsUnloaded load.DiskFault ended = ended ≡ end.DiskFault
EndsUnloaded (load.StampsSpent last) ended = ended ≡ end.StampsSpent last
EndsUnloaded load.NoMemory ended = ended ≡ end.NoMemory

-- the file set of a spool after a load, by what it found and did
abbrev pub set_loaded : {limit : ℕ} {layout : LanePlan} {first : Log} {known : Option Log}
    {left times times_now old new : Option (List ℕ)} {ended : LoadEnd}
    → LoadsOpened limit layout first known left times times_now old new ended → List Entry
set_loaded loads = set_of (Found loads.found ∷ events_of loads.acts)

-- A drill of this many packets opened a spool over a shelf with this first log, and loaded them.
-- Once all were in pairs it asked its queries over the file set, which is whole if the pairs that
-- were found are, and wrote the summary; else it wrote nothing.
pub record DrillsOpened (packets : ℕ) (first : Log) (known : Option Log)
    (times times_now : Option (List ℕ)) (old new : Option (List ℕ)) (ended : DrillEnd)
    : Type 0 where
  -- the lines of the pairs, and how the load ended
  pub lines : Option (List ℕ)
  pub loaded : LoadEnd
  pub loads : LoadsOpened MAX_PAIRS layout first known (Some (input packets)) times times_now
      (Some []) lines loaded
  pub ends : ((loaded ≡ load.Done)
      × (IsWholeSet loads.found → IsWholeSet (set_loaded loads))
      × EndsLoaded packets (length loads.pairs) (set_loaded loads) old new ended)
      ⊎ (EndsUnloaded loaded ended × (new ≡ old))

-- What a drill of this many packets made of a shelf: it opened a spool over it and went on, or it
-- could not open one, and nothing else was touched.
abbrev pub Drills :
    ℕ → Log → Option Log → Option (List ℕ) → Option (List ℕ) → Option (List ℕ)
    → Option (List ℕ) → DrillEnd → Type 0
Drills packets first known times times_now old new ended =
    DrillsOpened packets first known times times_now old new ended
    ⊎ (FailsToEnter first known × ((ended ≡ end.DiskFault) ⊎ (ended ≡ end.NoMemory))
    × (times_now ≡ times) × (new ≡ old))

-- what an end says, whatever is known: no stamp is left only after the greatest
abbrev pub SaysDrill : DrillEnd → Type 0
SaysDrill (end.StampsSpent last) = last ≡ 2 ^ 64 - 1
SaysDrill ended = ⊤
