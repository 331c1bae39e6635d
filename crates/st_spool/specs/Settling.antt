-- What settling a pair and parking an index leave on the shelf, by how far they came.
use Rattle.std.specs.Prelude.{◌≡◌, ℕ, List, [], ◌∷◌, Option, None, Some, Result, Ok, Err}
use Rattle.st_disk.specs.declared.naming.Name.TheVariants.{Block, Index}
use Rattle.st_disk.specs.declared.changes.Call.TheVariants.{Did}
use Rattle.st_disk.specs.declared.changes.Change.TheVariants.{Hide}
use Rattle.st_disk.specs.Disks.{Log}
use Rattle.st_disk.specs.Events.{Publish, Remove}
use Rattle.st_disk.specs.LoggedCalls.{Adds, Looks, Reads}
use Rattle.st_disk.specs.Pairs.{Entry, Files}
use Rattle.st_spool.specs.Rows.{Row, Half, Coming, Pair, Going, Held, set_row, RanBy}
use Rattle.st_spool.specs.declared.settling.Stopped.{Stopped}
use Rattle.st_spool.specs.declared.settling.Stopped.TheVariants.{Before, After}

-- the files of a pair with these bytes
abbrev pub files : List ℕ → List ℕ → Files
files block index = record { block = block; index = index }

-- the entry of a stamp and its files
abbrev pub entry : ℕ → Files → Entry
entry s f = record { stamp = s; block = f.block; index = f.index }

-- The settling of a pair under a stamp of which nothing was there. At Ok a crash now leaves the
-- pair. If it was stopped before it settled the block, a crash leaves at most the index.
-- If it was stopped later, a crash may leave each of the two files or not, and both are read.
abbrev pub SettlesPair :
    Log → Option Log → (ℕ → Row) → ℕ → Files → Result (Unit {0}) Stopped → Type 0
SettlesPair first new rows t f (Ok v) =
    RanBy first new (Publish (entry t f) ∷ []) (set_row rows t (Coming f)) (set_row rows t (Pair f))
SettlesPair first new rows t f (Err Before) =
    RanBy first new [] (set_row rows t (Half f)) (set_row rows t (Half f))
SettlesPair first new rows t f (Err After) =
    RanBy first new (Publish (entry t f) ∷ []) (set_row rows t (Coming f))
    (set_row rows t (Coming f))
    × Reads new (Block t) (λ v. v ≡ Some f.block) × Reads new (Index t) (λ v. v ≡ Some f.index)

-- The parking of the index of a pair. At Ok no crash now leaves the pair. If it was
-- stopped before it hid the index, each crash leaves what it might have left before. If it was
-- stopped later, a crash may leave the index under either of its names, and it isn't read as an
-- index.
abbrev pub Hidden : Log → Option Log → (ℕ → Row) → ℕ → Files → Result (Unit {0}) Stopped → Type 0
Hidden first new rows t f (Ok v) =
    RanBy first new (Remove t ∷ []) (set_row rows t (Going f)) (set_row rows t (Held f))
Hidden first new rows t f (Err Before) = RanBy first new [] rows rows
Hidden first new rows t f (Err After) =
    RanBy first new (Remove t ∷ []) (set_row rows t (Going f)) (set_row rows t (Going f))
    × Reads new (Index t) (λ v. v ≡ None)

-- Which calls there were where the index of a pair was not parked for good: one that failed to park
-- it; or the index was parked, and one call failed after it. There was no other call.
abbrev pub FailsToHide : Option Log → Option Log → ℕ → Stopped → Type 0
FailsToHide old new t Before = Looks old new
FailsToHide old new t After =
    (parked : Option Log) × Adds old parked (Did (Hide t)) × Looks parked new
