-- What a command leaves of the pairs that were found.
use Rattle.std.proofs.Common.{◌≡◌, List, [], ◌∷◌, Option, Some, sym, ◌∙◌, inr}
use Rattle.st_disk.specs.Disks.{Log, reads}
use Rattle.st_disk.specs.Events.{Found}
use Rattle.st_disk.specs.Folders.{Folder}
use Rattle.st_disk.specs.Pairs.{Entry, PairsIn}
use Rattle.st_disk.proofs.Runs.{ran_widen, ran_then}
use Rattle.st_spool.specs.Entering.{Clears, SamePairs, Enters, Is, pairs_alone, flushed_log}
use Rattle.st_spool.specs.Publishing.{RanAsBefore}
use Rattle.st_spool.specs.Standing.{Gives}
use Rattle.st_spool.specs.States.{SpoolState}
use Rattle.st_spool.proofs.Clearing.{alone_pairs}
use Rattle.st_commands.specs.Commands.{KeepsPairs}
use Rattle.st_pairs.specs.Pairs.{IsWholePair}
use Rattle.st_commands.specs.declared.outcomes.Outcome.{Outcome}
use Rattle.st_commands.specs.declared.outcomes.Outcome.TheVariants.{Done, WriteFault, DiskFault, Damaged, NoMemory}

-- after an opening
pub entered_clears : (first : Log) (known : Option Log) (st : SpoolState) → Enters IsWholePair first known st → Clears first known (SamePairs (reads first))
entered_clears first known st e =
    let same : Folder → Type 0 = SamePairs (reads first) in
    record {
      flushed = e.images.flushed;
      cleared = ran_widen (flushed_log first) known [] same (Is (pairs_alone (reads first))) same same (λ c h. h) (λ c h. alone_pairs (reads first) c h) e.images.cleared;
    }

same_pairs : (f c : Folder) (pairs : List Entry) → PairsIn f pairs → PairsIn c pairs → SamePairs f c
same_pairs f c pairs a b s = sym (b.each s) ∙ a.each s

-- after calls that change no pair of what was found
pub stays_clear : (first : Log) (mid new : Option Log) (pairs : List Entry) → PairsIn (reads first) pairs → Clears first mid (Is (pairs_alone (reads first)))
    → ((m : Log) → mid ≡ Some m → RanAsBefore m new (Found pairs ∷ []) []) → Clears first new (SamePairs (reads first))
stays_clear first mid new pairs found clears ran =
    let one = clears.cleared in
    let same : Folder → Type 0 = SamePairs (reads first) in
    let given : Folder → Type 0 = Gives (Found pairs ∷ []) [] in
    let two = ran_widen one.log new [] given given same same
    (λ c h. same_pairs (reads first) c pairs found h) (λ c h. same_pairs (reads first) c pairs found h) (ran one.log one.is) in
    record { flushed = clears.flushed; cleared = ran_then (flushed_log first) mid new [] [] same (Is (pairs_alone (reads first))) same one two }

pub keeps_pairs : (first : Log) (known : Option Log) (o : Outcome) → Clears first known (SamePairs (reads first)) → KeepsPairs first known o
keeps_pairs first known Done h = h
keeps_pairs first known WriteFault h = h
keeps_pairs first known DiskFault h = inr h
keeps_pairs first known (Damaged s d) h = h
keeps_pairs first known NoMemory h = inr h
