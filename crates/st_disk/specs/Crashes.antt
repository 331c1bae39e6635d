-- Which of the images a choice by bits names.
use Rattle.std.specs.Prelude.{◌≡◌, ℕ, ◌+◌, ◌/◌, ◌%◌, ◌^◌, List, [], ◌∷◌, length, Bool, cond, nat_eq}
use Rattle.st_disk.specs.declared.naming.Kind.TheVariants as kind
use Rattle.st_disk.specs.declared.changes.Change.{Change}
use Rattle.st_disk.specs.declared.changes.Update.{Update}
use Rattle.st_disk.specs.Folders.{Folder, apply, folder_of}
use Rattle.st_disk.specs.Disks.{Log, Side, side, reads, Leaves, at_moment}

-- bit n of the choice is set; of a choice below 2 ^ 64 none is from bit 64 on
abbrev pub bit : ℕ → ℕ → Bool
bit choice n = nat_eq (choice / 2 ^ n % 2) 1

-- of these changes, numbered from n on, those are made whose bit is set
abbrev pub chosen : ℕ → ℕ → List Change → Folder → Folder
chosen n choice [] f = f
chosen n choice (c ∷ cs) f = chosen (n + 1) choice cs (cond (bit choice n) (apply c f) f)

-- one folder by its updates and the changes since
abbrev pub side_from : List Update → List Change → Side
side_from flushed later = record { flushed = folder_of flushed; later = later }

-- the second log begins with what a crash of the first after so many calls leaves by this choice;
-- the changes that were not flushed are numbered from 0, those of the block folder first
pub record IsCrash (log : Log) (k choice : ℕ) (new : Log) : Type 0 where
  pub calls : new.calls ≡ []
  pub of_blocks : folder_of new.start_blocks
      ≡ chosen 0 choice (side kind.Block (at_moment k log)).later
      (side kind.Block (at_moment k log)).flushed
  pub of_indexes : folder_of new.start_indexes
      ≡ chosen (length (side kind.Block (at_moment k log)).later) choice
      (side kind.Index (at_moment k log)).later (side kind.Index (at_moment k log)).flushed
  pub left : Leaves (at_moment k log) (reads new)
