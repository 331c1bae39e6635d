-- What lending some files and closing them does to a store's counts.
use Rattle.std.specs.Prelude.{◌≡◌, ◌≤◌, ◌<◌, ℕ, ◌+◌, ◌-◌, ◌^◌, ◌⊎◌}
use Rattle.st_shelf.specs.Loans.{LoansView, lend}

-- this many more files are out, or fewer more if the peak is the greatest number of a u64; and none
-- came back
pub record LendsMore (n : ℕ) (before after : LoansView) : Type 0 where
  pub reads : after.block_reads ≡ before.block_reads
  pub asked : after.block_asked ≡ before.block_asked
  pub peak : before.peak ≤ after.peak
  pub least : n ≤ after.lent
  pub most : after.lent ≤ before.lent + n
  pub exact : after.peak < 2 ^ 64 - 1 → after.lent ≡ before.lent + n

-- this many files came back, which had this many reads, for this many bytes
pub record TakesBack (n reads asked : ℕ) (before after : LoansView) : Type 0 where
  pub lent : after.lent + n ≡ before.lent
  pub peak : after.peak ≡ before.peak
  pub reads_most : after.block_reads ≤ before.block_reads + reads
  pub asked_most : after.block_asked ≤ before.block_asked + asked

-- no more files are out than before, and as many unless the peak is the greatest number of a u64
pub record LendsNone (before after : LoansView) : Type 0 where
  pub most : after.lent ≤ before.lent
  pub exact : after.peak < 2 ^ 64 - 1 → after.lent ≡ before.lent

-- an index was lent, if it could be, and came back
abbrev pub LendsIndex : LoansView → LoansView → Type 0
LendsIndex before after =
    (after ≡ before) ⊎ (after ≡ record (lend before) { lent = (lend before).lent - 1 })
