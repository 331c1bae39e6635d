-- What a shelf counts of the files that it lends.
use Rattle.std.specs.Prelude.{ℕ, ◌+◌, ◌-◌, ◌^◌, min, max}
use Rattle.st_disk.specs.declared.naming.Kind.{Kind}
use Rattle.st_disk.specs.declared.naming.Kind.TheVariants as kind

-- how many files are out, and how many were at most; how often the block files that came back were
-- read, and for how many bytes
pub record LoansView : Type 0 where
  pub lent : ℕ
  pub peak : ℕ
  pub block_reads : ℕ
  pub block_asked : ℕ

-- no file was ever lent
abbrev pub no_loans : LoansView
no_loans = record { lent = 0; peak = 0; block_reads = 0; block_asked = 0 }

-- a sum that stops at the last value of a u64
abbrev pub capped_sum : ℕ → ℕ → ℕ
capped_sum n k = max n (min (n + k) (2 ^ 64 - 1))

-- one file more is out
abbrev pub lend : LoansView → LoansView
lend l = record l { lent = capped_sum l.lent 1; peak = max l.peak (capped_sum l.lent 1) }

-- a file of this kind came back, which was read so many times, for so many bytes
abbrev pub take_back : Kind → ℕ → ℕ → LoansView → LoansView
take_back kind.Block reads asked l =
    record {
      lent = l.lent - 1;
      peak = l.peak;
      block_reads = capped_sum l.block_reads reads;
      block_asked = capped_sum l.block_asked asked;
    }
take_back kind.Index reads asked l = record l { lent = l.lent - 1 }
