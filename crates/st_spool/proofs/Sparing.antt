-- A file that is settled leaves those of the other kind.
use Rattle.std.proofs.Common.{◌≡◌, ℕ, List, Option, None, Some, refl, sym, subst}
use Rattle.st_disk.specs.declared.naming.Kind.{Kind}
use Rattle.st_disk.specs.declared.naming.Kind.TheVariants as kind
use Rattle.st_disk.specs.declared.naming.Name.TheVariants.{Block, Index}
use Rattle.st_disk.specs.declared.changes.Call.TheVariants.{Did}
use Rattle.st_disk.specs.declared.changes.Change.TheVariants.{Settle}
use Rattle.st_disk.specs.LoggedCalls.{Spares, Parks, Reads}
use Rattle.st_disk.specs.Disks.{Log}
use Rattle.st_disk.proofs.Reading.{settle_spares}

pub index_spares : (k : Kind) (d t s : ℕ) (bytes : List ℕ) → k ≡ kind.Index → Spares (Did (Settle k d t bytes)) (Block s)
index_spares k d t s bytes of = subst (λ (j : Kind). Spares (Did (Settle j d t bytes)) (Block s)) (sym of) (settle_spares kind.Index d t bytes (Block s) refl refl)

pub block_spares : (k : Kind) (d t s : ℕ) (bytes : List ℕ) → k ≡ kind.Block → Spares (Did (Settle k d t bytes)) (Index s)
block_spares k d t s bytes of = subst (λ (j : Kind). Spares (Did (Settle j d t bytes)) (Index s)) (sym of) (settle_spares kind.Block d t bytes (Index s) refl refl)

-- an index that was parked is not read any more
pub hidden_read : (old new : Option Log) (t : ℕ) (l : Log) → old ≡ Some l → Parks old new t → Reads new (Index t) (λ v. v ≡ None)
hidden_read old new t l known parks = (parks l known).0
