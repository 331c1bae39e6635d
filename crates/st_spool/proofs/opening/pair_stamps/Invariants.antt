use Rattle.std.proofs.Common.{◌≡◌, ◌<◌, ℕ, get_or, Contains}
use Rattle.std.specs.List.{AllPairs}
use Rattle.st_disk.specs.declared.naming.Name.{Name}
use Rattle.st_disk.specs.declared.naming.Name.TheVariants.{Block, Index}
use Rattle.st_spool.proofs.opening.pair_stamps.Given as goal

abbrev pub invariant-names : goal.invariant-names
invariant-names l = record {
  rises : AllPairs (λ s t. s < t) l.stamps.items;
  each : (s : ℕ) → Contains l.stamps.items s → (k : ℕ) × (k < l.i) × ((d : Name) → get_or l.names k d ≡ Block s) × Contains l.names (Index s);
  all : (k s : ℕ) (d : Name) → k < l.i → get_or l.names k d ≡ Block s → Contains l.names (Index s) → Contains l.stamps.items s;
}
