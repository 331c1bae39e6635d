use Rattle.std.proofs.Common.{◌≡◌, ◌<◌, ℕ, get_or}
use Rattle.st_spool.specs.declared.state.Span.{Span}
use Rattle.st_spool.proofs.sweeping.place_of.Given as goal

abbrev pub invariant-holds : goal.invariant-holds
invariant-holds l = (k : ℕ) (d : Span) → k < l.i → get_or l.holds k d ≡ l.hold → ⊥
