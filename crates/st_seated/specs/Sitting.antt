-- Which passes may be stores, as the function of `laws` ensures.
use Rattle.std.specs.Prelude.{◌≡◌, ℕ, [], Option}
use Rattle.st_disk.specs.Disks.{Log}
use Rattle.st_disk.specs.Events.{Event}
use Rattle.st_spool.specs.declared.state.Span.{Span}
use Rattle.st_turn.specs.Parts.{Facts}
use Rattle.st_turn.specs.Passes.{PassView, SharedView, Met}
use Rattle.st_turn.specs.Steps.{starts}
use Rattle.st_seated.specs.Seats.{IsSeatable}

-- each pass of a shared spool may be a store as it starts
abbrev pub StartsSeatable : Type 0 → Type 0
StartsSeatable S =
    (known : Option Log) (s : SharedView S) (p : PassView S) (h : Facts Event Span)
    (number passes made : ℕ) → p.table ≡ s.table
    → p.state ≡ starts s.base h number passes made → IsSeatable known s p

-- each pass that may be a store, and holds nothing, may be one after it met another pass
abbrev pub MeetsSeatable : Type 0 → Type 0
MeetsSeatable S =
    (known : Option Log) (s : SharedView S) (p o q : PassView S) → p.state.held ≡ []
    → IsSeatable known s p → Met p o q → IsSeatable known s q
