-- The calls of a spool that read a hold, as its own contracts say them, of the spool before and
-- after.
use Rattle.std.specs.Prelude.{◌≡◌, ℕ, List, ◌∷◌, drop, length, Option, Some, Result, IfOk}
use Rattle.st_base.specs.Faults.{HasCause}
use Rattle.st_disk.specs.declared.naming.Kind.{Kind}
use Rattle.st_disk.specs.Disks.{Log}
use Rattle.st_disk.specs.Pairs.{Entry, Files}
use Rattle.st_disk.specs.Events.{Event}
use Rattle.st_shelf.specs.Ends.{TakesFaults}
use Rattle.st_shelf.specs.Loans.{LoansView, take_back}
use Rattle.st_shelf.specs.Origins.{FileOrigin}
use Rattle.st_spool.specs.declared.refusals.DiskFault.{DiskFault}
use Rattle.st_spool.specs.declared.state.Span.{Span}
use Rattle.st_spool.specs.Holding.{size_of}
use Rattle.st_spool.specs.Lending.{IsLent}
use Rattle.st_spool.specs.Standing.{StandsFor}
use Rattle.st_spool.specs.States.{SpoolView, held}
use Rattle.st_turn.specs.SpoolCalls.{StaysAs}

module _ {D : Type 0} (W : List ℕ → List ℕ → Type 0) (log : D → Option Log) (faults home : D → ℕ)
    (loans : D → LoansView) (v w : SpoolView D) where
  -- the number of pairs in a hold
  pub record TellsCount (hold : Span) (result : ℕ) : Type 0 where
    pub same : w ≡ v
    pub count : result ≡ size_of hold
    pub held_is : (earlier h : List Event) (f : Files)
        → StandsFor W (log v.shelf) v.state earlier h f → result ≡ length (held hold h)

  -- the stamp of the `i`-th pair of a hold, counted from 0 in the order of stamps
  pub record TellsStamp (hold : Span) (i result : ℕ) : Type 0 where
    pub same : w ≡ v
    pub stamp_is : (earlier h : List Event) (f : Files) (e : Entry) (after : List Entry)
        → StandsFor W (log v.shelf) v.state earlier h f
        → drop i (held hold h) ≡ e ∷ after → result ≡ e.stamp

  -- the file of this kind of the `i`-th pair of a hold, counted from 0 in the order of stamps, was
  -- lent, or the shelf failed and none was
  pub record Lends {F : Type 0} (kind : Kind) (part : Entry → List ℕ)
      (content : F → Option (List ℕ)) (origin : F → FileOrigin) (reads asked file_faults : F → ℕ)
      (hold : Span) (i : ℕ) (result : Result F DiskFault) : Type 0 where
    pub stays : StaysAs W log faults home loans v w
    pub content_is : (l : Log) (earlier h : List Event) (f : Files) (e : Entry)
        (after : List Entry) → log v.shelf ≡ Some l
        → StandsFor W (log v.shelf) v.state earlier h f
        → drop i (held hold h) ≡ e ∷ after → IfOk result (λ file. content file ≡ Some (part e))
    pub lent : IsLent kind origin reads asked file_faults (home v.shelf) (loans v.shelf)
        (loans w.shelf) result
    pub cause : HasCause (faults v.shelf) (faults w.shelf) result

  -- a file came back
  pub record TakesFile {F : Type 0} (origin : F → FileOrigin) (reads asked file_faults : F → ℕ)
      (file : F) : Type 0 where
    pub stays : StaysAs W log faults home loans v w
    pub cause : TakesFaults (file_faults file) (faults v.shelf) (faults w.shelf)
    pub loans_are : loans w.shelf
        ≡ take_back (origin file).kind (reads file) (asked file) (loans v.shelf)
