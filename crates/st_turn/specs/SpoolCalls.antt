-- The calls of a spool, as its own contracts say them, of the spool before and after.
use Rattle.std.specs.Prelude.{◌≡◌, ◌≤◌, ◌+◌, ◌⊎◌, ◌↔◌, ℕ, List, [], ◌∷◌, Option, None, Result, Ok, Err, IfOk, IsErrOf, MatchResult, true, false, Bool}
use Rattle.st_base.specs.Faults.{HasCause, HasCauseOf, Rose}
use Rattle.st_disk.specs.declared.naming.Kind.{Kind}
use Rattle.st_disk.specs.Disks.{Log}
use Rattle.st_disk.specs.Folders.{given}
use Rattle.st_disk.specs.Pairs.{Entry, Files}
use Rattle.st_disk.specs.Events.{Event}
use Rattle.st_shelf.specs.Origins.{DraftOrigin}
use Rattle.st_shelf.specs.Ends.{end_faults, TakesFaults}
use Rattle.st_shelf.specs.Loans.{LoansView}
use Rattle.st_shelf.specs.declared.shelves.SealedPair.{SealedPair}
use Rattle.st_shelf.specs.declared.shelves.End.{End}
use Rattle.st_spool.specs.declared.state.Span.{Span}
use Rattle.st_spool.specs.declared.refusals.DiskFault.{DiskFault}
use Rattle.st_spool.specs.declared.refusals.AgeErr.{AgeErr}
use Rattle.st_spool.specs.declared.refusals.AgeErr.TheVariants as age
use Rattle.st_spool.specs.declared.refusals.PublishErr.{PublishErr}
use Rattle.st_spool.specs.declared.refusals.PublishErr.TheVariants as publish
use Rattle.st_turn.specs.declared.refusals.SharedPublishErr.{SharedPublishErr}
use Rattle.st_turn.specs.declared.refusals.SharedPublishErr.TheVariants as shared
use Rattle.st_spool.specs.History.{set_of}
use Rattle.st_spool.specs.States.{SpoolView, held}
use Rattle.st_spool.specs.Standing.{StandsFor, Stands}
use Rattle.st_spool.specs.Settling.{files, entry}
use Rattle.st_spool.specs.Publishing.{next_stamp, MayPublish, published as with_pair, FailsToPublish, Publishes, Fails, Keeps}
use Rattle.st_spool.specs.Aging.{pair_count, MayAge, Ages, AgesTo}
use Rattle.st_spool.specs.Refusing.{RefusesPair, RefusesAge}
use Rattle.st_spool.specs.Holding.{whole_set, with_hold, IsWithout, Sweeps}
use Rattle.st_turn.specs.Spools.{KeepsOf}

-- an ageing that failed, and so stopped the spool
abbrev pub age_stopped : Result Bool AgeErr → Bool
age_stopped (Ok b) = false
age_stopped (Err age.DiskFault) = true
age_stopped (Err (age.Halted since)) = false

-- a publication that failed, and so stopped the spool
abbrev pub publish_stopped : {T S : Type 0} → Result ℕ (PublishErr T S) → Bool
publish_stopped (Ok s) = false
publish_stopped (Err publish.DiskFault) = true
publish_stopped (Err (publish.Halted since pair)) = false
publish_stopped (Err (publish.StampsSpent last pair)) = false

-- the answer of a spool's publication, in the words of a shared one
abbrev pub told : {T S : Type 0} → Result ℕ (PublishErr T S) → Result ℕ (SharedPublishErr T S)
told (Ok s) = Ok s
told (Err publish.DiskFault) = Err shared.DiskFault
told (Err (publish.Halted since pair)) = Err (shared.Halted since pair)
told (Err (publish.StampsSpent last pair)) = Err (shared.StampsSpent last pair)

-- a spool as a turn finds it: it stands for a history, and keeps what it must of the spool as it
-- was shared
pub record IsAtHome {D : Type 0} (W : List ℕ → List ℕ → Type 0) (log : D → Option Log)
    (faults home : D → ℕ) (base v : SpoolView D) : Type 0 where
  pub stands : Stands W (log v.shelf) v.state
  pub keeps : KeepsOf log faults home base v

module _ {D : Type 0} (W : List ℕ → List ℕ → Type 0) (log : D → Option Log) (faults home : D → ℕ)
    (loans : D → LoansView) (v w : SpoolView D) where
  -- a call without an event: the spool stands for its history as before, and at most its shelf
  -- changed
  pub record StaysAs : Type 0 where
    pub keeps : (earlier h : List Event) (f : Files)
        → StandsFor W (log v.shelf) v.state earlier h f
        → Keeps W (log v.shelf) (log w.shelf) w.state earlier h f
    pub state : w ≡ record v { shelf = w.shelf }
    pub shelf : home w.shelf ≡ home v.shelf

  -- a draft of this kind was made, or none
  pub record Creates {T : Type 0} (origin : T → DraftOrigin) (written : T → Option (List ℕ))
      (draft_faults : T → ℕ) (kind : Kind) (result : Result T DiskFault) : Type 0 where
    pub stays : StaysAs
    pub origin_is : IfOk result (λ d. ((origin d).kind ≡ kind)
        × ((origin d).home ≡ home v.shelf))
    pub empty : IfOk result (λ d. (given (written d) ≡ []) × (draft_faults d ≡ 0))
    pub cause : HasCause (faults v.shelf) (faults w.shelf) result
    pub loans_are : loans w.shelf ≡ loans v.shelf

  -- a draft, sealed or not, was given up
  pub record Abandons {T S : Type 0} (draft_faults : T → ℕ) (sealed_faults : S → ℕ)
      (end : End T S) : Type 0 where
    pub stays : StaysAs
    pub cause : TakesFaults (end_faults draft_faults sealed_faults end)
        (faults v.shelf) (faults w.shelf)
    pub loans_are : loans w.shelf ≡ loans v.shelf

  -- the set at home is held, or memory ran out and nothing changed
  pub record Holds {E : Type 0} (result : Result Span E) : Type 0 where
    pub stands : (earlier h : List Event) (f : Files)
        → StandsFor W (log v.shelf) v.state earlier h f
        → StandsFor W (log w.shelf) w.state earlier h f
    pub held_is : (earlier h : List Event) (f : Files)
        → StandsFor W (log v.shelf) v.state earlier h f → IfOk result (λ k. held k h ≡ set_of h)
    pub state : MatchResult result
        (λ k. (k ≡ whole_set v.state) × (w ≡ record v { state = with_hold v.state }))
        (λ e. w ≡ v)

  -- a hold was given back, and the spool tried to remove the files of the removed pairs that no
  -- hold has
  pub record Releases (hold : Span) : Type 0 where
    pub keeps : (earlier h : List Event) (f : Files)
        → StandsFor W (log v.shelf) v.state earlier h f
        → Keeps W (log v.shelf) (log w.shelf) w.state earlier h f
    pub without : IsWithout hold v.state.holds w.state.holds
    pub state : w ≡ record v {
      shelf = w.shelf;
      state = record v.state { holds = w.state.holds; swept = w.state.swept };
    }
    pub sweeps : Sweeps (log w.shelf) v.state.stamps w.state.holds v.state.swept w.state.swept
        v.state.removed (faults v.shelf) (faults w.shelf)
    pub cause : faults v.shelf ≤ faults w.shelf
    pub rest : (home w.shelf ≡ home v.shelf) × (loans w.shelf ≡ loans v.shelf)

  -- the oldest pair was removed, or there is none above the limit, or the ageing was refused or
  -- failed
  pub record AgesBy (result : Result Bool AgeErr) : Type 0 where
    pub aged : (earlier h : List Event) (f : Files) (e : Entry) (after : List Entry)
        → MayAge v.state → StandsFor W (log v.shelf) v.state earlier h f → set_of h ≡ e ∷ after
        → Ages W (log v.shelf) (log w.shelf) w.state earlier h e f result
    pub state : MayAge v.state → AgesTo v.state w.state (faults w.shelf) result
    pub sweeps : result ≡ Ok true → Sweeps (log w.shelf) v.state.stamps v.state.holds
        v.state.swept w.state.swept (v.state.removed + 1) (faults v.shelf) (faults w.shelf)
    pub small : v.state.halted ≡ None → (result ≡ Ok false) ↔ (pair_count v.state ≤ v.state.limit)
    pub same : result ≡ Ok false → w ≡ v
    pub refused : MatchResult result (λ b. v.state.halted ≡ None) (λ e. RefusesAge v w e)
    pub cause : (faults v.shelf ≤ faults w.shelf)
        × (IsErrOf result age.DiskFault → Rose (faults v.shelf) (faults w.shelf))
    pub rest : (home w.shelf ≡ home v.shelf) × (loans w.shelf ≡ loans v.shelf)
        × (w.spare ≡ v.spare) × (w.state.holds ≡ v.state.holds)

  -- a pair was published under a stamp of `floor` or above, or it was refused, or it failed
  pub record PublishesBy {T S : Type 0} (bytes : S → Option (List ℕ)) (pair : SealedPair T S)
      (floor : ℕ) (result : Result ℕ (PublishErr T S)) : Type 0 where
    pub published : (earlier h : List Event) (f : Files) → MayPublish v.state
        → StandsFor W (log v.shelf) v.state earlier h f
        → MatchResult result
        (λ s. Publishes W (log v.shelf) (log w.shelf) w.state earlier h
        (entry s (files (given (bytes pair.block)) (given (bytes pair.index)))) f)
        (λ e. Fails W (log v.shelf) (log w.shelf) w.state earlier h
        (files (given (bytes pair.block)) (given (bytes pair.index))))
    pub state : MayPublish v.state → MatchResult result
        (λ s. (s ≡ next_stamp v.state.last floor) × (w.state ≡ with_pair v.state s))
        (λ e. (e ≡ publish.DiskFault) × FailsToPublish v.state w.state
        (next_stamp v.state.last floor) (faults w.shelf))
    pub refused : MatchResult result (λ s. MayPublish v.state) (λ e. RefusesPair v w pair e)
    pub cause : HasCauseOf publish.DiskFault (faults v.shelf) (faults w.shelf) result
    pub rest : (home w.shelf ≡ home v.shelf) × (loans w.shelf ≡ loans v.shelf)
        × (w.state.holds ≡ v.state.holds)

  -- a shared publication: the spool's, or memory ran out before it, and nothing changed
  abbrev pub SharedPublishes : {T S : Type 0} → (S → Option (List ℕ)) → SealedPair T S → ℕ
      → Result ℕ (SharedPublishErr T S) → Type 0
  SharedPublishes {T} {S} bytes pair floor result =
      ((answer : Result ℕ (PublishErr T S)) × (result ≡ told answer)
      × PublishesBy bytes pair floor answer)
      ⊎ ((result ≡ Err (shared.NoMemory pair)) × (w ≡ record v { spare = w.spare }))
