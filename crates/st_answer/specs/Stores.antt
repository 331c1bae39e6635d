-- What a store's calls ensure.
use Rattle.std.specs.Prelude.{◌≡◌, ◌<◌, ◌≤◌, ◌+◌, ◌⊎◌, ℕ, List, length, Option, Some, option_map, slice_index_or, Result, MatchResult, OnErr}
use Rattle.st_base.specs.Faults.{CountsOn, Rose}
use Rattle.st_disk.specs.declared.naming.Kind.{Kind}
use Rattle.st_disk.specs.Pairs.{Entry, IsFileSet}
use Rattle.st_disk.specs.Events.{Event}
use Rattle.st_shelf.specs.Origins.{FileOrigin}
use Rattle.st_shelf.specs.Loans.{LoansView, lend}
use Rattle.st_spool.specs.History.{set_of}
use Rattle.st_answer.specs.Lending.{LendsNone}
use Rattle.st_answer.specs.Sets.{KeepsSets, AddsSet, DropsSet, GoesOn}

-- What a store knows of its holds: how many were taken, how many are out, the events that it has
-- seen and those that the last hold took, and the sets that are held. What isn't known is `None`.
pub record HoldsView : Type 0 where
  pub asks : ℕ
  pub held : ℕ
  pub seen : Option (List Event)
  pub took : Option (List Event)
  pub out : Option (List (List Entry))

-- the set that the last hold took
abbrev pub asked : HoldsView → Option (List Entry)
asked h = option_map set_of h.took

-- no hold was taken and none was given back; more may have been seen
pub record KeepsHolds (before after : HoldsView) : Type 0 where
  pub asks : after.asks ≡ before.asks
  pub held : after.held ≡ before.held
  pub took : after.took ≡ before.took
  pub seen : GoesOn before.seen after.seen
  pub out : after.out ≡ before.out

-- this set was held: that of events which begin with all that were seen before
pub record TakesHold (set : Option (List Entry)) (before after : HoldsView) : Type 0 where
  pub asks : CountsOn before.asks after.asks 1
  pub held : after.held ≡ before.held + 1
  pub asked : set ≡ asked after
  pub took : GoesOn before.seen after.took
  pub seen : GoesOn before.seen after.seen
  pub out : AddsSet set before.out after.out

-- this set is no longer held
pub record GivesBack (set : Option (List Entry)) (before after : HoldsView) : Type 0 where
  pub asks : after.asks ≡ before.asks
  pub held : after.held + 1 ≡ before.held
  pub took : after.took ≡ before.took
  pub seen : GoesOn before.seen after.seen
  pub out : DropsSet set before.out after.out

-- each hold is out as often as before, and what is out stays what it is
pub record StayHeld {H : Type 0} (times_before times_after : H → ℕ)
    (size_before size_after : H → ℕ) (set_before set_after : H → Option (List Entry)) : Type 0 where
  pub times : (h : H) → times_after h ≡ times_before h
  pub size : (h : H) → 0 < times_before h → size_after h ≡ size_before h
  pub set : (h : H) → 0 < times_before h → set_after h ≡ set_before h

-- this hold is out once more, and each other as often as before; what was out stays what it is
pub record HoldsOneMore {H : Type 0} (one : H) (times_before times_after : H → ℕ)
    (size_before size_after : H → ℕ) (set_before set_after : H → Option (List Entry)) : Type 0 where
  pub more : times_after one ≡ times_before one + 1
  pub others : (h : H) → (h ≡ one) ⊎ (times_after h ≡ times_before h)
  pub size : (h : H) → 0 < times_before h → size_after h ≡ size_before h
  pub set : (h : H) → 0 < times_before h → set_after h ≡ set_before h

-- this hold is out once less, and each other as often as before; what is out stays what it is
pub record HoldsOneLess {H : Type 0} (one : H) (times_before times_after : H → ℕ)
    (size_before size_after : H → ℕ) (set_before set_after : H → Option (List Entry)) : Type 0 where
  pub less : times_after one + 1 ≡ times_before one
  pub others : (h : H) → (h ≡ one) ⊎ (times_after h ≡ times_before h)
  pub size : (h : H) → 0 < times_after h → size_after h ≡ size_before h
  pub set : (h : H) → 0 < times_after h → set_after h ≡ set_before h

-- A call that takes no hold and gives none back: the store became what its calls may make of it,
-- and its number and its holds stay what they are.
pub record IsSameStore {H : Type 0} (Became : Type 0) (id_before id_after : ℕ)
    (before after : HoldsView) (times_before times_after : H → ℕ)
    (size_before size_after : H → ℕ) (set_before set_after : H → Option (List Entry)) : Type 0 where
  pub became : Became
  pub id : id_after ≡ id_before
  pub holds : KeepsHolds before after
  pub others : StayHeld times_before times_after size_before size_after set_before set_after

-- a set that is known has this many entries, by rising stamps
abbrev pub IsSetOfSize : Option (List Entry) → ℕ → Type 0
IsSetOfSize held n =
    (entries : List Entry) → held ≡ Some entries → (length entries ≡ n) × IsFileSet entries

-- the count never falls, and a failure comes only if it rose
pub record HasFailed {T E : Type 0} (before now : ℕ) (result : Result T E) : Type 0 where
  pub later : before ≤ now
  pub failed : OnErr result (Rose before now)

-- a file of this kind that this store has just lent
pub record IsFresh (read asked_for failed : ℕ) (origin : FileOrigin) (wanted : Kind)
    (id : ℕ) : Type 0 where
  pub reads : read ≡ 0
  pub asked : asked_for ≡ 0
  pub faults : failed ≡ 0
  pub kind : origin.kind ≡ wanted
  pub home : origin.home ≡ id

-- after an Ok one file more is lent, and after an error none is
abbrev pub LendsOne : {T E : Type 0} → LoansView → LoansView → Result T E → Type 0
LendsOne before after result = MatchResult result (λ _. after ≡ lend before) (λ _. after ≡ before)

-- the holds and files that a call took are given back: the store became what its calls may make of
-- it, more may have been seen, the same sets are held, and no more files are lent
pub record IsSpent (Became : Type 0) (id_before id_after : ℕ) (before after : HoldsView)
    (loans_before loans_after : LoansView) : Type 0 where
  pub became : Became
  pub id : id_after ≡ id_before
  pub held : after.held ≡ before.held
  pub seen : GoesOn before.seen after.seen
  pub out : KeepsSets before.out after.out
  pub lent : LendsNone loans_before loans_after

-- P holds of the entry with this number in the set, counted from 0, if the set is known
abbrev pub OfEntry : Option (List Entry) → ℕ → (Entry → Type 0) → Type 0
OfEntry held i P =
    (set : List Entry) (d : Entry) → held ≡ Some set → i < length set → P (slice_index_or set i d)
