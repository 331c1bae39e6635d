-- Calls on a spool that change no pair, one after the other.
use Rattle.std.proofs.Common.{◌≡◌, ℕ, List, [], Option, None, Some, sym, ap, ◌∙◌, subst}
use Rattle.std.specs.Prelude.{IsSome}
use Rattle.st_disk.specs.Disks.{Log}
use Rattle.st_disk.specs.Events.{Event}
use Rattle.st_disk.specs.Folders.{given}
use Rattle.st_disk.specs.Pairs.{Files}
use Rattle.st_disk.proofs.Runs.{ran_then, known_then}
use Rattle.st_pairs.specs.Pairs.{IsWholePair}
use Rattle.st_shelf.specs.declared.shelves.SealedPair.{SealedPair}
use Rattle.st_spool.specs.Publishing.{Keeps, RanAsBefore, MayPublish}
use Rattle.st_spool.specs.Refusing.{RefusesPair}
use Rattle.st_spool.specs.Standing.{Gives, in_doubt}
use Rattle.st_spool.specs.States.{SpoolState, SpoolView}
use Rattle.st_spool.specs.declared.refusals.PublishErr.{PublishErr}
use Rattle.st_spool.specs.declared.refusals.PublishErr.TheVariants as publish
use Rattle.st_spool.specs.declared.state.Doubt.{Doubt}
use Rattle.st_load.specs.Lanes.{KeepsSpool}

keeps_then : (a b c : Option Log) (st next : SpoolState) (earlier h : List Event) (f : Files) → next.doubt ≡ st.doubt
    → Keeps IsWholePair a b st earlier h f → Keeps IsWholePair b c next earlier h f → Keeps IsWholePair a c next earlier h f
keeps_then a b c st next earlier h f same one two = record {
  known = known_then a b c one.known two.known;
  stands = two.stands;
  images = λ first known.
      let run : RanAsBefore first b h (in_doubt next.doubt f) = subst (λ (d : Doubt). RanAsBefore first b h (in_doubt d f)) (sym same) (one.images first known) in
      ran_then first b c [] [] (Gives h (in_doubt next.doubt f)) (Gives h (in_doubt next.doubt f)) (Gives h (in_doubt next.doubt f)) run (two.images run.log run.is);
}

pub kept_then : {D : Type 0} (log : D → Option Log) (a b c : SpoolView D) → KeepsSpool log a b → KeepsSpool log b c → KeepsSpool log a c
kept_then {D} log a b c one two = record {
  keeps = λ earlier h f stands.
      let first = one.keeps earlier h f stands in
      keeps_then (log a.shelf) (log b.shelf) (log c.shelf) b.state c.state earlier h f (ap (λ (v : SpoolView D). v.state.doubt) two.state) first (two.keeps earlier h f first.stands);
  state = two.state ∙ ap (λ (v : SpoolView D). record v { shelf = c.shelf }) one.state;
}

-- an empty draft of a shelf whose log is known
pub known_empty : (o : Option (List ℕ)) → given o ≡ [] → IsSome o → o ≡ Some []
known_empty (Some x) none some = ap Some none
known_empty None none some = absurd (cc)

-- what a refusal leaves, and after what a fault comes
pub spent_same : {D T S : Type 0} (old new : SpoolView D) (pair : SealedPair T S) (e : PublishErr T S) (last : ℕ) (back : SealedPair T S) → e ≡ publish.StampsSpent last back → RefusesPair old new pair e → new ≡ old
spent_same {D} {T} {S} old new pair e last back is refuses = (subst (λ (x : PublishErr T S). RefusesPair old new pair x) is refuses).3

pub fault_may : {D T S : Type 0} (old new : SpoolView D) (pair : SealedPair T S) (e : PublishErr T S) → e ≡ publish.DiskFault → RefusesPair old new pair e → MayPublish old.state
fault_may {D} {T} {S} old new pair e is refuses = subst (λ (x : PublishErr T S). RefusesPair old new pair x) is refuses
