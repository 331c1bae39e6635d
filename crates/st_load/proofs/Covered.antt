-- What crashes leave over several calls.
use Rattle.std.proofs.Common.{◌≡◌, List, [], ◌∷◌, ◌++◌, append_assoc, sym, subst, Option, Some}
use Rattle.std.proofs.lemmas.List.{append-nil}
use Rattle.st_disk.specs.Disks.{Log}
use Rattle.st_disk.specs.Events.{Event}
use Rattle.st_disk.specs.Pairs.{Files}
use Rattle.st_disk.specs.Runs.{Each, LeavesOnly, Ran}
use Rattle.st_disk.proofs.Runs.{started, only_then}
use Rattle.st_pairs.specs.Pairs.{IsWholePair}
use Rattle.st_spool.specs.Covers.{Covers, CoversInDoubt}
use Rattle.st_spool.specs.Publishing.{RanTo, RanInDoubt, Keeps}
use Rattle.st_spool.specs.Standing.{StandsFor, Gives, in_doubt}
use Rattle.st_spool.specs.States.{SpoolState}
use Rattle.st_spool.specs.declared.state.Doubt.TheVariants as doubt
use Rattle.st_spool.proofs.Covering.{covers_on, covers_still, covers_fault, covers_more, covers_without_doubt}
use Rattle.st_spool.proofs.Giving.{gives}
use Rattle.st_load.specs.Loading.{Covered}

begin_earlier : (h fs : List Event) (a b c : Log) → LeavesOnly a b (Gives h []) → Covers h fs b c → Covers h fs a c
begin_earlier h [] a b c one covers = only_then a b c (Gives h []) one covers
begin_earlier h (e ∷ fs) a b c one (begins, done, before, on, later) = (begins, done, only_then a b begins (Gives h []) one before, on, later)

covers_then : (h es fs : List Event) (a b c : Log) → Covers h es a b → Covers (h ++ es) fs b c → Covers h (es ++ fs) a c
covers_then h [] fs a b c one two = begin_earlier h fs a b c one (subst (λ xs. Covers xs fs b c) (append-nil h) two)
covers_then h (e ∷ es) fs a b c (begins, done, before, on, later) two =
    (begins, done, before, on, covers_then (h ++ e ∷ []) es fs done b c later (subst (λ xs. Covers xs fs b c) (sym (append_assoc h (e ∷ []) es)) two))

pub covers_join : (h es fs doubt : List Event) (a b c : Log) → Covers h es a b → CoversInDoubt (h ++ es) fs doubt b c → CoversInDoubt h (es ++ fs) doubt a c
covers_join h es fs doubt a b c one later = record {
  sure = later.sure;
  covers = covers_then h es fs a b later.sure one later.covers;
  since = subst (λ xs. LeavesOnly later.sure c (Gives xs doubt)) (append_assoc h es fs) later.since;
}

-- one run after the other
pub covered_then : (a b c : Option Log) (h es fs doubt : List Event) → Covered a b h es [] → Covered b c (h ++ es) fs doubt → Covered a c h (es ++ fs) doubt
covered_then a b c h es fs doubt one two = λ first is.
    let (mid, known, cover) = one first is in
    let (now, known_now, later) = two mid known in
    (now, known_now, covers_join h es fs doubt first mid now (covers_without_doubt h es first mid cover) later)

-- before the first call
pub covered_none : (known : Option Log) (st : SpoolState) (earlier h : List Event) (f : Files) → StandsFor IsWholePair known st earlier h f → st.doubt ≡ doubt.Nothing
    → Covered known known h [] []
covered_none known st earlier h f stands no_doubt = λ first is.
    let each : Each first (Gives h (in_doubt st.doubt f)) = λ c left. gives IsWholePair known st earlier h f stands c ((stands.disk first is).images c left) in
    let sure : Each first (Gives h []) = subst (λ d. Each first (Gives h (in_doubt d f))) no_doubt each in
    (first, is, covers_more h [] [] first first (started first (Gives h []) sure))

-- a publication or a removal
pub covered_on : (a b c : Option Log) (h es : List Event) (e : Event) → Covered a b h es [] → ((mid : Log) → b ≡ Some mid → RanTo mid c (h ++ es) e) → Covered a c h (es ++ e ∷ []) []
covered_on a b c h es e one ran = λ first is.
    let (mid, known, cover) = one first is in
    let run = ran mid known in
    (run.log, run.is, covers_more h (es ++ e ∷ []) [] first run.log (covers_on h es e first mid run.log c (covers_without_doubt h es first mid cover) run run.is))

-- one that failed
pub covered_fault : (a b c : Option Log) (h es doubt : List Event) → Covered a b h es [] → ((mid : Log) → b ≡ Some mid → RanInDoubt mid c (h ++ es) doubt) → Covered a c h es doubt
covered_fault a b c h es doubt one ran = λ first is.
    let (mid, known, cover) = one first is in
    let run = ran mid known in
    (run.log, run.is, covers_fault h es doubt first mid run.log c (covers_without_doubt h es first mid cover) run run.is)

-- calls without an event
pub covered_keeps : (known new : Option Log) (st : SpoolState) (earlier h : List Event) (f : Files) → StandsFor IsWholePair known st earlier h f → st.doubt ≡ doubt.Nothing
    → Keeps IsWholePair known new st earlier h f → Covered known new h [] []
covered_keeps known new st earlier h f stands no_doubt keeps = λ first is.
    let (mid, same, cover) = covered_none known st earlier h f stands no_doubt first is in
    let run = subst (λ d. Ran mid new [] (Gives h (in_doubt d f)) (Gives h (in_doubt d f))) no_doubt (keeps.images mid same) in
    let moved = subst (λ xs. Ran mid new [] (Gives xs []) (Gives xs [])) (sym (append-nil h)) run in
    (run.log, run.is, covers_more h [] [] first run.log (covers_still h [] first mid run.log new (covers_without_doubt h [] first mid cover) moved run.is))
