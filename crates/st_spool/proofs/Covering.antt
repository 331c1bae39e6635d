-- Runs of calls through which a history goes on.
use Rattle.std.proofs.Common.{◌≡◌, ◌≤◌, suc, List, [], ◌∷◌, ◌++◌, length, take, Option, Some, sym, ◌∙◌, subst, inl, ⊎_elim, arith, append_assoc}
use Rattle.std.proofs.lemmas.List.{append-nil}
use Rattle.st_disk.specs.Folders.{Folder}
use Rattle.st_disk.specs.Disks.{Log, reads}
use Rattle.st_disk.specs.Events.{Event, Found}
use Rattle.st_disk.specs.Runs.{Each, LeavesOnly, Ran}
use Rattle.st_disk.specs.Pairs.{Entry, PairsIn}
use Rattle.st_disk.proofs.Moments.{since_now}
use Rattle.st_disk.proofs.Reading.{known_log}
use Rattle.st_disk.proofs.Runs.{started, weaken, only_then}
use Rattle.st_spool.specs.History.{set_of}
use Rattle.st_spool.specs.Standing.{Gives}
use Rattle.st_spool.specs.Publishing.{RanTo, RanAsBefore}
use Rattle.st_spool.specs.Entering.{Is, SamePairs, pairs_alone, flushed_log}
use Rattle.st_spool.specs.Covers.{Covers, HasSome, CoversAll, CoversOpening, CoversOn, CoversStill, CoversFault, CoversDoubt, CoversMore, CoversWithoutDoubt}

-- a run ends at the log that is known
run_only : (a b : Log) (known : Option Log) (es : List Event) (P Q : Folder → Type 0) → Ran a known es P Q → known ≡ Some b → LeavesOnly a b P
run_only a b known es P Q run is = subst (λ (l : Log). LeavesOnly a l P) (known_log run.log b (sym run.is ∙ is)) run.only

run_each : (a b : Log) (known : Option Log) (es : List Event) (P Q : Folder → Type 0) → Ran a known es P Q → known ≡ Some b → Each b Q
run_each a b known es P Q run is = subst (λ (l : Log). Each l Q) (known_log run.log b (sym run.is ∙ is)) run.each

-- a crash at the end is one since the beginning
at_end : (a b : Log) (P : Folder → Type 0) → LeavesOnly a b P → Each b P
at_end a b P only c left = only.since c (since_now b _ c only.later left)

moved : (a b : List Event) (c : Folder) → a ≡ b → Gives a [] c → Gives b [] c
moved a b c same gives = subst (λ (h : List Event). Gives h [] c) same gives

-- the history with one event, and then the others
one_first : (h es : List Event) (e : Event) → (h ++ e ∷ []) ++ es ≡ h ++ e ∷ es
one_first h es e = append_assoc h (e ∷ []) es

pub covers_end : (h es : List Event) (first now : Log) → Covers h es first now → Each now (Gives (h ++ es) [])
covers_end h [] first now covers c left = moved h (h ++ []) c (sym (append-nil h)) (at_end first now (Gives h []) covers c left)
covers_end h (e ∷ es) first now covers c left = moved ((h ++ e ∷ []) ++ es) (h ++ e ∷ es) c (one_first h es e) (covers_end (h ++ e ∷ []) es covers.1 now covers.4 c left)

some_none : (h es : List Event) (c : Folder) → Gives h [] c → HasSome h es c
some_none h es c gives = (0, omega arith, moved h (h ++ []) c (sym (append-nil h)) gives)

some_more : (h es : List Event) (e : Event) (c : Folder) → HasSome (h ++ e ∷ []) es c → HasSome h (e ∷ es) c
some_more h es e c has = let le : has.0 ≤ length es = has.1 in (suc has.0, omega arith, moved ((h ++ e ∷ []) ++ take has.0 es) (h ++ e ∷ take has.0 es) c (one_first h (take has.0 es) e) has.2)

some_either : (h es : List Event) (e : Event) (c : Folder) → Gives h (e ∷ []) c → HasSome h (e ∷ es) c
some_either h es e c either =
    ⊎_elim (λ (was : PairsIn c (set_of h)). some_none h (e ∷ es) c was)
    (λ (now : PairsIn c (set_of (h ++ e ∷ []))). some_more h es e c (some_none (h ++ e ∷ []) es c now)) either

covers_some : (h es : List Event) (first now : Log) → Covers h es first now → LeavesOnly first now (HasSome h es)
covers_some h [] first now covers = weaken first now (Gives h []) (HasSome h []) (λ c gives. some_none h [] c gives) covers
covers_some h (e ∷ es) first now covers =
    only_then first covers.1 now (HasSome h (e ∷ es))
    (only_then first covers.0 covers.1 (HasSome h (e ∷ es))
    (weaken first covers.0 (Gives h []) (HasSome h (e ∷ es)) (λ c gives. some_none h (e ∷ es) c gives) covers.2)
    (weaken covers.0 covers.1 (Gives h (e ∷ [])) (HasSome h (e ∷ es)) (λ c gives. some_either h es e c gives) covers.3))
    (weaken covers.1 now (HasSome (h ++ e ∷ []) es) (HasSome h (e ∷ es)) (λ c has. some_more h es e c has) (covers_some (h ++ e ∷ []) es covers.1 now covers.4))

pub covers_all : CoversAll
covers_all h es first now covers = (covers_some h es first now covers, covers_end h es first now covers)

-- what has the pairs that were read has those that were found
found_given : (f : Folder) (pairs : List Entry) (c : Folder) → PairsIn f pairs → SamePairs f c → Gives (Found pairs ∷ []) [] c
found_given f pairs c found same = record { rises = found.rises; each = λ s. found.each s ∙ sym (same s) }

pub covers_opening : CoversOpening
covers_opening pairs first now known found clears is =
    weaken (flushed_log first) now (SamePairs (reads first)) (Gives (Found pairs ∷ []) []) (λ c same. found_given (reads first) pairs c found same)
    (run_only (flushed_log first) now known [] (SamePairs (reads first)) (Is (pairs_alone (reads first))) clears.cleared is)

-- more calls at the end
pub covers_still : CoversStill
covers_still h [] first mid now known covers run is =
    only_then first mid now (Gives h []) covers
    (weaken mid now (Gives (h ++ []) []) (Gives h []) (λ c gives. moved (h ++ []) h c (append-nil h) gives) (run_only mid now known [] (Gives (h ++ []) []) (Gives (h ++ []) []) run is))
covers_still h (e ∷ es) first mid now known covers run is = (
  covers.0,
  covers.1,
  covers.2,
  covers.3,
  covers_still (h ++ e ∷ []) es covers.1 mid now known covers.4
      (subst (λ (g : List Event). RanAsBefore mid known g []) (sym (one_first h es e)) run) is,
)

pub covers_on : CoversOn
covers_on h [] e first mid now known covers run is =
    let same = append-nil h in
    let here : RanTo mid known h e = subst (λ (g : List Event). RanTo mid known g e) same run in
    let P = Gives h (e ∷ []) in
    let Q : Folder → Type 0 = λ c. PairsIn c (set_of (h ++ e ∷ [])) in (
      mid,
      now,
      covers,
      run_only mid now known (e ∷ []) (Gives h (e ∷ [])) (λ c. PairsIn c (set_of (h ++ e ∷ []))) here is,
      started now (Gives (h ++ e ∷ []) []) (run_each mid now known (e ∷ []) (Gives h (e ∷ [])) (λ c. PairsIn c (set_of (h ++ e ∷ []))) here is),
    )
covers_on h (d ∷ ds) e first mid now known covers run is = (
  covers.0,
  covers.1,
  covers.2,
  covers.3,
  covers_on (h ++ d ∷ []) ds e covers.1 mid now known covers.4
      (subst (λ (g : List Event). RanTo mid known g e) (sym (one_first h ds d)) run) is,
)

pub covers_fault : CoversFault
covers_fault h es doubt first mid now known covers run is =
    record { sure = mid; covers = covers; since = run_only mid now known doubt (Gives (h ++ es) doubt) (Gives (h ++ es) doubt) run is }

pub covers_doubt : CoversDoubt
covers_doubt h es doubt first mid now known covers run is =
    record {
      sure = covers.sure;
      covers = covers.covers;
      since = only_then covers.sure mid now (Gives (h ++ es) doubt) covers.since (run_only mid now known [] (Gives (h ++ es) doubt) (Gives (h ++ es) doubt) run is);
    }

either_of : (h doubt : List Event) (c : Folder) → Gives h [] c → Gives h doubt c
either_of h [] c gives = gives
either_of h (e ∷ es) c gives = inl gives

pub covers_more : CoversMore
covers_more h es doubt first now covers =
    record {
      sure = now;
      covers = covers;
      since = started now (Gives (h ++ es) doubt) (λ c left. either_of (h ++ es) doubt c (covers_end h es first now covers c left));
    }

-- calls that leave the same at the end
covers_then : (h es : List Event) (first mid now : Log) → Covers h es first mid → LeavesOnly mid now (Gives (h ++ es) []) → Covers h es first now
covers_then h [] first mid now covers more = only_then first mid now (Gives h []) covers (weaken mid now (Gives (h ++ []) []) (Gives h []) (λ c gives. moved (h ++ []) h c (append-nil h) gives) more)
covers_then h (e ∷ es) first mid now covers more =
    (covers.0, covers.1, covers.2, covers.3, covers_then (h ++ e ∷ []) es covers.1 mid now covers.4 (subst (λ (g : List Event). LeavesOnly mid now (Gives g [])) (sym (one_first h es e)) more))

pub covers_without_doubt : CoversWithoutDoubt
covers_without_doubt h es first now covers = covers_then h es first covers.sure now covers.covers covers.since
