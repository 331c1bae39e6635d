-- The steps of a load over its pairs.
use Rattle.std.specs.Prelude.{All}
use Rattle.std.proofs.Common.{◌≡◌, ℕ, ◌+◌, ◌≤◌, List, [], ◌∷◌, ◌++◌, length, length-append, append_assoc, refl, sym, ap, ◌∙◌, subst, arith, Option, None}
use Rattle.std.proofs.lemmas.List.{append-nil}
use Rattle.std.proofs.KnownBytes.{Appends-trans}
use Rattle.std.specs.Io.KnownBytes.{Appends}
use Rattle.st_base.specs.Records.{Rec}
use Rattle.st_block.specs.BlockText.{IsShort, blocks}
use Rattle.st_disk.specs.Disks.{Log}
use Rattle.st_disk.specs.Events.{Event}
use Rattle.st_disk.specs.Pairs.{Files}
use Rattle.st_lane.specs.Cut.{EndsList}
use Rattle.st_pairs.specs.Pairs.{IsWholePair}
use Rattle.st_plan.specs.declared.jobs.LanePlan.{LanePlan}
use Rattle.st_spool.specs.Publishing.{Keeps}
use Rattle.st_spool.specs.Standing.{StandsFor}
use Rattle.st_spool.specs.States.{SpoolState}
use Rattle.st_load.specs.Acts.{Act, events_of, lines_of}
use Rattle.st_load.specs.Job.{Situation, AddsAll}
use Rattle.st_load.specs.Loading.{Covered, Loads, situation}
use Rattle.st_load.specs.Publishing.{AddsPair, AreAdded}
use Rattle.st_load.specs.declared.ends.LoadEnd.{LoadEnd}
use Rattle.st_load.proofs.Covered.{covered_then, covered_keeps}
use Rattle.st_load.proofs.Cutting.{cut_on}
use Rattle.st_load.proofs.Finishing.{no_doubt}
use Rattle.st_load.proofs.Going.{SoFar, IsQuiet, loads_after, ends_between}
use Rattle.st_load.proofs.Jobs.{events_append, lines_append, add_more, add_one}

module _ (limit : ℕ) (layout : LanePlan) (start : Situation) (was : Option Log) (earlier h : List Event) (f : Files) (old : Option (List ℕ)) (Given : List ℕ → Type 0) where
  -- calls that change no pair
  pub sofar_keeps : (known now : Option Log) (st after : SpoolState) (times new : Option (List ℕ)) (Read : List ℕ → List Rec → Type 0) (first : Rec) (number : ℕ)
      (s : SoFar limit layout start was known st earlier h f times old new Given Read first number) → st.halted ≡ None → after ≡ st → Keeps IsWholePair known now after earlier (h ++ events_of s.acts) f
      → SoFar limit layout start was now after earlier h f times old new Given Read first number
  sofar_keeps known now st after times new Read first number s runs same keeps =
      let quiet = no_doubt known st earlier (h ++ events_of s.acts) f s.stands runs in
      let kept : Keeps IsWholePair known now st earlier (h ++ events_of s.acts) f = subst (λ (x : SpoolState). Keeps IsWholePair known now x earlier (h ++ events_of s.acts) f) same keeps in
      let run = keeps.images s.log s.is in
      record {
        log = run.log;
        is = run.is;
        done = s.done;
        acts = s.acts;
        adds = subst (λ (x : SpoolState). AddsAll limit layout.size start s.done s.acts (situation (h ++ events_of s.acts) x times)) (sym same) s.adds;
        stands = keeps.stands;
        lines = s.lines;
        images = subst (λ es. Covered was now h es []) (append-nil (events_of s.acts))
            (covered_then was known now h (events_of s.acts) [] [] s.images (covered_keeps known now st earlier (h ++ events_of s.acts) f s.stands quiet kept));
        input = s.input;
      }

  module _ (known : Option Log) (st : SpoolState) (times new : Option (List ℕ)) (Read : List ℕ → List Rec → Type 0) (first : Rec) (number : ℕ)
      (s : SoFar limit layout start was known st earlier h f times old new Given Read first number) where
    -- the load ends here
    pub sofar_ends : (Are : List (List Rec) → Type 0) (e : LoadEnd) → st.halted ≡ None → IsQuiet e → Are s.done
        → Loads (AddsAll limit layout.size start) Are e was known st earlier h times old new
    sofar_ends Are e runs quiet are =
        ends_between (AddsAll limit layout.size start) Are e was known st earlier h f times old new s.done s.acts s.adds are quiet s.lines s.stands
        (no_doubt known st earlier (h ++ events_of s.acts) f s.stands runs) s.images

    mid : Situation
    mid = situation (h ++ events_of s.acts) st times

    on : (p : List (List Rec)) (more : List Act) (final : Situation) → AddsAll limit layout.size (situation (h ++ events_of s.acts) st times) p more final → AddsAll limit layout.size start (s.done ++ p) (s.acts ++ more) final
    on p more final adds = add_more limit layout.size start (situation (h ++ events_of s.acts) st times) final s.done p s.acts more s.adds adds

    -- or while a pair is finished
    pub sofar_fails : (Are : List (List Rec) → Type 0) (e : LoadEnd) (now : Option Log) (after : SpoolState) (later more : Option (List ℕ)) (rs : List Rec)
        → Loads (AddsAll limit layout.size (situation (h ++ events_of s.acts) st times)) (AreAdded rs e) e known now after earlier (h ++ events_of s.acts) later new more
        → ((p : List (List Rec)) → AreAdded rs e p → Are (s.done ++ p))
        → Loads (AddsAll limit layout.size start) Are e was now after earlier h later old more
    sofar_fails Are e now after later more rs loads are =
        loads_after (AddsAll limit layout.size start) (AddsAll limit layout.size (situation (h ++ events_of s.acts) st times)) Are (AreAdded rs e) e was known now after earlier h later old new more s.done s.acts
        on are s.lines s.images loads

    -- or after it
    pub sofar_last : (Are : List (List Rec) → Type 0) (e : LoadEnd) (now : Option Log) (after : SpoolState) (later more : Option (List ℕ)) (rs : List Rec)
        → AddsPair limit layout.size (situation (h ++ events_of s.acts) st times) rs known now after earlier (h ++ events_of s.acts) f later new more → after.halted ≡ None → IsQuiet e
        → Are (s.done ++ rs ∷ []) → Loads (AddsAll limit layout.size start) Are e was now after earlier h later old more
    sofar_last Are e now after later more rs pair runs quiet are =
        loads_after (AddsAll limit layout.size start) (AddsAll limit layout.size (situation (h ++ events_of s.acts) st times)) Are (λ (p : List (List Rec)). p ≡ rs ∷ []) e was known now after earlier h later old new more s.done s.acts
        on (λ p is. subst (λ (x : List (List Rec)). Are (s.done ++ x)) (sym is) are) s.lines s.images
        (ends_between (AddsAll limit layout.size (situation (h ++ events_of s.acts) st times)) (λ (p : List (List Rec)). p ≡ rs ∷ []) e known now after earlier (h ++ events_of s.acts) f later new more (rs ∷ []) pair.acts
        (add_one limit layout.size (situation (h ++ events_of s.acts) st times) (situation ((h ++ events_of s.acts) ++ events_of pair.acts) after later) rs pair.acts pair.adds) refl quiet pair.lines pair.stands
        (no_doubt now after earlier ((h ++ events_of s.acts) ++ events_of pair.acts) f pair.stands runs) pair.images)

    -- the next pair begins
    pub sofar_next : (now : Option Log) (after : SpoolState) (later more : Option (List ℕ)) (Next : List ℕ → List Rec → Type 0) (others : List Rec) (r : Rec) (records : ℕ)
        → AddsPair limit layout.size (situation (h ++ events_of s.acts) st times) (first ∷ others) known now after earlier (h ++ events_of s.acts) f later new more
        → records ≡ length (first ∷ others)
        → All (IsShort layout.size) (first ∷ others) → length (blocks layout.size (first ∷ others)) ≤ layout.blocks
        → EndsList layout.size layout.blocks (first ∷ others) r → IsShort layout.size r
        → ((bytes : List ℕ) (given : List Rec) → Read bytes (given ++ first ∷ []) → Next bytes (given ++ (first ∷ others ++ r ∷ [])))
        → SoFar limit layout start was now after earlier h f later old more Given Next r (number + records)
    sofar_next now after later more Next others r records pair count short fits ends next reads =
        let run = pair.images s.log s.is in
        let one = add_one limit layout.size (situation (h ++ events_of s.acts) st times) (situation ((h ++ events_of s.acts) ++ events_of pair.acts) after later) (first ∷ others) pair.acts pair.adds in
        let history : (h ++ events_of s.acts) ++ events_of pair.acts ≡ h ++ events_of (s.acts ++ pair.acts) =
        append_assoc h (events_of s.acts) (events_of pair.acts) ∙ ap (λ es. h ++ es) (sym (events_append s.acts pair.acts)) in
        record {
          log = run.0;
          is = run.1;
          done = s.done ++ (first ∷ others) ∷ [];
          acts = s.acts ++ pair.acts;
          adds = subst (λ x. AddsAll limit layout.size start (s.done ++ (first ∷ others) ∷ []) (s.acts ++ pair.acts) (situation x after later)) history
              (on ((first ∷ others) ∷ []) pair.acts (situation ((h ++ events_of s.acts) ++ events_of pair.acts) after later) one);
          stands = subst (λ x. StandsFor IsWholePair now after earlier x f) history pair.stands;
          lines = subst (Appends old more) (sym (lines_append s.acts pair.acts)) (Appends-trans old new more (lines_of s.acts) (lines_of pair.acts) s.lines pair.lines);
          images = subst (λ es. Covered was now h es []) (sym (events_append s.acts pair.acts))
              (covered_then was known now h (events_of s.acts) (events_of pair.acts) [] s.images pair.images);
          input = λ bytes given.
              let (before, read, is, cut) = s.input bytes given in
              let n = length-append before (first ∷ others) in (
                before ++ first ∷ others,
                subst (Next bytes) (sym (append_assoc before (first ∷ others) (r ∷ []))) (reads bytes before read),
                omega (arith, is, count, n),
                cut_on layout.size layout.blocks s.done before first others r cut short fits ends next,
              );
        }
