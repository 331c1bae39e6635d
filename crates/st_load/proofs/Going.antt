-- A load goes on from pair to pair.
use Rattle.std.specs.Prelude.{⊤}
use Rattle.std.proofs.Common.{◌≡◌, ℕ, ◌+◌, ⊎_elim, List, [], ◌∷◌, ◌++◌, length, take, append_assoc, refl, sym, ap, ◌∙◌, subst, Option, Some}
use Rattle.std.proofs.lemmas.List.{append-nil}
use Rattle.std.specs.Io.KnownBytes.{Appends}
use Rattle.std.proofs.KnownBytes.{Appends-trans}
use Rattle.st_base.specs.Records.{Rec}
use Rattle.st_disk.specs.Disks.{Log}
use Rattle.st_disk.specs.Events.{Event}
use Rattle.st_disk.specs.Pairs.{Files}
use Rattle.st_pairs.specs.Pairs.{IsWholePair}
use Rattle.st_plan.specs.declared.jobs.LanePlan.{LanePlan}
use Rattle.st_spool.specs.Standing.{StandsFor, in_doubt}
use Rattle.st_spool.specs.declared.state.Doubt.TheVariants as doubt
use Rattle.st_spool.specs.States.{SpoolState}
use Rattle.st_load.specs.Acts.{Act, line_text, events_of, lines_of, happen}
use Rattle.st_load.specs.Causes.{IsFailure}
use Rattle.st_load.specs.Filling.{IsFillFault}
use Rattle.st_load.specs.Stopping.{IsInputEnd}
use Rattle.st_load.specs.Job.{Situation, AddsAll}
use Rattle.st_load.specs.Loading.{Covered, Loads, EndsJob, WritesLines, situation}
use Rattle.st_load.specs.declared.ends.LoadEnd.{LoadEnd}
use Rattle.st_load.specs.declared.ends.LoadEnd.TheVariants as end
use Rattle.st_load.proofs.Covered.{covered_then}
use Rattle.st_load.proofs.Finishing.{none_doubted, in_doubt_none}
use Rattle.st_load.proofs.Cutting.{CutSoFar, IsFault}
use Rattle.st_load.proofs.Jobs.{events_append, lines_append}

-- lines that were written before
lines_more : (e : LoadEnd) (xs bs to_come : List Act) (a b c : Option (List ℕ)) → Appends a b (lines_of xs) → WritesLines e bs to_come b c → WritesLines e (xs ++ bs) to_come a c
lines_more end.Done xs bs to_come a b c p q = subst (Appends a c) (sym (lines_append xs bs)) (Appends-trans a b c (lines_of xs) (lines_of bs) p q)
lines_more (end.BadInput x) xs bs to_come a b c p q = subst (Appends a c) (sym (lines_append xs bs)) (Appends-trans a b c (lines_of xs) (lines_of bs) p q)
lines_more (end.TooLong n len) xs bs to_come a b c p q = subst (Appends a c) (sym (lines_append xs bs)) (Appends-trans a b c (lines_of xs) (lines_of bs) p q)
lines_more end.ReadFault xs bs to_come a b c p q = subst (Appends a c) (sym (lines_append xs bs)) (Appends-trans a b c (lines_of xs) (lines_of bs) p q)
lines_more end.WriteFault xs bs to_come a b c p (stamp, packets, later, n, is, q) = (
  stamp,
  packets,
  later,
  n,
  is,
  subst (Appends a c) (sym (append_assoc (lines_of xs) (lines_of bs) (take n (line_text stamp packets))) ∙ ap (λ ys. ys ++ take n (line_text stamp packets)) (sym (lines_append xs bs)))
      (Appends-trans a b c (lines_of xs) (lines_of bs ++ take n (line_text stamp packets)) p q),
)
lines_more end.DiskFault xs bs to_come a b c p q = subst (Appends a c) (sym (lines_append xs bs)) (Appends-trans a b c (lines_of xs) (lines_of bs) p q)
lines_more (end.StampsSpent last) xs bs to_come a b c p q = subst (Appends a c) (sym (lines_append xs bs)) (Appends-trans a b c (lines_of xs) (lines_of bs) p q)
lines_more end.NoMemory xs bs to_come a b c p q = subst (Appends a c) (sym (lines_append xs bs)) (Appends-trans a b c (lines_of xs) (lines_of bs) p q)

-- what a load did after these acts and pairs
pub loads_after : (Job Job2 : List (List Rec) → List Act → Situation → Type 0) (Are Are2 : List (List Rec) → Type 0) (e : LoadEnd) (first mid known : Option Log) (st : SpoolState) (earlier h : List Event)
    (times a b c : Option (List ℕ)) (done : List (List Rec)) (acts : List Act)
    → ((p : List (List Rec)) (more : List Act) (final : Situation) → Job2 p more final → Job (done ++ p) (acts ++ more) final)
    → ((p : List (List Rec)) → Are2 p → Are (done ++ p)) → Appends a b (lines_of acts) → Covered first mid h (events_of acts) []
    → Loads Job2 Are2 e mid known st earlier (h ++ events_of acts) times b c → Loads Job Are e first known st earlier h times a c
loads_after Job Job2 Are Are2 e first mid known st earlier h times a b c done acts jobs ares lines covered loads = record {
  pairs = done ++ loads.pairs;
  are = ares loads.pairs loads.are;
  acts = acts ++ loads.acts;
  to_come = loads.to_come;
  did = record {
    final = loads.did.final;
    job = subst (λ (xs : List Act). Job (done ++ loads.pairs) xs loads.did.final) (sym (append_assoc acts loads.acts loads.to_come)) (jobs loads.pairs (loads.acts ++ loads.to_come) loads.did.final loads.did.job);
    ends = loads.did.ends;
    lines = lines_more e acts loads.acts loads.to_come a b c lines loads.did.lines;
  };
  f = loads.f;
  stands = subst (λ x. StandsFor IsWholePair known st earlier x loads.f) (append_assoc h (events_of acts) (events_of loads.acts) ∙ ap (λ es. h ++ es) (sym (events_append acts loads.acts))) loads.stands;
  doubt = loads.doubt;
  images = subst (λ es. Covered first known h es (in_doubt st.doubt loads.f)) (sym (events_append acts loads.acts))
      (covered_then first mid known h (events_of acts) (events_of loads.acts) (in_doubt st.doubt loads.f) covered loads.images);
}

-- an end that isn't a fault of writing, after which nothing is to come and the clock was not read
abbrev pub IsQuiet : LoadEnd → Type 0
IsQuiet end.Done = ⊤
IsQuiet (end.BadInput e) = ⊤
IsQuiet (end.TooLong n len) = ⊤
IsQuiet end.ReadFault = ⊤
IsQuiet end.WriteFault = ⊥
IsQuiet end.DiskFault = ⊤
IsQuiet (end.StampsSpent last) = ⊥
IsQuiet end.NoMemory = ⊤

quiet_ends : (e : LoadEnd) (c : Situation) → IsQuiet e → EndsJob e [] c c.times
quiet_ends end.Done c q = (refl, refl)
quiet_ends (end.BadInput e) c q = (refl, refl)
quiet_ends (end.TooLong n len) c q = (refl, refl)
quiet_ends end.ReadFault c q = (refl, refl)
quiet_ends end.WriteFault c q = absurd q
quiet_ends end.DiskFault c q = tt
quiet_ends (end.StampsSpent last) c q = absurd q
quiet_ends end.NoMemory c q = tt

quiet_lines : (e : LoadEnd) (acts : List Act) (a b : Option (List ℕ)) → IsQuiet e → Appends a b (lines_of acts) → WritesLines e acts [] a b
quiet_lines end.Done acts a b q p = p
quiet_lines (end.BadInput e) acts a b q p = p
quiet_lines (end.TooLong n len) acts a b q p = p
quiet_lines end.ReadFault acts a b q p = p
quiet_lines end.WriteFault acts a b q p = absurd q
quiet_lines end.DiskFault acts a b q p = p
quiet_lines (end.StampsSpent last) acts a b q p = absurd q
quiet_lines end.NoMemory acts a b q p = p

pub input_quiet : (e : LoadEnd) → IsInputEnd e → IsQuiet e
input_quiet end.Done q = tt
input_quiet (end.BadInput e) q = tt
input_quiet (end.TooLong n len) q = tt
input_quiet end.ReadFault q = absurd q
input_quiet end.WriteFault q = absurd q
input_quiet end.DiskFault q = absurd q
input_quiet (end.StampsSpent last) q = absurd q
input_quiet end.NoMemory q = absurd q

pub fill_quiet : (e : LoadEnd) → IsFillFault e → IsQuiet e × IsFault e
fill_quiet end.Done q = absurd q
fill_quiet (end.BadInput e) q = absurd q
fill_quiet (end.TooLong n len) q = absurd q
fill_quiet end.ReadFault q = (tt, λ left. tt)
fill_quiet end.WriteFault q = absurd q
fill_quiet end.DiskFault q = (tt, λ left. tt)
fill_quiet (end.StampsSpent last) q = absurd q
fill_quiet end.NoMemory q = (tt, λ left. tt)

pub failure_fill : (e : LoadEnd) → IsFailure e → IsFillFault e
failure_fill e is = ⊎_elim (λ disk. subst IsFillFault (sym disk) tt) (λ memory. subst IsFillFault (sym memory) tt) is

-- a load that ends before a pair is begun
pub ends_between : (Job : List (List Rec) → List Act → Situation → Type 0) (Are : List (List Rec) → Type 0) (e : LoadEnd) (first known : Option Log) (st : SpoolState) (earlier h : List Event) (f : Files)
    (times old new : Option (List ℕ)) (done : List (List Rec)) (acts : List Act) → Job done acts (situation (h ++ events_of acts) st times) → Are done → IsQuiet e
    → Appends old new (lines_of acts) → StandsFor IsWholePair known st earlier (h ++ events_of acts) f → st.doubt ≡ doubt.Nothing
    → Covered first known h (events_of acts) [] → Loads Job Are e first known st earlier h times old new
ends_between Job Are e first known st earlier h f times old new done acts job are quiet lines stands no_doubt covered = record {
  pairs = done;
  are = are;
  acts = acts;
  to_come = [];
  did = record {
    final = situation (h ++ events_of acts) st times;
    job = subst (λ (xs : List Act). Job done xs (situation (h ++ events_of acts) st times)) (sym (append-nil acts)) job;
    ends = quiet_ends e (situation (h ++ events_of acts) st times) quiet;
    lines = quiet_lines e acts old new quiet lines;
  };
  f = f;
  stands = stands;
  doubt = ([], ap (λ es. happen es ++ []) (sym (none_doubted st.doubt f no_doubt)));
  images = in_doubt_none first known h (events_of acts) st.doubt f no_doubt covered;
}

-- How far a load came before the pair that this record begins. `Given` are the bytes that it has,
-- and `Read` says which records of them were read.
pub record SoFar (limit : ℕ) (layout : LanePlan) (start : Situation) (was known : Option Log) (st : SpoolState) (earlier h : List Event) (f : Files) (times old new : Option (List ℕ))
    (Given : List ℕ → Type 0) (Read : List ℕ → List Rec → Type 0) (first : Rec) (number : ℕ) : Type 0 where
  pub log : Log
  pub is : known ≡ Some log
  pub done : List (List Rec)
  pub acts : List Act
  pub adds : AddsAll limit layout.size start done acts (situation (h ++ events_of acts) st times)
  pub stands : StandsFor IsWholePair known st earlier (h ++ events_of acts) f
  pub lines : Appends old new (lines_of acts)
  pub images : Covered was known h (events_of acts) []
  pub input : (bytes : List ℕ) → Given bytes
      → (before : List Rec) × Read bytes (before ++ first ∷ []) × (number ≡ length before + 1) × CutSoFar layout.size layout.blocks done before first
