-- A load of a shelf.
use Rattle.std.proofs.Common.{◌≡◌, ◌≤◌, ℕ, ◌⊎◌, inl, inr, ⊎_elim, List, [], ◌∷◌, ◌++◌, length, arith, append_assoc, refl, sym, ap, ◌∙◌, subst, Option, Some, None}
use Rattle.std.proofs.lemmas.List.{append-nil}
use Rattle.std.specs.Io.KnownBytes.{Appends}
use Rattle.st_disk.specs.Disks.{Log, reads}
use Rattle.st_disk.specs.Events.{Event, Found, events}
use Rattle.st_disk.specs.Pairs.{Files, PairsIn}
use Rattle.st_pairs.specs.Pairs.{IsWholePair}
use Rattle.st_plan.specs.declared.jobs.LanePlan.{LanePlan}
use Rattle.st_spool.specs.Covers.{CoversInDoubt}
use Rattle.st_spool.specs.Entering.{Enters, flushed_log}
use Rattle.st_spool.specs.History.{Legal, set_of}
use Rattle.st_spool.specs.Standing.{StandsFor, failed_event, in_doubt}
use Rattle.st_spool.specs.States.{SpoolState}
use Rattle.st_spool.specs.declared.opening.EnterErr.{EnterErr}
use Rattle.st_spool.specs.declared.opening.EnterErr.TheVariants as enter
use Rattle.st_spool.specs.declared.state.Doubt.{Doubt}
use Rattle.st_spool.specs.declared.state.Doubt.TheVariants as doubt
use Rattle.st_spool.proofs.Covering.{covers_opening}
use Rattle.st_load.specs.Acts.{Act, events_of, lines_of, happen}
use Rattle.st_load.specs.Causes.{IsFailure, EndsUnopened}
use Rattle.st_load.specs.Job.{IsJob}
use Rattle.st_load.specs.Loading.{Loads, EndsJob, AreCutFrom, WritesLines, situation}
use Rattle.st_load.specs.Opening.{LoadsOpened, LoadsShelf}
use Rattle.st_load.specs.Publishing.{KeepsLimitAndHolds}
use Rattle.st_load.specs.declared.ends.LoadEnd.{LoadEnd}
use Rattle.st_load.specs.declared.ends.LoadEnd.TheVariants as end
use Rattle.st_load.proofs.Covered.{covers_join}
use Rattle.st_load.proofs.Finishing.{no_doubt}
use Rattle.st_load.proofs.Jobs.{events_append, lines_append, events_happen, lines_happen}
use Rattle.st_load.proofs.ReadBack.{read_set}

-- the event in doubt, if there is one, is that of the call that failed
in_doubt_or : (d : Doubt) (f : Files) → (in_doubt d f ≡ []) ⊎ (in_doubt d f ≡ failed_event d f)
in_doubt_or doubt.Nothing f = inl refl
in_doubt_or (doubt.Unsettled t) f = inl refl
in_doubt_or (doubt.Settled t) f = inr refl
in_doubt_or (doubt.Unhidden t) f = inl refl
in_doubt_or (doubt.Hidden t) f = inr refl

pub at_most_one : (d : Doubt) (f : Files) → length (in_doubt d f) ≤ 1
at_most_one doubt.Nothing f = omega arith
at_most_one (doubt.Unsettled t) f = omega arith
at_most_one (doubt.Settled t) f = omega arith
at_most_one (doubt.Unhidden t) f = omega arith
at_most_one (doubt.Hidden t) f = omega arith

is_disk : (e : LoadEnd) → (e ≡ end.DiskFault) ⊎ (e ≡ end.DiskFault → ⊥)
is_disk end.Done = inr (λ is. absurd (cc))
is_disk (end.BadInput x) = inr (λ is. absurd (cc))
is_disk (end.TooLong n len) = inr (λ is. absurd (cc))
is_disk end.ReadFault = inr (λ is. absurd (cc))
is_disk end.WriteFault = inr (λ is. absurd (cc))
is_disk end.DiskFault = inl refl
is_disk (end.StampsSpent last) = inr (λ is. absurd (cc))
is_disk end.NoMemory = inr (λ is. absurd (cc))

module _ (limit : ℕ) (layout : LanePlan) (first : Log) (mid known : Option Log) (left times times_now old new : Option (List ℕ)) (e : LoadEnd) (st before : SpoolState)
    (entered : Enters IsWholePair first mid before) (lim : st.limit ≡ limit)
    (l : Loads (IsJob limit layout.size (situation (Found entered.pairs ∷ []) before times)) (λ pairs. (bytes : List ℕ) → left ≡ Some bytes → AreCutFrom layout bytes e pairs) e mid known st (events first) (Found entered.pairs ∷ []) times_now old new) where
  abbrev h : List Event
  h = Found entered.pairs ∷ []

  -- the run since both folders were flushed
  pub ran : (now : Log) × (known ≡ Some now) × CoversInDoubt h (events_of l.acts) (in_doubt st.doubt l.f) (flushed_log first) now
  ran =
      let cleared = entered.images.cleared in
      let one = covers_opening entered.pairs first cleared.log mid entered.found entered.images cleared.is in
      let (now, is, more) = l.images cleared.log cleared.is in
      (now, is, covers_join h [] (events_of l.acts) (in_doubt st.doubt l.f) (flushed_log first) cleared.log now one more)

  pub past : (now : Log) → known ≡ Some now → events now ≡ events first ++ (events_of l.acts ++ in_doubt st.doubt l.f)
  past now is = (l.stands.disk now is).past

  pub read : (now : Log) → known ≡ Some now → PairsIn (reads now) (set_of ((h ++ events_of l.acts) ++ in_doubt st.doubt l.f))
  read now is = read_set IsWholePair known st (events first) (h ++ events_of l.acts) l.f l.stands now is

  -- no event is in doubt
  abbrev pub opened_sure : in_doubt st.doubt l.f ≡ [] → LoadsOpened limit layout first known left times times_now old new e
  opened_sure none = record {
    found = entered.pairs;
    are_found = entered.found;
    last = before.last;
    greatest = entered.last;
    pairs = l.pairs;
    are = l.are;
    acts = l.acts;
    to_come = l.to_come;
    did = l.did;
    log = ran.0;
    is = ran.1;
    past = past ran.0 ran.1 ∙ ap (λ es. events first ++ es) (ap (λ es. events_of l.acts ++ es) none ∙ append-nil (events_of l.acts));
    legal = subst (λ n. Legal n (h ++ events_of l.acts)) lim l.stands.legal;
    set = subst (λ (es : List Event). PairsIn (reads ran.0) (set_of es)) (ap (λ (es : List Event). (h ++ events_of l.acts) ++ es) none ∙ append-nil (h ++ events_of l.acts)) (read ran.0 ran.1);
    flushed = entered.images.flushed;
    sure = events_of l.acts;
    doubt = in_doubt st.doubt l.f;
    events_are = sym (ap (λ es. events_of l.acts ++ es) none ∙ append-nil (events_of l.acts));
    at_most_one = at_most_one st.doubt l.f;
    no_doubt = λ other. none;
    images = ran.2;
  }

  -- an event is in doubt
  pub opened_doubt : e ≡ end.DiskFault → in_doubt st.doubt l.f ≡ failed_event st.doubt l.f → LoadsOpened limit layout first known left times times_now old new e
  opened_doubt disk some =
      let (now, is, covers) = ran in
      let d = failed_event st.doubt l.f in
      let later = l.doubt.0 in
      let evs : events_of (l.acts ++ happen d) ≡ events_of l.acts ++ d = events_append l.acts (happen d) ∙ ap (λ es. events_of l.acts ++ es) (events_happen d) in
      let lines : lines_of l.acts ≡ lines_of (l.acts ++ happen d) =
      sym (append-nil (lines_of l.acts)) ∙ ap (λ xs. lines_of l.acts ++ xs) (sym (lines_happen d)) ∙ sym (lines_append l.acts (happen d)) in
      record {
        found = entered.pairs;
        are_found = entered.found;
        last = before.last;
        greatest = entered.last;
        pairs = l.pairs;
        are = l.are;
        acts = l.acts ++ happen d;
        to_come = later;
        did = record {
          final = l.did.final;
          job = subst (λ (xs : List Act). IsJob limit layout.size (situation h before times) l.pairs xs l.did.final)
              (ap (λ (xs : List Act). l.acts ++ xs) l.doubt.1 ∙ sym (append_assoc l.acts (happen d) later)) l.did.job;
          ends = subst (λ (x : LoadEnd). EndsJob x later l.did.final times_now) (sym disk) tt;
          lines = subst (λ (x : LoadEnd). WritesLines x (l.acts ++ happen d) later old new) (sym disk)
              (subst (Appends old new) lines (subst (λ (x : LoadEnd). WritesLines x l.acts l.to_come old new) disk l.did.lines));
        };
        log = now;
        is = is;
        past = past now is ∙ ap (λ es. events first ++ es) (ap (λ es. events_of l.acts ++ es) some ∙ sym evs);
        legal = subst (λ n. Legal n (h ++ events_of (l.acts ++ happen d))) lim
            (subst (λ es. Legal st.limit (h ++ es)) (sym evs) (subst (λ es. Legal st.limit es) (append_assoc h (events_of l.acts) d) l.stands.more));
        set = subst (λ (es : List Event). PairsIn (reads now) (set_of es))
            (ap (λ (es : List Event). (h ++ events_of l.acts) ++ es) some ∙ append_assoc h (events_of l.acts) d ∙ ap (λ (es : List Event). h ++ es) (sym evs)) (read now is);
        flushed = entered.images.flushed;
        sure = events_of l.acts;
        doubt = in_doubt st.doubt l.f;
        events_are = evs ∙ ap (λ es. events_of l.acts ++ es) (sym some);
        at_most_one = at_most_one st.doubt l.f;
        no_doubt = λ other. absurd (other disk);
        images = covers;
      }

  pub opened : ((e ≡ end.DiskFault → ⊥) → st.doubt ≡ doubt.Nothing) → LoadsOpened limit layout first known left times times_now old new e
  opened quiet = ⊎_elim
      (λ disk. ⊎_elim (λ none. opened_sure none) (λ some. opened_doubt disk some) (in_doubt_or st.doubt l.f))
      (λ other. opened_sure (ap (λ (x : Doubt). in_doubt x l.f) (quiet other)))
      (is_disk e)

-- a load into the spool that was opened is a load of the shelf
pub load_opened : (limit : ℕ) (layout : LanePlan) (first : Log) (mid known : Option Log) (left times times_now old new : Option (List ℕ)) (e : LoadEnd) (st before : SpoolState) → Enters IsWholePair first mid before
    → before.limit ≡ limit → KeepsLimitAndHolds before st → ((e ≡ end.DiskFault → ⊥) → st.halted ≡ None)
    → ((log : Log) (earlier h : List Event) (f : Files) → mid ≡ Some log → StandsFor IsWholePair mid before earlier h f
    → Loads (IsJob before.limit layout.size (situation h before times)) (λ pairs. (bytes : List ℕ) → left ≡ Some bytes → AreCutFrom layout bytes e pairs) e mid known st earlier h times_now old new)
    → LoadsShelf limit layout first known left times times_now old new e
load_opened limit layout first mid known left times times_now old new e st before entered lim keeps runs job =
    let none : Files = record { block = []; index = [] } in
    let h = Found entered.pairs ∷ [] in
    let one = job entered.images.cleared.log (events first) h none entered.images.cleared.is (entered.stands none) in
    let l = subst (λ (n : ℕ). Loads (IsJob n layout.size (situation h before times)) (λ pairs. (bytes : List ℕ) → left ≡ Some bytes → AreCutFrom layout bytes e pairs) e mid known st (events first) h times_now old new) lim one in
    inl (opened limit layout first mid known left times times_now old new e st before entered (keeps.0 ∙ lim) l (λ other. no_doubt known st (events first) (h ++ events_of l.acts) l.f l.stands (runs other)))

-- a shelf that was not opened
pub unopened_fails : (cause : EnterErr) (e : LoadEnd) → EndsUnopened cause e → IsFailure e
unopened_fails enter.DiskFault e is = inl is
unopened_fails enter.NoMemory e is = inr is
