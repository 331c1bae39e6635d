-- What publishing a pair comes to, by how far it came.
use Rattle.std.proofs.Common.{◌≡◌, ℕ, ◌-◌, ◌^◌, ◌<◌, inr, ⊎_elim, List, [], ◌∷◌, ◌++◌, length, append_assoc, refl, sym, ap, ◌∙◌, subst, Option, Some, None, Err}
use Rattle.std.proofs.lemmas.List.{append-nil}
use Rattle.std.specs.Io.KnownBytes.{Appends}
use Rattle.std.proofs.KnownBytes.{Appends-nil}
use Rattle.st_base.specs.Records.{Rec}
use Rattle.st_base.specs.Ticks.{Ticks}
use Rattle.st_disk.specs.Disks.{Log}
use Rattle.st_disk.specs.Events.{Event, Publish}
use Rattle.st_disk.specs.Folders.{given}
use Rattle.st_disk.specs.Pairs.{Entry, Files}
use Rattle.st_lane.specs.Sealing.{AreWhole}
use Rattle.st_pairs.specs.Pairs.{IsWholePair}
use Rattle.st_spool.specs.History.{set_of}
use Rattle.st_spool.specs.Settling.{entry}
use Rattle.st_spool.specs.Publishing.{next_stamp, failed, FailsToPublish}
use Rattle.st_spool.specs.Standing.{StandsFor, NoDoubtUntilHalted, failed_event, in_doubt}
use Rattle.st_rows.specs.Whole.{IsWhole}
use Rattle.st_block.specs.BlockText.{BlockText}
use Rattle.st_spool.specs.States.{SpoolState}
use Rattle.st_spool.specs.declared.state.Doubt.{Doubt}
use Rattle.st_spool.specs.declared.state.Doubt.TheVariants as doubt
use Rattle.st_spool.proofs.Histories.{set_more}
use Rattle.st_load.specs.Acts.{Act, Happens, Writes, line_text, events_of, lines_of, happen, removals, newest}
use Rattle.st_load.specs.Job.{Situation, Adds, AddsAll}
use Rattle.st_load.specs.Loading.{Covered, Loads, EndsJob, WritesLines, situation}
use Rattle.st_load.specs.Publishing.{Ages, AgesAll, AreAdded, AddsPair, WritesLine}
use Rattle.st_load.specs.declared.ends.LoadEnd.{LoadEnd}
use Rattle.st_load.specs.declared.ends.LoadEnd.TheVariants as end
use Rattle.st_load.proofs.Covered.{covered_then}
use Rattle.st_load.proofs.Jobs.{events_happen, lines_happen, happen_append, add_one}

-- the bytes of sealed files, known or not
pub whole_given : (size : ℕ) (rs : List Rec) (b i : Option (List ℕ)) → AreWhole size rs b i → AreWhole size rs (Some (given b)) (Some (given i))
whole_given size rs b i w = record {
  text = ap Some (ap given w.text);
  table = w.table;
  indexed = ap Some (ap given w.indexed);
  given = w.given;
  records = w.records;
  whole = w.whole;
}

pub whole_pair : (size : ℕ) (rs : List Rec) (b i : Option (List ℕ)) → AreWhole size rs b i → IsWholePair (given b) (given i)
whole_pair size rs b i w = (
  w.given,
  subst (λ (x : List ℕ). IsWhole x (given i) w.given) (sym (ap given w.text))
      (subst (λ (x : List ℕ). IsWhole (BlockText size rs) x w.given) (sym (ap given w.indexed)) w.whole),
)

-- the file set after a publication
pub set_publish : (h : List Event) (e : Entry) → set_of (h ++ Publish e ∷ []) ≡ set_of h ++ e ∷ []
set_publish h e = set_more [] h (Publish e)

pub none_doubted : (d : Doubt) (f : Files) → d ≡ doubt.Nothing → failed_event d f ≡ []
none_doubted d f is = ap (λ (x : Doubt). failed_event x f) is

no_doubt_at : (halted : Option ℕ) (d : Doubt) (halts : ℕ) → NoDoubtUntilHalted halted d halts → halted ≡ None → d ≡ doubt.Nothing
no_doubt_at None d halts no_doubt is = no_doubt.0
no_doubt_at (Some n) d halts no_doubt is = absurd (cc)

-- in a spool that has not failed nothing is in doubt
pub no_doubt : (known : Option Log) (st : SpoolState) (earlier h : List Event) (f : Files) → StandsFor IsWholePair known st earlier h f → st.halted ≡ None → st.doubt ≡ doubt.Nothing
no_doubt known st earlier h f stands runs = no_doubt_at st.halted st.doubt st.halts stands.no_doubt runs

pub no_doubt_doubt : (known : Option Log) (st : SpoolState) (earlier h : List Event) (f k : Files) → StandsFor IsWholePair known st earlier h f → st.halted ≡ None → failed_event st.doubt k ≡ []
no_doubt_doubt known st earlier h f k stands runs = none_doubted st.doubt k (no_doubt known st earlier h f stands runs)

-- a doubt that isn't there
pub in_doubt_none : (before known : Option Log) (h es : List Event) (d : Doubt) (f : Files) → d ≡ doubt.Nothing → Covered before known h es [] → Covered before known h es (in_doubt d f)
in_doubt_none before known h es d f is covered = subst (λ (x : Doubt). Covered before known h es (in_doubt x f)) (sym is) covered

-- nothing was done
pub nothing_done : (Job : List (List Rec) → List Act → Situation → Type 0) (Are : List (List Rec) → Type 0) (e : LoadEnd) (before known : Option Log) (st : SpoolState) (earlier h : List Event) (f : Files)
    (times old new : Option (List ℕ)) (final : Situation) → Job [] [] final → Are [] → EndsJob e [] final times → WritesLines e [] [] old new
    → StandsFor IsWholePair known st earlier h f → st.doubt ≡ doubt.Nothing → Covered before known h [] [] → Loads Job Are e before known st earlier h times old new
nothing_done Job Are e before known st earlier h f times old new final job are ends lines stands no_doubt covered = record {
  pairs = [];
  are = are;
  acts = [];
  to_come = [];
  did = record { final = final; job = job; ends = ends; lines = lines };
  f = f;
  stands = subst (λ x. StandsFor IsWholePair known st earlier x f) (sym (append-nil h)) stands;
  doubt = ([], ap (λ es. happen es ++ []) (sym (none_doubted st.doubt f no_doubt)));
  images = in_doubt_none before known h [] st.doubt f no_doubt covered;
}

module _ (limit size : ℕ) (before : SpoolState) (earlier h : List Event) (rs : List Rec) (was times : Option (List ℕ)) (floor : ℕ) (e : Entry)
    (left : before.last < 2 ^ 64 - 1) (ticks : Ticks was times floor) (stamp : e.stamp ≡ next_stamp before.last floor)
    (whole : AreWhole size rs (Some e.block) (Some e.index)) where
  abbrev start : Situation
  start = situation h before was

  abbrev gone : List Event
  gone = removals limit (set_of h ++ e ∷ [])

  abbrev all_acts : List Act
  all_acts = Happens (Publish e) ∷ Writes e.stamp (length rs) ∷ happen gone

  abbrev final : Situation
  final = record { set = newest limit (set_of h ++ e ∷ []); last = e.stamp; times = times }

  adds_final : Adds limit size start final rs all_acts
  adds_final = record { floor = floor; ticks = ticks; left = left; e = e; stamp = stamp; whole = whole; set = refl; last = refl; acts_are = refl }

  -- what ageing removes is what the job asks for
  same_gone : (l : ℕ) → l ≡ limit → removals l (set_of (h ++ Publish e ∷ [])) ≡ gone
  same_gone l is = ap (λ n. removals n (set_of (h ++ Publish e ∷ []))) is ∙ ap (removals limit) (set_publish h e)

  same_newest : (l : ℕ) → l ≡ limit → newest l (set_of (h ++ Publish e ∷ [])) ≡ newest limit (set_of h ++ e ∷ [])
  same_newest l is = ap (λ n. newest n (set_of (h ++ Publish e ∷ []))) is ∙ ap (newest limit) (set_publish h e)

  same_history : (es : List Event) → h ++ (Publish e ∷ events_of (happen es)) ≡ (h ++ Publish e ∷ []) ++ es
  same_history es = ap (λ xs. h ++ (Publish e ∷ xs)) (events_happen es) ∙ sym (append_assoc h (Publish e ∷ []) es)

  line_alone : (es : List Event) → line_text e.stamp (length rs) ≡ lines_of (Happens (Publish e) ∷ Writes e.stamp (length rs) ∷ happen es)
  line_alone es = sym (append-nil (line_text e.stamp (length rs))) ∙ ap (λ xs. line_text e.stamp (length rs) ++ xs) (sym (lines_happen es))

  -- all was done
  pub finish_all : (first mid known : Option Log) (st : SpoolState) (f : Files) (old new : Option (List ℕ)) → Covered first mid h (Publish e ∷ []) [] → AgesAll mid known st earlier (h ++ Publish e ∷ []) f
      → st.limit ≡ limit → st.last ≡ e.stamp → Appends old new (line_text e.stamp (length rs))
      → AddsPair limit size start rs first known st earlier h f times old new
  finish_all first mid known st f old new covered ages lim last line =
      let gone_is = same_gone st.limit lim in
      let is : h ++ events_of all_acts ≡ (h ++ Publish e ∷ []) ++ removals st.limit (set_of (h ++ Publish e ∷ [])) =
      same_history gone ∙ ap (λ es. (h ++ Publish e ∷ []) ++ es) (sym gone_is) in
      record {
        acts = all_acts;
        adds = record {
          floor = floor;
          ticks = ticks;
          left = left;
          e = e;
          stamp = stamp;
          whole = whole;
          set = ap set_of is ∙ ages.set ∙ same_newest st.limit lim;
          last = last;
          acts_are = refl;
        };
        stands = subst (λ x. StandsFor IsWholePair known st earlier x f) (sym is) ages.stands;
        lines = subst (Appends old new) (line_alone gone) line;
        images = subst (λ es. Covered first known h (Publish e ∷ es) []) (gone_is ∙ sym (events_happen gone))
            (covered_then first mid known h (Publish e ∷ []) (removals st.limit (set_of (h ++ Publish e ∷ []))) [] covered ages.images);
      }

  -- a removal failed
  pub finish_some : (first mid known : Option Log) (st : SpoolState) (old new : Option (List ℕ)) → Covered first mid h (Publish e ∷ []) [] → Ages mid known st earlier (h ++ Publish e ∷ [])
      → st.limit ≡ limit → Appends old new (line_text e.stamp (length rs))
      → Loads (AddsAll limit size start) (AreAdded rs end.DiskFault) end.DiskFault first known st earlier h times old new
  finish_some first mid known st old new covered ages lim line =
      let acts_of : List Act = Happens (Publish e) ∷ Writes e.stamp (length rs) ∷ happen ages.events in
      let is : all_acts ≡ acts_of ++ happen ages.to_come =
      ap (λ (xs : List Act). Happens (Publish e) ∷ Writes e.stamp (length rs) ∷ xs) (ap happen (sym (same_gone st.limit lim) ∙ ages.are) ∙ happen_append ages.events ages.to_come) in
      record {
        pairs = rs ∷ [];
        are = inr refl;
        acts = acts_of;
        to_come = happen ages.to_come;
        did = record {
          final = final;
          job = subst (λ (xs : List Act). AddsAll limit size start (rs ∷ []) xs final) is (add_one limit size start final rs all_acts adds_final);
          ends = tt;
          lines = subst (Appends old new) (line_alone ages.events) line;
        };
        f = ages.f;
        stands = subst (λ x. StandsFor IsWholePair known st earlier x ages.f) (sym (same_history ages.events)) ages.stands;
        doubt = (happen ages.later, ap happen ages.doubt ∙ happen_append (failed_event st.doubt ages.f) ages.later);
        images = subst (λ es. Covered first known h (Publish e ∷ es) (in_doubt st.doubt ages.f)) (sym (events_happen ages.events))
            (covered_then first mid known h (Publish e ∷ []) ages.events (in_doubt st.doubt ages.f) covered ages.images);
      }

  -- the line was not written, or not whole
  pub finish_line : (failed : LoadEnd) (first known : Option Log) (st : SpoolState) (f : Files) (old new : Option (List ℕ)) → Covered first known h (Publish e ∷ []) [] → StandsFor IsWholePair known st earlier (h ++ Publish e ∷ []) f
      → st.doubt ≡ doubt.Nothing → WritesLine e.stamp (length rs) old new (Err failed)
      → Loads (AddsAll limit size start) (AreAdded rs failed) failed first known st earlier h times old new
  finish_line failed first known st f old new covered stands no_doubt line = ⊎_elim
      (λ (memory, same). subst (λ (x : LoadEnd). Loads (AddsAll limit size start) (AreAdded rs x) x first known st earlier h times old new) (sym memory) (record {
        pairs = rs ∷ [];
        are = inr refl;
        acts = Happens (Publish e) ∷ [];
        to_come = Writes e.stamp (length rs) ∷ happen gone;
        did = record {
          final = final;
          job = add_one limit size start final rs all_acts adds_final;
          ends = tt;
          lines = subst (λ x. Appends old x []) (sym same) (Appends-nil old);
        };
        f = f;
        stands = stands;
        doubt = (Writes e.stamp (length rs) ∷ happen gone, ap (λ es. happen es ++ Writes e.stamp (length rs) ∷ happen gone) (sym (none_doubted st.doubt f no_doubt)));
        images = in_doubt_none first known h (Publish e ∷ []) st.doubt f no_doubt covered;
      }))
      (λ (fault, (n, some)). subst (λ (x : LoadEnd). Loads (AddsAll limit size start) (AreAdded rs x) x first known st earlier h times old new) (sym fault) (record {
        pairs = rs ∷ [];
        are = inr refl;
        acts = Happens (Publish e) ∷ [];
        to_come = Writes e.stamp (length rs) ∷ happen gone;
        did = record {
          final = final;
          job = add_one limit size start final rs all_acts adds_final;
          ends = refl;
          lines = (e.stamp, length rs, happen gone, n, refl, some);
        };
        f = f;
        stands = stands;
        doubt = (Writes e.stamp (length rs) ∷ happen gone, ap (λ es. happen es ++ Writes e.stamp (length rs) ∷ happen gone) (sym (none_doubted st.doubt f no_doubt)));
        images = in_doubt_none first known h (Publish e ∷ []) st.doubt f no_doubt covered;
      }))
      line

  -- the publication failed
  pub finish_none : (first known : Option Log) (st : SpoolState) (f : Files) (old : Option (List ℕ)) → Covered first known h [] (in_doubt st.doubt f) → StandsFor IsWholePair known st earlier h f
      → failed_event st.doubt f ≡ Publish e ∷ []
      → Loads (AddsAll limit size start) (AreAdded rs end.DiskFault) end.DiskFault first known st earlier h times old old
  finish_none first known st f old covered stands is = record {
    pairs = rs ∷ [];
    are = inr refl;
    acts = [];
    to_come = all_acts;
    did = record {
      final = final;
      job = add_one limit size start final rs all_acts adds_final;
      ends = tt;
      lines = Appends-nil old;
    };
    f = f;
    stands = subst (λ x. StandsFor IsWholePair known st earlier x f) (sym (append-nil h)) stands;
    doubt = (Writes e.stamp (length rs) ∷ happen gone, ap (λ es. happen es ++ Writes e.stamp (length rs) ∷ happen gone) (sym is));
    images = covered;
  }

-- which publication is in doubt
pub doubted : (old new : SpoolState) (t since : ℕ) (p : Files) → FailsToPublish old new t since → failed_event new.doubt p ≡ Publish (entry t p) ∷ []
doubted old new t since p fails = ⊎_elim
    (λ is. ap (λ (x : SpoolState). failed_event x.doubt p) is)
    (λ is. ap (λ (x : SpoolState). failed_event x.doubt p) is)
    fails
