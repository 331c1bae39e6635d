-- From what loading and asking came to, to what a drill of a spool did.
use Rattle.std.specs.Prelude.{String, string_bytes, count_by, nat_eq}
use Rattle.std.specs.Global.{Global}
use Rattle.std.proofs.Common.{◌≡◌, ◌≤◌, ℕ, ◌⊎◌, inl, inr, List, [], ◌∷◌, ◌++◌, length, All, Option, None, Some, Result, Ok, Err, refl, sym, ap, ◌∙◌, subst, arith, append-nil}
use Rattle.std.proofs.KnownBytes.{Appends-nil}
use Rattle.st_base.specs.Records.{Rec}
use Rattle.st_block.specs.BlockText.{IsShort}
use Rattle.st_disk.specs.Disks.{Log}
use Rattle.st_disk.specs.Events.{Event, events}
use Rattle.st_disk.specs.Pairs.{Entry, Files}
use Rattle.st_pairs.specs.Pairs.{IsWholePair as IsWhole}
use Rattle.st_pcap.specs.Input.{Whole}
use Rattle.st_plan.specs.declared.limits.TheConstants.{MAX_PACKETS}
use Rattle.st_spool.specs.Covers.{CoversInDoubt}
use Rattle.st_spool.specs.History.{set_of}
use Rattle.st_spool.specs.Standing.{StandsFor, failed_event, in_doubt}
use Rattle.st_spool.specs.States.{SpoolState, SpoolView}
use Rattle.st_spool.specs.declared.state.Doubt.{Doubt}
use Rattle.st_spool.specs.declared.state.Doubt.TheVariants.{Nothing}
use Rattle.st_spool.proofs.Covering.{covers_doubt}
use Rattle.st_answer.specs.Packets.{IsWholeSet}
use Rattle.st_answer.specs.Spools.{IsStill, Remains}
use Rattle.st_load.specs.Acts.{Act, events_of, happen, removals, newest}
use Rattle.st_load.specs.Job.{Situation, IsJob}
use Rattle.st_load.specs.Loading.{AreCutFrom, Loads, Covered, BeginsWith, situation}
use Rattle.st_load.specs.declared.ends.LoadEnd.{LoadEnd}
use Rattle.st_load.specs.declared.ends.LoadEnd.TheVariants as load
use Rattle.st_load.proofs.Covered.{covered_none}
use Rattle.st_load.proofs.Finishing.{no_doubt}
use Rattle.st_drill.specs.declared.ends.DrillEnd.{DrillEnd}
use Rattle.st_drill.specs.declared.ends.DrillEnd.TheVariants as end
use Rattle.st_drill.specs.declared.numbers.TheConstants.{BLOCK_SIZE, LINE_FEED}
use Rattle.st_drill.specs.declared.queries.DrillQuery.{DrillQuery}
use Rattle.st_drill.specs.declared.summary.Answers.{Answers}
use Rattle.st_shelf.specs.Loans.{LoansView}
use Rattle.st_drill.specs.Asking.{CountsMatches, AnswerFails, StaysOpen}
use Rattle.st_drill.specs.Drilling.{IsSummary, EndsUnloaded, layout}
use Rattle.st_drill.specs.Packets.{packets, input}
use Rattle.st_drill.specs.Summary.{told_of, summary_text}
use Rattle.st_drill.specs.Summarizing.{KeepsShelf, LoadsPackets, LoadsAll, Summarizes}
use Rattle.st_drill.proofs.Packets.{is_whole_input}
use Rattle.st_drill.proofs.Lines.{lines_counted}
use Rattle.st_drill.proofs.Unloaded.{are_short}
use Rattle.st_drill.proofs.Replied.{still_now}

none_doubted : (d : Doubt) (f : Files) → d ≡ Nothing → failed_event d f ≡ []
none_doubted d f is = ap (λ (x : Doubt). failed_event x f) is

abbrev bytes_in : Option (List ℕ) → List ℕ
bytes_in None = []
bytes_in (Some bytes) = bytes

known_input : (n : ℕ) (bytes : List ℕ) → Some (input n) ≡ Some bytes → input n ≡ bytes
known_input n bytes is = ap bytes_in is

-- a load that did nothing, as memory ran out
pub nothing_loaded : (n limit : ℕ) → n ≤ MAX_PACKETS → (known : Option Log) (st : SpoolState)
    (earlier h : List Event) (f : Files) (times : Option (List ℕ)) → st.halted ≡ None
    → StandsFor IsWhole known st earlier h f
    → LoadsPackets n limit known known st st earlier h times times load.NoMemory
nothing_loaded n limit fits known st earlier h f times runs stands =
    let quiet = no_doubt known st earlier h f stands runs in
    let start : Situation = situation h st times in
    let gone = happen (removals limit (set_of h)) ++ [] in
    let none = none_doubted st.doubt f quiet in
    record {
      lines = Some [];
      loads = record {
        pairs = [];
        are = λ bytes is. subst (λ (b : List ℕ). AreCutFrom layout b load.NoMemory [])
            (known_input n bytes is) (record {
              records = packets n;
              rest = record { input = Whole; taken = packets n; others = []; left = packets n };
              input = is_whole_input n fits;
              takes = record {
                are = sym (append-nil (packets n));
                short = are_short n fits;
                ends = tt;
              };
              lists = refl;
              ends = tt;
            });
        acts = [];
        to_come = gone;
        did = record {
          final = record start { set = newest limit (set_of h) };
          job = ([], refl, (refl, refl));
          ends = tt;
          lines = Appends-nil (Some []);
        };
        f = f;
        stands = subst (λ (x : List Event). StandsFor IsWhole known st earlier x f)
            (sym (append-nil h)) stands;
        doubt = (gone, ap (λ (es : List Event). happen es ++ gone) (sym none));
        images = subst (λ (d : Doubt). Covered known known h [] (in_doubt d f)) (sym quiet)
            (covered_none known st earlier h f stands quiet);
      };
      no_doubt = λ other. quiet;
    }

module _ (n limit : ℕ) (given wrote text : List ℕ)
    (input_is : given ≡ input n) (none : wrote ≡ []) (before known : Option Log)
    (old st : SpoolState) (earlier h : List Event) (times times_now : Option (List ℕ))
    (e : LoadEnd)
    (job : Loads (IsJob limit BLOCK_SIZE (situation h old times))
    (λ pairs. (bytes : List ℕ) → Some given ≡ Some bytes → AreCutFrom layout bytes e pairs)
    e before known st earlier h times_now (Some wrote) (Some text))
    (runs : (e ≡ load.DiskFault → ⊥) → st.halted ≡ None) where
  abbrev Did : List ℕ → List ℕ → Type 0
  Did i w = Loads (IsJob limit BLOCK_SIZE (situation h old times))
      (λ pairs. (bytes : List ℕ) → Some i ≡ Some bytes → AreCutFrom layout bytes e pairs)
      e before known st earlier h times_now (Some w) (Some text)

  abbrev moved : Did (input n) []
  moved = subst (Did (input n)) none (subst (λ (i : List ℕ). Did i wrote) input_is job)

  abbrev packed : LoadsPackets n limit before known old st earlier h times times_now e
  packed = record {
    lines = Some text;
    loads = moved;
    no_doubt = λ other. no_doubt known st earlier (h ++ events_of moved.acts) moved.f moved.stands
        (runs other);
  }

  -- all packets were loaded, and as many pairs as lines were made of them
  pub all_loaded : (count : ℕ) → e ≡ load.Done → count ≡ count_by (nat_eq LINE_FEED) text
      → LoadsAll n limit before known old st earlier h times times_now (Ok count)
  all_loaded count done is = record {
    loaded = e;
    packed = packed;
    ends = (
      done,
      is ∙ lines_counted limit BLOCK_SIZE (situation h old times) e moved.pairs moved.acts
          moved.to_come times_now text moved.did done,
    );
  }

  -- not all were
  pub not_loaded : (ended : DrillEnd) → EndsUnloaded e ended
      → LoadsAll n limit before known old st earlier h times times_now (Err ended)
  not_loaded ended by = record { loaded = e; packed = packed; ends = by }

-- the spool stands after the load for the history with its events, and its log is known
pub stands_loaded : (n limit : ℕ) (before mid : Option Log) (old st : SpoolState)
    (earlier h : List Event) (times times_now : Option (List ℕ)) (loaded : LoadEnd) (first : Log)
    → before ≡ Some first
    → (a : LoadsPackets n limit before mid old st earlier h times times_now loaded)
    → (now : Log) × (mid ≡ Some now)
    × StandsFor IsWhole mid st earlier (h ++ events_of a.loads.acts) a.loads.f
stands_loaded n limit before mid old st earlier h times times_now loaded first is a =
    let (now, known, covers) = a.loads.images first is in (now, known, a.loads.stands)

module _ {D : Type 0} (log : D → Option Log) (n limit : ℕ) (before : Option Log)
    (old : SpoolState) (a b : SpoolView D) (earlier h : List Event)
    (times times_now : Option (List ℕ)) (loaded : LoadEnd) (first : Log) (is : before ≡ Some first)
    (remains : Remains IsWhole log a b)
    (l : LoadsPackets n limit before (log a.shelf) old a.state earlier h times times_now loaded)
  where
    abbrev since : List Event
    since = h ++ events_of l.loads.acts

    -- what was so since a log of the spool that was loaded is so still
    after : (now : Log) → log a.shelf ≡ Some now
        → IsStill IsWhole now (log b.shelf) b.state earlier since l.loads.f
    after now known = remains.still now earlier since l.loads.f
        (still_now (log a.shelf) a.state earlier since l.loads.f now known l.loads.stands)

    pub stood : StandsFor IsWhole (log b.shelf) b.state earlier since l.loads.f
    stood = let (now, known, covers) = l.loads.images first is in (after now known).stands

    pub covered : Covered before (log b.shelf) h (events_of l.loads.acts) (in_doubt b.state.doubt l.loads.f)
    covered start is_start =
        let (mid, known, cover) = l.loads.images start is_start in
        let r = (after mid known).images in (
          r.log,
          r.is,
          covers_doubt h (events_of l.loads.acts) (in_doubt b.state.doubt l.loads.f) start mid r.log
              (log b.shelf)
              (subst (λ (d : Doubt). CoversInDoubt h (events_of l.loads.acts) (in_doubt d l.loads.f)
              start mid) (sym remains.doubt) cover)
              r r.is,
        )

    -- calls without an event go on with it
    abbrev pub loaded_on :
        LoadsPackets n limit before (log b.shelf) old b.state earlier h times times_now loaded
    loaded_on = record {
      lines = l.lines;
      loads = record {
        pairs = l.loads.pairs;
        are = l.loads.are;
        acts = l.loads.acts;
        to_come = l.loads.to_come;
        did = l.loads.did;
        f = l.loads.f;
        stands = stood;
        doubt = subst (λ (d : Doubt). BeginsWith l.loads.to_come (failed_event d l.loads.f))
            (sym remains.doubt) l.loads.doubt;
        images = covered;
      };
      no_doubt = λ other. remains.doubt ∙ l.no_doubt other;
    }

-- not all packets were loaded
pub sum_unloaded : (n limit : ℕ) (before known : Option Log) (old st : SpoolState)
    (earlier h : List Event) (times times_now : Option (List ℕ)) (e : DrillEnd)
    → LoadsAll n limit before known old st earlier h times times_now (Err e)
    → Summarizes n limit before known old st earlier h times times_now (Err e)
sum_unloaded n limit before known old st earlier h times times_now e a =
    record { loaded = a.loaded; packed = a.packed; ends = inr a.ends }

module _ {D : Type 0} (log : D → Option Log) (n limit pairs : ℕ) (before : Option Log)
    (old : SpoolState) (a b : SpoolView D) (earlier h : List Event)
    (times times_now : Option (List ℕ)) (first : Log) (is : before ≡ Some first)
    (remains : Remains IsWhole log a b)
    (l : LoadsAll n limit before (log a.shelf) old a.state earlier h times times_now (Ok pairs))
  where
    abbrev set : List Entry
    set = set_of (h ++ events_of l.packed.loads.acts)

    -- a query was not answered
    pub sum_broken : (e : DrillEnd) → AnswerFails set e
        → Summarizes n limit before (log b.shelf) old b.state earlier h times times_now (Err e)
    sum_broken e breaks = record {
      loaded = l.loaded;
      packed = loaded_on log n limit before old a b earlier h times times_now l.loaded first is
          remains l.packed;
      ends = inl (l.ends.0, breaks);
    }

    -- all were, and this is the summary
    pub sum_done : (answers : Answers) (text : String Global)
        → (IsWholeSet set → (q : DrillQuery) → CountsMatches set q (told_of answers q))
        → string_bytes text ≡ summary_text n pairs answers
        → Summarizes n limit before (log b.shelf) old b.state earlier h times times_now (Ok text)
    sum_done answers text counts is_text = record {
      loaded = l.loaded;
      packed = loaded_on log n limit before old a b earlier h times times_now l.loaded first is
          remains l.packed;
      ends = (
        l.ends.0,
        record {
          answers = answers;
          counts = counts;
          text_is = is_text ∙ ap (λ (m : ℕ). summary_text n m answers) l.ends.1;
        },
      );
    }

-- a spool was loaded, and then asked
pub keeps_then : {D : Type 0} (log : D → Option Log) (id : D → ℕ) (loans : D → LoansView)
    (a b c : SpoolView D) → KeepsShelf id loans a b → StaysOpen log id loans b c
    → KeepsShelf id loans a c
keeps_then log id loans a b c one two = record {
  limit = two.remains.limit ∙ one.limit;
  holds = λ none. two.holds (one.holds none);
  id_is = two.id_is ∙ one.id_is;
  lent = let x = one.lent in let y = two.lent in omega arith;
}
