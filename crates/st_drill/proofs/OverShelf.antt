-- From what a drill of a spool did to what it made of its shelf.
use Rattle.std.specs.Prelude.{String, string_bytes}
use Rattle.std.specs.Global.{Global}
use Rattle.std.specs.Io.KnownBytes.{Appends}
use Rattle.std.proofs.Common.{◌≡◌, ℕ, ◌⊎◌, inl, inr, List, [], ◌∷◌, length, Option, None, Some, Result, Ok, Err, refl, sym, ap, ◌∙◌, subst}
use Rattle.st_base.specs.Pieces.{AppendsPrefix}
use Rattle.st_base.specs.Records.{Rec}
use Rattle.st_disk.specs.Disks.{Log}
use Rattle.st_disk.specs.Events.{Event, Found, events}
use Rattle.st_disk.specs.Pairs.{Entry, Files}
use Rattle.st_pairs.specs.Pairs.{IsWholePair as IsWhole}
use Rattle.st_plan.specs.declared.limits.TheConstants.{MAX_PAIRS}
use Rattle.st_spool.specs.Entering.{Enters, FailsToEnter}
use Rattle.st_spool.specs.History.{set_of}
use Rattle.st_spool.specs.Standing.{StandsFor, failed_event, in_doubt, PublishWhole}
use Rattle.st_spool.specs.States.{SpoolState}
use Rattle.st_spool.specs.declared.opening.EnterErr.{EnterErr}
use Rattle.st_spool.specs.declared.opening.EnterErr.TheVariants as enter
use Rattle.st_spool.specs.declared.state.Doubt.{Doubt}
use Rattle.st_spool.specs.declared.state.Doubt.TheVariants.{Nothing}
use Rattle.st_spool.proofs.Histories.{whole_first}
use Rattle.st_answer.specs.Packets.{IsWholeSet}
use Rattle.st_load.specs.Acts.{events_of}
use Rattle.st_load.specs.Opening.{LoadsOpened}
use Rattle.st_load.specs.declared.ends.LoadEnd.{LoadEnd}
use Rattle.st_load.specs.declared.ends.LoadEnd.TheVariants as load
use Rattle.st_load.proofs.Opened.{opened, opened_sure}
use Rattle.st_drill.specs.declared.ends.DrillEnd.{DrillEnd}
use Rattle.st_drill.specs.declared.ends.DrillEnd.TheVariants as end
use Rattle.st_drill.specs.Asking.{AnswerFails}
use Rattle.st_drill.specs.Drilling.{layout, IsSummary, EndsLoaded, EndsUnloaded, DrillsOpened, Drills}
use Rattle.st_drill.specs.Packets.{input}
use Rattle.st_drill.specs.Summarizing.{EndsUnopened, EndsWriting, LoadsPackets, Summarizes}
use Rattle.st_drill.proofs.Wholes.{set_whole}

-- a query that wasn't answered ends a drill so, and nothing is written
ends_broken : (packets pairs : ℕ) (set : List Entry) (old new : Option (List ℕ))
    (ended : DrillEnd) → AnswerFails set ended → new ≡ old
    → EndsLoaded packets pairs set old new ended
ends_broken packets pairs set old new end.Done breaks same = absurd breaks
ends_broken packets pairs set old new end.WriteFault breaks same = absurd breaks
ends_broken packets pairs set old new end.DiskFault breaks same = (breaks, same)
ends_broken packets pairs set old new (end.Damaged stamp d) breaks same = (breaks, same)
ends_broken packets pairs set old new (end.StampsSpent last) breaks same = absurd breaks
ends_broken packets pairs set old new end.NoMemory breaks same = (breaks, same)

module _ (n : ℕ) (first : Log) (mid known : Option Log) (before st : SpoolState)
    (entered : Enters IsWhole first mid before) (lim : st.limit ≡ MAX_PAIRS)
    (times times_now : Option (List ℕ)) (loaded : LoadEnd)
    (p : LoadsPackets n MAX_PAIRS mid known before st (events first) (Found entered.pairs ∷ [])
    times times_now loaded) where
  abbrev Opens : Type 0
  Opens = LoadsOpened MAX_PAIRS layout first known (Some (input n)) times times_now (Some [])
      p.lines loaded

  -- no event is in doubt
  none : loaded ≡ load.Done → in_doubt st.doubt p.loads.f ≡ []
  none done = ap (λ (d : Doubt). in_doubt d p.loads.f)
      (p.no_doubt (λ disk. let no : load.Done ≡ load.DiskFault = sym done ∙ disk in cc))

  abbrev sure : loaded ≡ load.Done → Opens
  sure done = opened_sure MAX_PAIRS layout first mid known (Some (input n)) times times_now
      (Some []) p.lines loaded st before entered lim p.loads (none done)

  any : Opens
  any = opened MAX_PAIRS layout first mid known (Some (input n)) times times_now
      (Some []) p.lines loaded st before entered lim p.loads p.no_doubt

  abbrev set : List Entry
  set = set_of (Found entered.pairs ∷ events_of p.loads.acts)

  grows : IsWholeSet entered.pairs → IsWholeSet set
  grows whole =
      let (now, is, covers) = p.loads.images entered.images.cleared.log entered.images.cleared.is in
      set_whole st.limit entered.pairs (events_of p.loads.acts) p.loads.stands.legal
      (whole_first IsWhole (Found entered.pairs ∷ events_of p.loads.acts)
      (failed_event st.doubt p.loads.f) (p.loads.stands.disk now is).whole) whole

  done_so : (text : List ℕ) (old new : Option (List ℕ)) (ended : DrillEnd) → loaded ≡ load.Done
      → IsSummary n (length p.loads.pairs) set text
      → ((ended ≡ end.Done) × Appends old new text)
      ⊎ ((ended ≡ end.WriteFault) × AppendsPrefix old new text)
      → DrillsOpened n first known times times_now old new ended
  done_so text old new ended done sums (inl (is, wrote)) = record {
    lines = p.lines;
    loaded = loaded;
    loads = sure done;
    ends = inl (
      done,
      grows,
      subst (EndsLoaded n (length p.loads.pairs) set old new) (sym is) (text, sums, wrote),
    );
  }
  done_so text old new ended done sums (inr (is, wrote)) = record {
    lines = p.lines;
    loaded = loaded;
    loads = sure done;
    ends = inl (
      done,
      grows,
      subst (EndsLoaded n (length p.loads.pairs) set old new) (sym is) (text, sums, wrote),
    );
  }

  broken_so : (e : DrillEnd) (old new : Option (List ℕ)) (ended : DrillEnd)
      → ((loaded ≡ load.Done) × AnswerFails set e) ⊎ EndsUnloaded loaded e
      → (ended ≡ e) × (new ≡ old) → DrillsOpened n first known times times_now old new ended
  broken_so e old new ended (inl (done, breaks)) (is, same) = record {
    lines = p.lines;
    loaded = loaded;
    loads = sure done;
    ends = inl (
      done,
      grows,
      ends_broken n (length p.loads.pairs) set old new ended
          (subst (AnswerFails set) (sym is) breaks) same,
    );
  }
  broken_so e old new ended (inr unloaded) (is, same) = record {
    lines = p.lines;
    loaded = loaded;
    loads = any;
    ends = inr (subst (EndsUnloaded loaded) (sym is) unloaded, same);
  }

-- what a drill of the spool that was opened wrote
drilled : (n : ℕ) (first : Log) (mid known : Option Log) (before st : SpoolState)
    (entered : Enters IsWhole first mid before) → st.limit ≡ MAX_PAIRS
    → (times times_now : Option (List ℕ)) (result : Result (String Global) DrillEnd)
    → Summarizes n MAX_PAIRS mid known before st (events first) (Found entered.pairs ∷ [])
    times times_now result
    → (old new : Option (List ℕ)) (ended : DrillEnd) → EndsWriting result old new ended
    → DrillsOpened n first known times times_now old new ended
drilled n first mid known before st entered lim times times_now (Ok text) s old new ended wrote =
    done_so n first mid known before st entered lim times times_now s.loaded s.packed
    (string_bytes text) old new ended s.ends.0 s.ends.1 wrote
drilled n first mid known before st entered lim times times_now (Err e) s old new ended wrote =
    broken_so n first mid known before st entered lim times times_now s.loaded s.packed
    e old new ended s.ends wrote

-- a drill of the spool that was opened is one of the shelf
pub drill_opened : (n : ℕ) (first : Log) (mid known : Option Log) (before st : SpoolState)
    (times times_now : Option (List ℕ)) (result : Result (String Global) DrillEnd)
    (old new : Option (List ℕ)) (ended : DrillEnd) → Enters IsWhole first mid before
    → before.limit ≡ MAX_PAIRS → st.limit ≡ before.limit
    → ((log : Log) (earlier h : List Event) (f : Files) → mid ≡ Some log
    → StandsFor IsWhole mid before earlier h f
    → Summarizes n before.limit mid known before st earlier h times times_now result)
    → EndsWriting result old new ended
    → Drills n first known times times_now old new ended
drill_opened n first mid known before st times times_now result old new ended entered lim keeps
    job wrote =
    let none : Files = record { block = []; index = [] } in
    let h = Found entered.pairs ∷ [] in
    let one = job entered.images.cleared.log (events first) h none entered.images.cleared.is
    (entered.stands none) in
    let s = subst (λ (m : ℕ). Summarizes n m mid known before st (events first) h times times_now
    result) lim one in
    inl (drilled n first mid known before st entered (keeps ∙ lim) times times_now result s old
    new ended wrote)

-- a shelf that was not opened
pub unopened_so : (cause : EnterErr) (e : DrillEnd) → EndsUnopened cause e
    → (e ≡ end.DiskFault) ⊎ (e ≡ end.NoMemory)
unopened_so enter.DiskFault e is = inl is
unopened_so enter.NoMemory e is = inr is
