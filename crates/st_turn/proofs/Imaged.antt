-- What a spool's images keep of those of an earlier state, as its calls go on.
use Rattle.std.proofs.Common.{◌≡◌, ◌≤◌, max, arith, ℕ, List, [], ◌∷◌, ◌++◌, length, take, Option, Some, None, refl, sym, ◌∙◌, ap, subst, append-nil, append_assoc}
use Rattle.std.proofs.lemmas.List.{append_cancel_left}
use Rattle.st_disk.specs.Disks.{Log}
use Rattle.st_disk.specs.Events.{Event, Found, Publish, Remove, events}
use Rattle.st_disk.specs.LoggedCalls.{KnownBefore}
use Rattle.st_disk.specs.Pairs.{Entry, Files}
use Rattle.st_disk.proofs.Reading.{known_log}
use Rattle.st_disk.proofs.Runs.{started}
use Rattle.st_spool.specs.declared.state.Doubt.{Doubt}
use Rattle.st_spool.specs.History.{without, entries_after, entries_of, MayFollow, Legal}
use Rattle.st_spool.specs.States.{SpoolState, AreUpTo}
use Rattle.st_spool.specs.Recalling.{history, earlier, event_count}
use Rattle.st_spool.specs.Standing.{StandsFor, OnDisk, NoDoubtUntilHalted, Gives, in_doubt, after_found}
use Rattle.st_spool.specs.Publishing.{RanTo, RanInDoubt, RanAsBefore, Fails, Keeps}
use Rattle.st_spool.specs.Holding.{with_hold}
use Rattle.st_spool.specs.Covers.{CoversInDoubt}
use Rattle.st_spool.proofs.Recalled.{earlier_long}
use Rattle.st_spool.proofs.Giving.{gives}
use Rattle.st_spool.proofs.Covering.{covers_on, covers_fault, covers_doubt, covers_more, covers_without_doubt}
use Rattle.st_turn.specs.Spools.{top_stamp, KeepsImages}

take_first : (xs ys : List Event) → take (length xs) (xs ++ ys) ≡ xs
take_first [] ys = refl
take_first (x ∷ xs) ys = ap (λ (zs : List Event). x ∷ zs) (take_first xs ys)

top_then : (n : ℕ) (xs ys : List Event) → top_stamp n (xs ++ ys) ≡ top_stamp (top_stamp n xs) ys
top_then n [] ys = refl
top_then n (Found es ∷ xs) ys = top_then n xs ys
top_then n (Publish e ∷ xs) ys = top_then (max n e.stamp) xs ys
top_then n (Remove s ∷ xs) ys = top_then n xs ys

up_to_first : (n : ℕ) (xs ys : List Entry) → AreUpTo n (xs ++ ys) → AreUpTo n xs
up_to_first n [] ys up = tt
up_to_first n (x ∷ xs) ys up = (up.0, up_to_first n xs ys up.1)

up_to_last : (n : ℕ) (xs : List Entry) (e : Entry) → AreUpTo n (xs ++ e ∷ []) → e.stamp ≤ n
up_to_last n [] e up = up.0
up_to_last n (x ∷ xs) e up = up_to_last n xs e up.1

up_to_before : (limit n : ℕ) (all set : List Entry) (h : List Event) → MayFollow limit all set h → AreUpTo n (entries_after all h) → AreUpTo n all
up_to_before limit n all set [] may up = up
up_to_before limit n all set (Found es ∷ h) may up = absurd may
up_to_before limit n all set (Publish e ∷ h) may up = up_to_first n all (e ∷ []) (up_to_before limit n (all ++ e ∷ []) (set ++ e ∷ []) h may.1 up)
up_to_before limit n all set (Remove s ∷ h) may up = up_to_before limit n all (without s set) h may.2 up

no_more : (n m : ℕ) → m ≤ n → max n m ≡ n
no_more n m le = grind arith

top_of : (limit n : ℕ) (all set : List Entry) (h : List Event) → MayFollow limit all set h → AreUpTo n (entries_after all h) → top_stamp n h ≡ n
top_of limit n all set [] may up = refl
top_of limit n all set (Found es ∷ h) may up = absurd may
top_of limit n all set (Publish e ∷ h) may up =
    let le = up_to_last n all e (up_to_before limit n (all ++ e ∷ []) (set ++ e ∷ []) h may.1 up) in
    ap (λ (m : ℕ). top_stamp m h) (no_more n e.stamp le) ∙ top_of limit n (all ++ e ∷ []) (set ++ e ∷ []) h may.1 up
top_of limit n all set (Remove s ∷ h) may up = top_of limit n all (without s set) h may.2 up

-- no stamp that a history published is above the greatest that the spool knows
top_self : (limit n : ℕ) (h : List Event) → Legal limit h → AreUpTo n (entries_of h) → top_stamp n h ≡ n
top_self limit n [] legal up = absurd legal
top_self limit n (Found es ∷ h) legal up = top_of limit n es es h legal.1 up
top_self limit n (Publish e ∷ h) legal up = absurd legal
top_self limit n (Remove s ∷ h) legal up = absurd legal

-- nothing is in doubt of a spool that has not failed
no_doubt_of : (halted : Option ℕ) (d : Doubt) (halts : ℕ) (f : Files) → NoDoubtUntilHalted halted d halts → halted ≡ None → in_doubt d f ≡ []
no_doubt_of None d halts f no_doubt is = ap (λ (c : Doubt). in_doubt c f) no_doubt.0
no_doubt_of (Some since) d halts f no_doubt is = absurd (cc)

-- a hold changes none of it
pub images_held : (b x : SpoolState) (first now : Log) → KeepsImages b x first now → KeepsImages b (with_hold x) first now
images_held b x first now kept = record {
  earlier_is = kept.earlier_is;
  more = kept.more;
  history_is = kept.history_is;
  last_is = kept.last_is;
  doubt = kept.doubt;
  past = kept.past;
  no_doubt = kept.no_doubt;
  covers = kept.covers;
}

module _ (W : List ℕ → List ℕ → Type 0) where
  -- the events before the opening are those of which it is known that it stands on them
  earlier_at : (log : Log) (st : SpoolState) (before h : List Event) (f : Files) → OnDisk W log st before h f → length (after_found h) ≡ event_count st → earlier st log ≡ before
  earlier_at log st before h f disk counts =
      ap (λ (n : ℕ). take n (events log)) (earlier_long st log before h f disk.past counts)
      ∙ ap (take (length before)) disk.past ∙ take_first before (after_found h ++ in_doubt st.doubt f)

  past_at : (log : Log) (st : SpoolState) (before h : List Event) (f : Files) → OnDisk W log st before h f → length (after_found h) ≡ event_count st
      → events log ≡ earlier st log ++ (after_found (history st log) ++ in_doubt st.doubt f)
  past_at log st before h f disk counts =
      disk.past ∙ ap (λ (xs : List Event). xs ++ (after_found h ++ in_doubt st.doubt f)) (sym (earlier_at log st before h f disk counts))
      ∙ ap (λ (xs : List Event). earlier st log ++ (after_found xs ++ in_doubt st.doubt f)) (sym disk.recalls)

  -- what comes after the history is in doubt
  doubt_at : (log : Log) (st : SpoolState) (before h doubt : List Event) (f : Files) → OnDisk W log st before h f → length (after_found h) ≡ event_count st
      → events log ≡ earlier st log ++ (after_found (history st log) ++ doubt) → doubt ≡ in_doubt st.doubt f
  doubt_at log st before h doubt f disk counts past =
      append_cancel_left (after_found (history st log)) doubt (in_doubt st.doubt f)
      (append_cancel_left (earlier st log) (after_found (history st log) ++ doubt) (after_found (history st log) ++ in_doubt st.doubt f)
      (sym past ∙ past_at log st before h f disk counts))

  -- a state keeps its own images
  pub images_self : (known : Option Log) (st : SpoolState) (before h : List Event) (f : Files) → StandsFor W known st before h f
      → (first now : Log) → known ≡ Some first → known ≡ Some now → KeepsImages st st first now
  images_self known st before h f stands first now was is =
      subst (λ (l : Log). KeepsImages st st first l) (known_log first now (sym was ∙ is))
      (let disk = stands.disk first was in
      record {
        earlier_is = refl;
        more = [];
        history_is = sym (append-nil (history st first));
        last_is = sym (top_self st.limit st.last (history st first) (subst (λ (g : List Event). Legal st.limit g) (sym disk.recalls) stands.legal) (subst (λ (g : List Event). AreUpTo st.last (entries_of g)) (sym disk.recalls) stands.last));
        doubt = in_doubt st.doubt f;
        past = past_at first st before h f disk stands.counts;
        no_doubt = λ none. no_doubt_of st.halted st.doubt st.halts f stands.no_doubt none;
        covers = λ none.
            covers_more (history st first) [] (in_doubt st.doubt f) first first
            (started first (Gives (history st first) [])
            (λ c left. subst (λ (g : List Event). Gives g [] c) (sym disk.recalls)
            (subst (λ (d : List Event). Gives h d c) (no_doubt_of st.halted st.doubt st.halts f stands.no_doubt none)
            (gives W known st before h f stands c (disk.images c left)))));
      })

  module _ (b x y : SpoolState) (first mid now : Log) (kept : KeepsImages b x first mid) (before h more : List Event) (f k : Files)
      (was : OnDisk W mid x before h f) (counted : length (after_found h) ≡ event_count x) (is : OnDisk W now y before (h ++ more) k) (counts : length (after_found (h ++ more)) ≡ event_count y)
      (no_doubt : NoDoubtUntilHalted y.halted y.doubt y.halts) (last : y.last ≡ top_stamp x.last more) where
    history_so_far : history b first ++ kept.more ≡ h
    history_so_far = sym kept.history_is ∙ was.recalls

    last_now : y.last ≡ top_stamp b.last (history y now)
    last_now =
        last ∙ ap (λ (n : ℕ). top_stamp n more) kept.last_is ∙ sym (top_then b.last (history x mid) more)
        ∙ ap (top_stamp b.last) (ap (λ (g : List Event). g ++ more) was.recalls ∙ sym is.recalls)

    -- by what a call makes of the images
    images_on : (b.halted ≡ None → CoversInDoubt (history b first) kept.more (in_doubt x.doubt f) first mid → CoversInDoubt (history b first) (kept.more ++ more) (in_doubt y.doubt k) first now)
        → KeepsImages b y first now
    images_on goes = record {
      earlier_is = earlier_at now y before (h ++ more) k is counts ∙ sym (earlier_at mid x before h f was counted) ∙ kept.earlier_is;
      more = kept.more ++ more;
      last_is = last_now;
      history_is = is.recalls ∙ ap (λ (xs : List Event). xs ++ more) (sym history_so_far) ∙ append_assoc (history b first) kept.more more;
      doubt = in_doubt y.doubt k;
      past = past_at now y before (h ++ more) k is counts;
      no_doubt = λ none. no_doubt_of y.halted y.doubt y.halts k no_doubt none;
      covers = λ none. goes none (subst (λ (d : List Event). CoversInDoubt (history b first) kept.more d first mid) (doubt_at mid x before h kept.doubt f was counted kept.past) (kept.covers none));
    }

  module _ (b x y : SpoolState) (start old new : Option Log) (before h : List Event) (f : Files) (stands : StandsFor W old x before h f)
      (kept : (first mid : Log) → start ≡ Some first → old ≡ Some mid → KeepsImages b x first mid) where
    -- calls with no event
    pub images_still : y.last ≡ x.last → Keeps W old new y before h f → (first now : Log) → start ≡ Some first → new ≡ Some now → KeepsImages b y first now
    images_still last keeps first now begins is =
        let mid = (keeps.known now is).0 in
        let was : old ≡ Some mid = (keeps.known now is).1 in
        let so_far = kept first mid begins was in
        let run = keeps.images mid was in
        let here = stands.disk mid was in
        let there = keeps.stands.disk now is in
        let none = append-nil h in
        let past : events now ≡ events mid = ap events (known_log now run.log (sym is ∙ run.is)) ∙ run.past ∙ append-nil (events mid) in
        let doubts : in_doubt x.doubt f ≡ in_doubt y.doubt f =
        append_cancel_left (after_found h) (in_doubt x.doubt f) (in_doubt y.doubt f)
        (append_cancel_left before (after_found h ++ in_doubt x.doubt f) (after_found h ++ in_doubt y.doubt f)
        (sym here.past ∙ sym past ∙ there.past)) in
        images_on b x y first mid now so_far before h [] f f here stands.counts
        (subst (λ (g : List Event). OnDisk W now y before g f) (sym none) there)
        (ap (λ (g : List Event). length (after_found g)) none ∙ keeps.stands.counts)
        keeps.stands.no_doubt last
        (λ free covers.
        subst (λ (es : List Event). CoversInDoubt (history b first) es (in_doubt y.doubt f) first now) (sym (append-nil so_far.more))
        (covers_doubt (history b first) so_far.more (in_doubt y.doubt f) first mid now new
        (subst (λ (d : List Event). CoversInDoubt (history b first) so_far.more d first mid) doubts covers)
        (subst (λ (g : List Event). RanAsBefore mid new g (in_doubt y.doubt f)) (sym (sym so_far.history_is ∙ here.recalls)) run)
        is))

    -- a publication or a removal
    pub images_more : (e : Event) (k : Files) → y.last ≡ top_stamp x.last (e ∷ []) → x.halted ≡ None → KnownBefore old new → StandsFor W new y before (h ++ e ∷ []) k → ((mid : Log) → old ≡ Some mid → RanTo mid new h e)
        → (first now : Log) → start ≡ Some first → new ≡ Some now → KeepsImages b y first now
    images_more e k last sound known after ran first now begins is =
        let mid = (known now is).0 in
        let was : old ≡ Some mid = (known now is).1 in
        let so_far = kept first mid begins was in
        let here = stands.disk mid was in
        images_on b x y first mid now so_far before h (e ∷ []) f k here stands.counts (after.disk now is) after.counts after.no_doubt last
        (λ free covers.
        covers_more (history b first) (so_far.more ++ e ∷ []) (in_doubt y.doubt k) first now
        (covers_on (history b first) so_far.more e first mid now new
        (covers_without_doubt (history b first) so_far.more first mid
        (subst (λ (d : List Event). CoversInDoubt (history b first) so_far.more d first mid) (no_doubt_of x.halted x.doubt x.halts f stands.no_doubt sound) covers))
        (subst (λ (g : List Event). RanTo mid new g e) (sym (sym so_far.history_is ∙ here.recalls)) (ran mid was))
        is))

    -- one that failed
    pub images_fault : (k : Files) → y.last ≡ x.last → x.halted ≡ None → Fails W old new y before h k → (first now : Log) → start ≡ Some first → new ≡ Some now → KeepsImages b y first now
    images_fault k last sound fails first now begins is =
        let mid = (fails.known now is).0 in
        let was : old ≡ Some mid = (fails.known now is).1 in
        let so_far = kept first mid begins was in
        let here = stands.disk mid was in
        let none = append-nil h in
        images_on b x y first mid now so_far before h [] f k here stands.counts
        (subst (λ (g : List Event). OnDisk W now y before g k) (sym none) (fails.stands.disk now is))
        (ap (λ (g : List Event). length (after_found g)) none ∙ fails.stands.counts)
        fails.stands.no_doubt last
        (λ free covers.
        subst (λ (es : List Event). CoversInDoubt (history b first) es (in_doubt y.doubt k) first now) (sym (append-nil so_far.more))
        (covers_fault (history b first) so_far.more (in_doubt y.doubt k) first mid now new
        (covers_without_doubt (history b first) so_far.more first mid
        (subst (λ (d : List Event). CoversInDoubt (history b first) so_far.more d first mid) (no_doubt_of x.halted x.doubt x.halts f stands.no_doubt sound) covers))
        (subst (λ (g : List Event). RanInDoubt mid new g (in_doubt y.doubt k)) (sym (sym so_far.history_is ∙ here.recalls)) (fails.images mid was))
        is))
