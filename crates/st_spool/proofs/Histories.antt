-- One event more.
use Rattle.std.proofs.Common.{◌≡◌, ℕ, List, [], ◌∷◌, ◌++◌, refl}
use Rattle.st_disk.specs.Pairs.{Entry}
use Rattle.st_disk.specs.Events.{Event, Found, Publish, Remove}
use Rattle.st_spool.specs.History.{set_after, set_of, entries_after, entries_of, MayFollow, Legal, without}
use Rattle.st_spool.specs.Standing.{after_found, PublishWhole}

pub set_more : (set : List Entry) (h : List Event) (ev : Event) → set_after set (h ++ ev ∷ []) ≡ set_after (set_after set h) (ev ∷ [])
set_more set [] ev = refl
set_more set (Found es ∷ h) ev = set_more es h ev
set_more set (Publish e ∷ h) ev = set_more (set ++ e ∷ []) h ev
set_more set (Remove s ∷ h) ev = set_more (without s set) h ev

pub entries_more : (all : List Entry) (h : List Event) (ev : Event) → entries_after all (h ++ ev ∷ []) ≡ entries_after (entries_after all h) (ev ∷ [])
entries_more all [] ev = refl
entries_more all (Found es ∷ h) ev = entries_more es h ev
entries_more all (Publish e ∷ h) ev = entries_more (all ++ e ∷ []) h ev
entries_more all (Remove s ∷ h) ev = entries_more all h ev

follows_more : (limit : ℕ) (all set : List Entry) (h : List Event) (ev : Event) → MayFollow limit all set h → MayFollow limit (entries_after all h) (set_after set h) (ev ∷ []) → MayFollow limit all set (h ++ ev ∷ [])
follows_more limit all set [] ev follows may = may
follows_more limit all set (Found es ∷ h) ev follows may = follows
follows_more limit all set (Publish e ∷ h) ev follows may = (follows.0, follows_more limit (all ++ e ∷ []) (set ++ e ∷ []) h ev follows.1 may)
follows_more limit all set (Remove s ∷ h) ev follows may = (follows.0, follows.1, follows_more limit all (without s set) h ev follows.2 may)

pub legal_more : (limit : ℕ) (h : List Event) (ev : Event) → Legal limit h → MayFollow limit (entries_of h) (set_of h) (ev ∷ []) → Legal limit (h ++ ev ∷ [])
legal_more limit [] ev legal may = absurd legal
legal_more limit (Found es ∷ h) ev legal may = (legal.0, follows_more limit es es h ev legal.1 may)
legal_more limit (Publish e ∷ h) ev legal may = absurd legal
legal_more limit (Remove s ∷ h) ev legal may = absurd legal

-- a history has a first event
pub after_more : (limit : ℕ) (h es : List Event) → Legal limit h → after_found (h ++ es) ≡ after_found h ++ es
after_more limit [] es legal = absurd legal
after_more limit (e ∷ h) es legal = refl

pub whole_more : (W : List ℕ → List ℕ → Type 0) (h es : List Event) → PublishWhole W h → PublishWhole W es → PublishWhole W (h ++ es)
whole_more W [] es a b = b
whole_more W (Found xs ∷ h) es a b = whole_more W h es a b
whole_more W (Publish e ∷ h) es a b = (a.0, whole_more W h es a.1 b)
whole_more W (Remove s ∷ h) es a b = whole_more W h es a b

pub whole_first : (W : List ℕ → List ℕ → Type 0) (h es : List Event) → PublishWhole W (h ++ es) → PublishWhole W h
whole_first W [] es a = tt
whole_first W (Found xs ∷ h) es a = whole_first W h es a
whole_first W (Publish e ∷ h) es a = (a.0, whole_first W h es a.1)
whole_first W (Remove s ∷ h) es a = whole_first W h es a
