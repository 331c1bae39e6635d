-- What a spool has as a store.
use Rattle.std.specs.Prelude.{◌≡◌, ℕ, ◌-◌, ◌^◌, min, List, map, length, count_by, Option, option_map, Bool, ◌&&◌, nat_eq}
use Rattle.st_disk.specs.Disks.{Log}
use Rattle.st_disk.specs.Events.{Event}
use Rattle.st_disk.specs.Pairs.{Entry, Files}
use Rattle.st_spool.specs.Publishing.{RanAsBefore}
use Rattle.st_spool.specs.Recalling.{history_of}
use Rattle.st_spool.specs.Standing.{StandsFor, in_doubt}
use Rattle.st_spool.specs.States.{SpoolState, SpoolView, held}
use Rattle.st_spool.specs.declared.state.Span.{Span}
use Rattle.st_answer.specs.Stores.{HoldsView}

-- the two holds are of one span of the history
abbrev pub same_span : Span → Span → Bool
same_span a b = nat_eq a.from b.from && nat_eq a.to b.to

-- how many of these holds are this one
abbrev pub times_in : List Span → Span → ℕ
times_in holds hold = count_by (same_span hold) holds

-- the file sets of holds in a history
abbrev pub sets_in : List Span → List Event → List (List Entry)
sets_in holds h = map (λ hold. held hold h) holds

-- what a spool with this state knows of its holds, if this is its history and its last hold took
-- these events; how many were taken is counted up to the greatest u64
abbrev pub spool_holds : SpoolState → Option (List Event) → Option (List Event) → HoldsView
spool_holds st seen took =
    record {
      asks = min st.asks (2 ^ 64 - 1);
      held = length st.holds;
      seen = seen;
      took = took;
      out = option_map (sets_in st.holds) seen;
    }

-- the file set of a hold of a spool with this history
abbrev pub set_in : Option (List Event) → Span → Option (List Entry)
set_in seen hold = option_map (held hold) seen

-- Since the first log there was no event: the spool stands for this history, and each crash leaves
-- what one might have left then.
pub record IsStill (IsWhole : List ℕ → List ℕ → Type 0) (first : Log) (known : Option Log)
    (st : SpoolState) (earlier h : List Event) (f : Files) : Type 0 where
  pub stands : StandsFor IsWhole known st earlier h f
  pub images : RanAsBefore first known h (in_doubt st.doubt f)

-- Calls on a spool that were no event: it has the history, the limit and the doubt that it had, and
-- what was so since any log before is so still.
pub record Remains {D : Type 0} (IsWhole : List ℕ → List ℕ → Type 0) (log : D → Option Log)
    (before after : SpoolView D) : Type 0 where
  pub history : history_of log after ≡ history_of log before
  pub limit : after.state.limit ≡ before.state.limit
  pub doubt : after.state.doubt ≡ before.state.doubt
  pub still : (first : Log) (earlier h : List Event) (f : Files)
      → IsStill IsWhole first (log before.shelf) before.state earlier h f
      → IsStill IsWhole first (log after.shelf) after.state earlier h f
