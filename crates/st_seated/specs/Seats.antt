-- What a pass of a shared spool has as a store.
use Rattle.std.specs.Prelude.{◌≡◌, ◌≤◌, ◌^◌, ◌-◌, ℕ, List, length, take, min, Option, Some, option_map}
use Rattle.st_disk.specs.Disks.{Log}
use Rattle.st_disk.specs.Events.{Event}
use Rattle.st_disk.specs.Pairs.{Entry}
use Rattle.st_spool.specs.History.{entries_of}
use Rattle.st_spool.specs.States.{AreWithin}
use Rattle.st_spool.specs.declared.state.Span.{Span}
use Rattle.st_answer.specs.Spools.{sets_in, set_in}
use Rattle.st_answer.specs.Stores.{HoldsView}
use Rattle.st_turn.specs.Parts.{PassState}
use Rattle.st_turn.specs.Passes.{PassView, SharedView, IsOf, IsSame}

module _ {S : Type 0} where
  -- the events that a pass saw, where the log of the shelf that was shared is known
  abbrev pub seen_by : Option Log → PassState S Event Span → Option (List Event)
  seen_by known p = option_map (λ _. p.card.seen) known

  -- those of them whose pairs its last hold took
  abbrev pub taken_by : Option Log → PassState S Event Span → Option (List Event)
  taken_by known p = option_map (take (length p.asked)) (seen_by known p)

  -- what a pass knows of its holds: how many it took, as far as a u64 counts, how many it has, what
  -- it saw, what the last one took, and the sets that it holds
  abbrev pub pass_holds : Option Log → PassState S Event Span → HoldsView
  pass_holds known p =
      record {
        asks = min p.asks (2 ^ 64 - 1);
        held = length p.held;
        seen = seen_by known p;
        took = taken_by known p;
        out = option_map (sets_in p.held) (seen_by known p);
      }

  -- the file set of a hold of a pass
  abbrev pub pass_set : Option Log → PassState S Event Span → Span → Option (List Entry)
  pass_set known p hold = set_in (seen_by known p) hold

  -- its own count of the turns in which its shelf failed, as far as a u64 counts
  abbrev pub pass_faults : PassState S Event Span → ℕ
  pass_faults p = min p.card.failed (2 ^ 64 - 1)

  -- What a pass saw reaches as far as its holds: its last hold took no more events, and each of its
  -- holds has pairs that were found or published in what it saw.
  pub record SeesHolds (known : Option Log) (p : PassState S Event Span) : Type 0 where
    pub asked : length p.asked ≤ length p.card.seen
    pub held : (log : Log) → known ≡ Some log
        → AreWithin (length (entries_of p.card.seen)) p.held

  -- a pass may be a store: it is one of this shared spool, and what it saw reaches as far as its
  -- holds
  pub record IsSeatable (known : Option Log) (s : SharedView S) (p : PassView S) : Type 0 where
    pub of : IsOf s p
    pub sees : SeesHolds known p.state

  -- Calls of a pass that were no event: it is the same pass, its own events are as they were, and
  -- none of its calls stopped the spool.
  pub record Remains (p q : PassView S) : Type 0 where
    pub same : IsSame p q
    pub own : q.state.card.own ≡ p.state.card.own
    pub stops : q.state.card.stops ≡ p.state.card.stops

-- a pass that is a store: the spool that it shares, and the pass
pub record SeatView (S : Type 0) : Type 0 where
  pub shared : SharedView S
  pub pass : PassView S

-- what a store over a pass becomes by its calls: it has the same shared spool and the same pass
pub record Goes {S : Type 0} (a b : SeatView S) : Type 0 where
  pub shared : b.shared ≡ a.shared
  pub pass : Remains a.pass b.pass
