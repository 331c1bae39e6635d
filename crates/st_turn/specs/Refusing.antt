-- How a shared publication and a shared ageing are refused, by what their pass knows.
use Rattle.std.specs.Prelude.{◌≡◌, ◌<◌, ◌-◌, ◌^◌, ◌↔◌, ℕ, Option, Some, Result, Ok, Err, Bool, true, false, cond}
use Rattle.st_base.specs.Faults.{next_count}
use Rattle.st_disk.specs.Disks.{Log}
use Rattle.st_disk.specs.Events.{Event}
use Rattle.st_spool.specs.declared.refusals.AgeErr.{AgeErr}
use Rattle.st_spool.specs.declared.refusals.AgeErr.TheVariants as age
use Rattle.st_spool.specs.States.{SpoolView}
use Rattle.st_spool.specs.Recalling.{history}
use Rattle.st_turn.specs.declared.refusals.SharedPublishErr.{SharedPublishErr}
use Rattle.st_turn.specs.declared.refusals.SharedPublishErr.TheVariants as shared
use Rattle.st_turn.specs.Parts.{Card}
use Rattle.st_turn.specs.Spools.{top_stamp}
use Rattle.st_turn.specs.SpoolCalls.{age_stopped}

module _ {T S : Type 0} where
  -- whether a publication failed, which only `DiskFault` says
  abbrev pub has_failed : Result ℕ (SharedPublishErr T S) → Bool
  has_failed (Ok s) = false
  has_failed (Err shared.DiskFault) = true
  has_failed (Err (shared.Halted since pair)) = false
  has_failed (Err (shared.StampsSpent last pair)) = false
  has_failed (Err (shared.NoMemory pair)) = false

  -- whether it was refused since an earlier publication or ageing had failed
  abbrev pub is_halted : Result ℕ (SharedPublishErr T S) → Bool
  is_halted (Ok s) = false
  is_halted (Err shared.DiskFault) = false
  is_halted (Err (shared.Halted since pair)) = true
  is_halted (Err (shared.StampsSpent last pair)) = false
  is_halted (Err (shared.NoMemory pair)) = false

  -- whether it was refused since no stamp is left
  abbrev pub is_spent : Result ℕ (SharedPublishErr T S) → Bool
  is_spent (Ok s) = false
  is_spent (Err shared.DiskFault) = false
  is_spent (Err (shared.Halted since pair)) = false
  is_spent (Err (shared.StampsSpent last pair)) = true
  is_spent (Err (shared.NoMemory pair)) = false

  -- there was memory for it
  abbrev pub had_memory : Result ℕ (SharedPublishErr T S) → Bool
  had_memory (Ok s) = true
  had_memory (Err shared.DiskFault) = true
  had_memory (Err (shared.Halted since pair)) = true
  had_memory (Err (shared.StampsSpent last pair)) = true
  had_memory (Err (shared.NoMemory pair)) = false

-- whether an ageing was refused since an earlier publication or ageing had failed
abbrev pub age_halted : Result Bool AgeErr → Bool
age_halted (Ok b) = false
age_halted (Err age.DiskFault) = false
age_halted (Err (age.Halted since)) = true

-- A publication or an ageing, by the cards of its pass before and after: `stops` is one more if it
-- failed, but no more than a u64 holds, and else as it was.
abbrev pub StopsBy : Card Event → Card Event → Bool → Type 0
StopsBy p q failed = q.stops ≡ cond failed (next_count p.stops) p.stops

-- A publication or an ageing, by the card of its pass after it: it is refused as halted if and only
-- if a publication or an ageing of the spool has failed, and not this one.
abbrev pub HaltedBy : Card Event → Bool → Bool → Type 0
HaltedBy q failed halted = (halted ≡ true) ↔ ((0 < q.halts) × (failed ≡ false))

-- how an ageing is refused, by the cards of its pass before and after
pub record AgeRefuses (p q : Card Event) (result : Result Bool AgeErr) : Type 0 where
  pub stops : StopsBy p q (age_stopped result)
  pub halted : HaltedBy q (age_stopped result) (age_halted result)

-- How a publication is refused, by the cards of its pass before and after. `start` is the greatest
-- stamp that the spool knew as it was shared, `v` the spool as the turn found it. Where there was
-- memory and the log of the shelf is known, the answer is that no stamp is left if and only if no
-- publication or ageing has failed, and the greatest of `start` and of the stamps that the history
-- of `v` published is 2^64 - 1.
pub record PublishRefuses {D T S : Type 0} (log : D → Option Log) (start : ℕ) (v : SpoolView D)
    (p q : Card Event) (result : Result ℕ (SharedPublishErr T S)) : Type 0 where
  pub stops : StopsBy p q (has_failed result)
  pub halted : had_memory result ≡ true → HaltedBy q (has_failed result) (is_halted result)
  pub spent : had_memory result ≡ true → (l : Log) → log v.shelf ≡ Some l
      → (is_spent result ≡ true)
      ↔ ((q.halts ≡ 0) × (top_stamp start (history v.state l) ≡ 2 ^ 64 - 1))
