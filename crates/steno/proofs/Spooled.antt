-- From the outcome of a command over a shelf to how the run ends.
use Rattle.std.proofs.Common.{◌≡◌, ℕ, List, [], Option, inl, inr}
use Rattle.std.proofs.lemmas.List.Elements.{All-contains}
use Rattle.st_base.specs.declared.damages.Damage.{Damage}
use Rattle.st_commands.specs.declared.outcomes.Outcome.{Outcome}
use Rattle.st_commands.specs.declared.outcomes.Outcome.TheVariants as outcome
use Rattle.st_commands.specs.declared.outcomes.Report.{Report}
use Rattle.st_commands.specs.declared.outcomes.Report.TheVariants.{Summaries, Verdicts}
use Rattle.st_commands.specs.Reports.{Reports}
use Rattle.st_commands.proofs.Naming.{damaged_is_hurt, done_is_whole}
use Rattle.st_disk.specs.Pairs.{Entry}
use Rattle.st_pairs.specs.Pairs.{IsWholePair}
use Rattle.steno.specs.declared.status.Status.{Status}
use Rattle.steno.specs.declared.status.Status.TheVariants.{Done, WriteFault, DiskFault, Damaged, NoMemory}
use Rattle.steno.specs.Causes.{FaultCounts, HasCauses, NoneRose}
use Rattle.steno.specs.Scenes.{Scene}
use Rattle.steno.specs.Statuses.{Ends}
use Rattle.steno.specs.Spooling.{AreWhole, ChecksUnfailed, ListsUnfailed, ReportsPairs, SaysOutcome, NamesDamage, SaidDamage, TellsDamage}

-- not all of these pairs are whole that a command names damage of
hurt : (r : Report) (pairs : List Entry) (old new : Option (List ℕ)) (stamp : ℕ) (d : Damage) → Reports r pairs old new (outcome.Damaged stamp d) → AreWhole pairs → ⊥
hurt r pairs old new stamp d lines whole =
    let named = damaged_is_hurt r pairs old new stamp d lines in
    named.3 (All-contains (λ e. IsWholePair e.block e.index) pairs named.0 whole named.1)

-- a list of whole pairs that no fault ends
well : (r : Report) (o : Outcome) (pairs : List Entry) (old new : Option (List ℕ)) (status : Status) (message : List ℕ) → SaysOutcome (TellsDamage r) o status message → Reports r pairs old new o
    → (status ≡ WriteFault → ⊥) → (status ≡ DiskFault → ⊥) → AreWhole pairs → Ends Done status
well r outcome.Done pairs old new status message says lines write disk whole = inl says.0
well r outcome.WriteFault pairs old new status message says lines write disk whole = absurd (write says.0)
well r outcome.DiskFault pairs old new status message says lines write disk whole = absurd (disk says.0)
well r (outcome.Damaged stamp d) pairs old new status message says lines write disk whole = absurd (hurt r pairs old new stamp d lines whole)
well r outcome.NoMemory pairs old new status message says lines write disk whole = inr says.0

-- a check of pairs that aren't all whole, which no fault ends
ill : (o : Outcome) (pairs : List Entry) (old new : Option (List ℕ)) (status : Status) (message : List ℕ) → SaysOutcome (TellsDamage Verdicts) o status message → Reports Verdicts pairs old new o
    → (status ≡ WriteFault → ⊥) → (status ≡ DiskFault → ⊥) → (AreWhole pairs → ⊥) → Ends Damaged status
ill outcome.Done pairs old new status message says lines write disk torn = absurd (torn (done_is_whole pairs old new lines))
ill outcome.WriteFault pairs old new status message says lines write disk torn = absurd (write says.0)
ill outcome.DiskFault pairs old new status message says lines write disk torn = absurd (disk says.0)
ill (outcome.Damaged stamp d) pairs old new status message says lines write disk torn = inl says.0
ill outcome.NoMemory pairs old new status message says lines write disk torn = inr says.0

pub list_ends : (old new : Scene) (before after : FaultCounts) (status : Status) (message : List ℕ)
    → ReportsPairs Summaries old new status message → HasCauses before after status → NoneRose before after → ListsUnfailed old status
list_ends old new before after status message ran cause none = λ first pairs known found whole.
    well Summaries ran.outcome pairs old.output new.output status message ran.says (ran.lines first pairs known found)
    (λ e. none.output (cause.write e)) (λ e. none.shelf (cause.disk e)) whole

pub check_ends : (old new : Scene) (before after : FaultCounts) (status : Status) (message : List ℕ)
    → ReportsPairs Verdicts old new status message → HasCauses before after status → NoneRose before after → ChecksUnfailed old status
check_ends old new before after status message ran cause none = λ first pairs known found.
    let lines = ran.lines first pairs known found in
    let write = λ (e : status ≡ WriteFault). none.output (cause.write e) in
    let disk = λ (e : status ≡ DiskFault). none.shelf (cause.disk e) in (
      λ whole. well Verdicts ran.outcome pairs old.output new.output status message ran.says lines write disk whole,
      λ torn. ill ran.outcome pairs old.output new.output status message ran.says lines write disk torn,
    )

-- a command that is done has no message
pub said_done : (Tells : ℕ → Damage → Status → List ℕ → Type 0) (o : Outcome) (message : List ℕ) → ((stamp : ℕ) (d : Damage) → Tells stamp d Done message → ⊥) → SaysOutcome Tells o Done message → message ≡ []
said_done Tells outcome.Done message other says = says.1
said_done Tells outcome.WriteFault message other says = let bad : Done ≡ WriteFault = says.0 in absurd (cc)
said_done Tells outcome.DiskFault message other says = let bad : Done ≡ DiskFault = says.0 in absurd (cc)
said_done Tells (outcome.Damaged stamp d) message other says = absurd (other stamp d says)
said_done Tells outcome.NoMemory message other says = let bad : Done ≡ NoMemory = says.0 in absurd (cc)

-- damage is not done
pub named_open : (stamp : ℕ) (d : Damage) (message : List ℕ) → NamesDamage stamp d Done message → ⊥
named_open stamp d message (inl says) = let bad : Done ≡ Damaged = says.0 in cc
named_open stamp d message (inr says) = let bad : Done ≡ NoMemory = says.0 in cc

pub said_open : (stamp : ℕ) (d : Damage) (message : List ℕ) → SaidDamage stamp d Done message → ⊥
said_open stamp d message says = let bad : Done ≡ Damaged = says.0 in cc

-- a check that found damage has no message
pub said_damaged : (o : Outcome) (message : List ℕ) → SaysOutcome SaidDamage o Damaged message → message ≡ []
said_damaged outcome.Done message says = let bad : Damaged ≡ Done = says.0 in absurd (cc)
said_damaged outcome.WriteFault message says = let bad : Damaged ≡ WriteFault = says.0 in absurd (cc)
said_damaged outcome.DiskFault message says = let bad : Damaged ≡ DiskFault = says.0 in absurd (cc)
said_damaged (outcome.Damaged stamp d) message says = says.1
said_damaged outcome.NoMemory message says = let bad : Damaged ≡ NoMemory = says.0 in absurd (cc)
