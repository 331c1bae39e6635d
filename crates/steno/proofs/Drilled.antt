-- From how a drill ended to how the run ends.
use Rattle.std.proofs.Common.{◌≡◌, ◌⊎◌, ℕ, List, [], ◌∷◌, length, Option, refl, sym, ap, subst, ◌∙◌, inl, inr}
use Rattle.std.proofs.lemmas.List.Elements.{All-contains}
use Rattle.st_answer.specs.Packets.{IsWholePair, IsWholeSet}
use Rattle.st_base.specs.declared.damages.Damage.{Damage}
use Rattle.st_disk.specs.Disks.{Log, reads}
use Rattle.st_disk.specs.Pairs.{Entry, PairsIn}
use Rattle.st_disk.proofs.OneSet.{one_file_set}
use Rattle.st_drill.specs.Asking.{AnswerFails}
use Rattle.st_drill.specs.Drilling.{DrillsOpened, EndsLoaded, EndsUnloaded, set_loaded}
use Rattle.st_drill.specs.declared.ends.DrillEnd.{DrillEnd}
use Rattle.st_drill.specs.declared.ends.DrillEnd.TheVariants as end
use Rattle.st_load.specs.declared.ends.LoadEnd.{LoadEnd}
use Rattle.st_load.specs.declared.ends.LoadEnd.TheVariants as load
use Rattle.st_plan.specs.Jobs.{DrillPlan}
use Rattle.steno.specs.declared.status.Status.{Status}
use Rattle.steno.specs.declared.status.Status.TheVariants.{Done, Usage, BadQuery, WriteFault, DiskFault, Damaged, NoMemory, StampsSpent}
use Rattle.steno.specs.Causes.{FaultCounts, HasCauses, NoneRose}
use Rattle.steno.specs.Drilling.{DrillsShelf, DrillsUnfailed, SaysDrill}
use Rattle.steno.specs.Scenes.{Scene}
use Rattle.steno.specs.Spooling.{AreWhole}
use Rattle.steno.specs.Statuses.{Ends}

-- a drill of whole pairs that no fault ends
well : (e : DrillEnd) (status : Status) (message : List ℕ) → SaysDrill e status message
    → (status ≡ WriteFault → ⊥) → (status ≡ DiskFault → ⊥) → ((stamp : ℕ) (d : Damage) → e ≡ end.Damaged stamp d → ⊥) → Ends Done status ⊎ (status ≡ StampsSpent)
well end.Done status message says write disk hurt = inl (inl says.0)
well end.WriteFault status message says write disk hurt = absurd (write says.0)
well end.DiskFault status message says write disk hurt = absurd (disk says.0)
well (end.Damaged stamp d) status message says write disk hurt = absurd (hurt stamp d refl)
well (end.StampsSpent last) status message (inl says) write disk hurt = inr says.0
well (end.StampsSpent last) status message (inr says) write disk hurt = inl (inr says.0)
well end.NoMemory status message says write disk hurt = inl (inr says.0)

-- a drill whose packets were not all loaded names no damage
not_unloaded : (loaded : LoadEnd) (stamp : ℕ) (d : Damage) → EndsUnloaded loaded (end.Damaged stamp d) → ⊥
not_unloaded load.Done stamp d is = is
not_unloaded (load.BadInput e) stamp d is = is
not_unloaded (load.TooLong number len) stamp d is = is
not_unloaded load.ReadFault stamp d is = is
not_unloaded load.WriteFault stamp d is = cc
not_unloaded load.DiskFault stamp d is = cc
not_unloaded (load.StampsSpent last) stamp d is = cc
not_unloaded load.NoMemory stamp d is = cc

-- one that names damage found a pair that isn't whole
hurt : (packets : ℕ) (first : Log) (known : Option Log) (times times_now old new : Option (List ℕ)) (e : DrillEnd) (pairs : List Entry) (stamp : ℕ) (d : Damage)
    → DrillsOpened packets first known times times_now old new e → PairsIn (reads first) pairs → AreWhole pairs → e ≡ end.Damaged stamp d → ⊥
hurt packets first known times times_now old new e pairs stamp d ran found whole is = elim ran.ends [
  | inl (done, grows, ends) ↦
      let set = set_loaded ran.loads in
      let broken = subst (EndsLoaded packets (length ran.loads.pairs) set old new) is ends in
      let same = one_file_set (reads first) pairs ran.loads.found found ran.loads.are_found in
      let all = grows (subst IsWholeSet same whole) in
      broken.0.3 (All-contains IsWholePair set broken.0.0 all broken.0.1)
  | inr (unloaded, same) ↦ not_unloaded ran.loaded stamp d (subst (EndsUnloaded ran.loaded) is unloaded)
]

pub drill_ends : (drill : DrillPlan) (old new : Scene) (before after : FaultCounts) (status : Status) (message : List ℕ)
    → DrillsShelf drill old new status message → HasCauses before after status → NoneRose before after → DrillsUnfailed old status
drill_ends drill old new before after status message ran cause none = λ first pairs known found whole.
    well ran.ended status message ran.says (λ e. none.output (cause.write e)) (λ e. none.shelf (cause.disk e))
    (λ stamp d is. elim (ran.job first known) [
      | inl opened ↦ hurt drill.packets first new.log old.clock new.clock old.output new.output ran.ended pairs stamp d opened found whole is
      | inr (fails, failure, times, same) ↦ elim failure [
        | inl h ↦ let bad : end.DiskFault ≡ end.Damaged stamp d = sym h ∙ is in cc
        | inr h ↦ let bad : end.NoMemory ≡ end.Damaged stamp d = sym h ∙ is in cc
      ]
    ])

-- a drill that is done has no message
pub drill_done : (e : DrillEnd) (message : List ℕ) → SaysDrill e Done message → message ≡ []
drill_done end.Done message says = says.1
drill_done end.WriteFault message says = let bad : Done ≡ WriteFault = says.0 in absurd (cc)
drill_done end.DiskFault message says = let bad : Done ≡ DiskFault = says.0 in absurd (cc)
drill_done (end.Damaged stamp d) message (inl says) = let bad : Done ≡ Damaged = says.0 in absurd (cc)
drill_done (end.Damaged stamp d) message (inr says) = let bad : Done ≡ NoMemory = says.0 in absurd (cc)
drill_done (end.StampsSpent last) message (inl says) = let bad : Done ≡ StampsSpent = says.0 in absurd (cc)
drill_done (end.StampsSpent last) message (inr says) = let bad : Done ≡ NoMemory = says.0 in absurd (cc)
drill_done end.NoMemory message says = let bad : Done ≡ NoMemory = says.0 in absurd (cc)
