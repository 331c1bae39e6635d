-- Which answer a publication or an ageing gives, and what a refusal leaves.
use Rattle.std.specs.Prelude.{◌≡◌, ◌-◌, ◌^◌, None, Some}
use Rattle.st_shelf.specs.declared.shelves.SealedPair.{SealedPair}
use Rattle.st_spool.specs.States.{SpoolView}
use Rattle.st_spool.specs.Publishing.{MayPublish}
use Rattle.st_spool.specs.Aging.{MayAge}
use Rattle.st_spool.specs.declared.refusals.PublishErr.{PublishErr}
use Rattle.st_spool.specs.declared.refusals.PublishErr.TheVariants as publish
use Rattle.st_spool.specs.declared.refusals.AgeErr.{AgeErr}
use Rattle.st_spool.specs.declared.refusals.AgeErr.TheVariants as age

-- Why a publication gives this error. `DiskFault` comes only if the call was not refused. `Halted`
-- comes only after a call that failed, and `StampsSpent` only if none did and no stamp is left;
-- both leave the spool as it was and hand the pair back.
abbrev pub RefusesPair :
    {D T S : Type 0} → SpoolView D → SpoolView D → SealedPair T S → PublishErr T S → Type 0
RefusesPair {D} {T} {S} old new pair publish.DiskFault = MayPublish old.state
RefusesPair {D} {T} {S} old new pair (publish.Halted since back) =
    (old.state.halted ≡ Some since) × (new ≡ old) × (back ≡ pair)
RefusesPair {D} {T} {S} old new pair (publish.StampsSpent last back) =
    (old.state.halted ≡ None) × (old.state.last ≡ 2 ^ 64 - 1) × (last ≡ old.state.last)
    × (new ≡ old) × (back ≡ pair)

-- Why an ageing gives this error. `DiskFault` comes only if no call had failed and more pairs than
-- the limit were there. `Halted` comes only after a call that failed; it leaves the spool as it
-- was.
abbrev pub RefusesAge : {D : Type 0} → SpoolView D → SpoolView D → AgeErr → Type 0
RefusesAge {D} old new age.DiskFault = MayAge old.state
RefusesAge {D} old new (age.Halted since) = (old.state.halted ≡ Some since) × (new ≡ old)
