use Rattle.std.proofs.Common.{sym, ◌∙◌, ap, subst}
use Rattle.st_commands.specs.Commands.{HasDiskFault}
use Rattle.st_commands.proofs.Opening.{fails_so, unentered_disk, is_unentered}
use Rattle.st_commands.proofs.commands.entered.Goals as goal

pub returns-in-Err-clause-opens : goal.returns-in-Err-clause-opens
returns-in-Err-clause-opens g c first known =
    fails_so g.D.Shelf.log first c.in-Err.refused.shelf c.unentered.result.shelf c.in-Err.refused.cause c.unentered.result.outcome c.unentered.ensures.outcome c.unentered.ensures.shelf (c.in-Err.ensures.entered first known)

pub returns-in-Err-clause-ended : goal.returns-in-Err-clause-ended
returns-in-Err-clause-ended g c =
    let D = g.D.Shelf in
    let same = c.unentered.ensures.shelf in (
      subst (λ (s : g.row.D.Denot). HasDiskFault (D.faults c.args.shelf) (D.faults s) c.unentered.result.outcome) (sym same)
          (unentered_disk (D.faults c.args.shelf) (D.faults c.in-Err.refused.shelf) c.in-Err.refused.cause c.unentered.result.outcome c.unentered.ensures.outcome c.in-Err.ensures.cause),
      is_unentered c.in-Err.refused.cause c.unentered.result.outcome c.unentered.ensures.outcome,
      ap D.id same ∙ c.in-Err.ensures.rest.0,
      ap D.loans same ∙ c.in-Err.ensures.rest.1,
    )
