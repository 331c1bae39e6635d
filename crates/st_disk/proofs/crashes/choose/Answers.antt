use Rattle.std.proofs.Common.{◌+◌, length, ◌∙◌}
use Rattle.st_disk.proofs.Bits.{chosen_rest, halved, rest_count}
use Rattle.st_disk.proofs.crashes.choose.Goals as goal

pub changes-preserved : goal.changes-preserved
changes-preserved c choice n e =
    let was = c.changes.invariant choice n e in
    let some = c.in-len1-up.len_at_least in (
      was.0 + 1,
      halved was.0 choice c.changes.left was.1,
      rest_count c.changes.rest.now was.0 (n + length c.args.changes.now) some was.2,
      chosen_rest was.0 choice c.changes.left c.changes.rest.now c.change-item.result _ _ was.1 c.change-item.is some c.in_ok-choose_one.ensures ∙ was.3,
    )
