use Rattle.std.proofs.Common.{rules, ◌<◌, ◌^◌, ◌-◌}
use Rattle.st_eval.proofs.NetRanges.{capped}
use Rattle.st_eval.proofs.ranges.net_range.Goals as goal

pub overflow_cast-result-in-V4 : goal.overflow_cast-result-in-V4
overflow_cast-result-in-V4 c =
    let small : c.in-V4.number < 2 ^ 32 = search rules in
    record { fits = capped 32 (32 - c.min-host.result) c.in-V4.number c.cleared-low.result c.ones.result (search rules) small (search rules) (search rules) }

pub overflow_add-result-in-V6 : goal.overflow_add-result-in-V6
overflow_add-result-in-V6 c =
    let small : c.in-V6.number < 2 ^ 128 = search rules in
    record { fits = capped 128 (128 - c.min-host-in-V6.result) c.in-V6.number c.cleared-low-in-V6.result c.ones-in-V6.result (search rules) small (search rules) (search rules) }
