use Rattle.std.proofs.Common.{◌+◌, ◌*◌, ◌∙◌, arith, w16}
use Rattle.std.proofs.lemmas.Int.{ints, to_z_pos}
use Rattle.jiff_core.proofs.DateLemmas.{min-lt-epoch_day}
use Rattle.st_query.proofs.time_reader.day.Goals as goal

pub returns-in-Ok-clause-bound : goal.returns-in-Ok-clause-bound
returns-in-Ok-clause-bound c =
    let ymd = c.in-Ok.ensures.value in
    let year = ymd.0 ∙ to_z_pos w16 (c.two.result * 100 + c.two-2.result) (omega arith) in
    let days = c.days_since_min.ensures.value in
    let same = c.from.ensures in
    let later = min-lt-epoch_day c.in-Ok.date (λ first. absurd (omega (arith, ints, first.0, year))) in
    (omega (arith, ints), omega arith)
