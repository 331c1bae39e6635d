use Rattle.std.proofs.Common.{arith}
use Rattle.st_base.specs.Damages.{damage_view}
use Rattle.st_table.proofs.Indexes.{footer_place}
use Rattle.st_table.proofs.index.read_handle.Goals as goal

pub placed-requires : goal.placed-requires
placed-requires g c =
    let low = footer_place _ (damage_view c.in-Err-read_footer.damage) c.in-Err-read_footer.ensures in
    let some = c.if-size.false in
    omega arith
