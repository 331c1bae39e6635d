use Rattle.std.proofs.Common.{◌≡◌, drop, ap, ◌∙◌, arith}
use Rattle.std.specs.Prelude.{nat_eq}
use Rattle.std.specs.List.{common_prefix_len}
use Rattle.std.specs.Ordering.{nat_cmp}
use Rattle.std.specs.Cmp.Lexicographic.{slice_cmp}
use Rattle.st_tblock.proofs.Matching.{compares_far, compares_near}
use Rattle.st_tblock.proofs.prefix.against.Goals as goal

pub returns-then-matched-shared-clause-compares : goal.returns-then-matched-shared-clause-compares
returns-then-matched-shared-clause-compares c =
    compares_far c.args.key.now c.args.unshared.now c.args.matched c.args.shared c.if-matched-shared.true

pub returns-clause-compares : goal.returns-clause-compares
returns-clause-compares c =
    let key = c.args.key.now in
    let unshared = c.args.unshared.now in
    let same = c.common-same.result in
    let common : same ≡ common_prefix_len nat_eq unshared (drop c.args.shared key) =
    c.common-same.ensures.same ∙ ap (common_prefix_len nat_eq unshared) c.split_at.ensures.back in
    let order : c.cmp-order.result ≡ slice_cmp nat_cmp (drop same unshared) (drop same (drop c.args.shared key)) = cc in
    compares_near key unshared c.args.matched c.args.shared same c.cmp-order.result (omega arith) common order
