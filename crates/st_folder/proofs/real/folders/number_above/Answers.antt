use Rattle.std.proofs.Common.{take, All, arith, subst}
use Rattle.std.proofs.lemmas.List.{take_all}
use Rattle.std.proofs.lemmas.List.Elements.{All-more}
use Rattle.st_folder.specs.Numbers.{IsBelow}
use Rattle.st_folder.proofs.Drafts.{all_below_more}
use Rattle.st_folder.proofs.real.folders.number_above.Goals as goal

pub names-preserved : goal.names-preserved
names-preserved c =
    let before = all_below_more c.names.next c.in-Some.higher c.in-Some.ensures.0 (take c.names.name-index c.args.names.now) c.names.invariant in
    All-more (IsBelow c.in-Some.higher) c.args.names.now c.names.name-index _ c.names-test.true before c.in-Some.ensures.1

pub returns : goal.returns
returns c =
    let whole = take_all c.names.name-index c.args.names.now (omega (arith, c.names-test.false)) in
    subst (All (IsBelow c.names.next)) whole c.names.invariant
