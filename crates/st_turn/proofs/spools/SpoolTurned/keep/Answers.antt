use Rattle.st_turn.proofs.Spooled.{keeps_self}
use Rattle.st_turn.proofs.spools.SpoolTurned.keep.Goals as goal

pub returns : goal.returns
returns g c =
    let d = g.D.Shelf in
    keeps_self d.log d.faults d.id g.W.PairRule.is_whole c.args.self.now c.recall.ensures
