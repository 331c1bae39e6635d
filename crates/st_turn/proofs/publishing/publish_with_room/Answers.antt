use Rattle.std.proofs.Common.{inl, subst}
use Rattle.st_spool.specs.States.{SpoolView}
use Rattle.st_turn.specs.SpoolCalls.{PublishesBy}
use Rattle.st_turn.proofs.publishing.publish_with_room.Goals as goal

pub returns : goal.returns
returns g c =
    let d = g.D.Shelf in
    let r = c.reserve.new.self in
    let w = c.publish-answer.new.self in
    let e = c.publish-answer.ensures in (
      r.spare,
      inl (
        c.publish-answer.result,
        c.shared_answer.ensures,
        subst (λ (s : SpoolView g.row.D.Denot). PublishesBy g.W.PairRule.is_whole d.log d.faults d.id d.loans s w g.D.Draft.Draft.sealed_bytes c.args.pair c.args.floor c.publish-answer.result) c.in_default.ensures.state
            (record { published = e.published; state = e.state; refused = e.refused; cause = e.cause; rest = e.rest }),
      ),
    )
