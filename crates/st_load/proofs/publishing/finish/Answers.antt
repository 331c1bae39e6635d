use Rattle.std.proofs.Common.{refl, ◌∙◌, inr}
use Rattle.st_load.proofs.Finishing.{whole_given}
use Rattle.st_load.proofs.Published.{not_begun, ready_same, ready_fails, ready_lines, ready_ages}
use Rattle.st_load.proofs.publishing.finish.Goals as goal

pub returns-in-Err-clause-finishes : goal.returns-in-Err-clause-finishes
returns-in-Err-clause-finishes g c = λ log earlier h f rs known stands has.
    not_begun g.D.Shelf.log c.args.spool.now c.reserve.new.self c.give_up.new.spool earlier h f rs _ _ _ _ _ _ c.reserve.ensures.state stands c.requires.running c.give_up.ensures.keeps (inr refl)

pub returns-in-Err-seal-clause-finishes : goal.returns-in-Err-seal-clause-finishes
returns-in-Err-seal-clause-finishes g c = λ log earlier h f rs known stands has.
    not_begun g.D.Shelf.log c.args.spool.now c.reserve.new.self c.seal.new.spool earlier h f rs _ _ _ _ _ _ c.reserve.ensures.state stands c.requires.running c.in-Err-seal.ensures.spool c.in-Err-seal.ensures.failed

pub returns-in-Err-publish-clause-finishes : goal.returns-in-Err-publish-clause-finishes
returns-in-Err-publish-clause-finishes g c = λ log earlier h f rs known stands has.
    let same = ready_same c.args.spool.now c.reserve.new.self c.seal.new.spool c.reserve.ensures.state c.in-Ok.ensures.spool in
    let whole = whole_given c.args.lane.filling.size rs _ _ (c.in-Ok.ensures.pair rs has) in
    ready_fails g.D.Shelf.log c.args.spool.now c.seal.new.spool _ _ earlier h f _ rs _ _ _ same c.micros.ensures whole stands c.requires.running
    (g.D.Shelf.log c.publish.new.spool.shelf) c.publish.new.spool.state _ _ c.in-Err-publish.end (λ here. c.in-Err-publish.ensures.publishes earlier h f here) c.in-Err-publish.ensures.state

pub returns-in-Err-write_line-clause-finishes : goal.returns-in-Err-write_line-clause-finishes
returns-in-Err-write_line-clause-finishes g c = λ log earlier h f rs known stands has.
    let same = ready_same c.args.spool.now c.reserve.new.self c.seal.new.spool c.reserve.ensures.state c.in-Ok.ensures.spool in
    let whole = whole_given c.args.lane.filling.size rs _ _ (c.in-Ok.ensures.pair rs has) in
    ready_lines g.D.Shelf.log c.args.spool.now c.seal.new.spool _ _ earlier h f _ rs _ _ _ same c.micros.ensures whole stands c.requires.running
    (g.D.Shelf.log c.publish.new.spool.shelf) c.publish.new.spool.state c.in-Ok-publish.stamp c.in-Ok-publish.ensures.state (λ here. c.in-Ok-publish.ensures.publishes earlier h f here)
    c.records-packets.result _ _ (c.records-packets.ensures ∙ has.fills.count) c.in-Err-write_line.end c.in-Err-write_line.ensures.line

pub returns-clause-finishes : goal.returns-clause-finishes
returns-clause-finishes g c = λ log earlier h f rs known stands has.
    let same = ready_same c.args.spool.now c.reserve.new.self c.seal.new.spool c.reserve.ensures.state c.in-Ok.ensures.spool in
    let whole = whole_given c.args.lane.filling.size rs _ _ (c.in-Ok.ensures.pair rs has) in
    ready_ages g.D.Shelf.log c.args.spool.now c.seal.new.spool _ _ earlier h f _ rs _ _ _ same c.micros.ensures whole stands c.requires.running
    (g.D.Shelf.log c.publish.new.spool.shelf) c.publish.new.spool.state c.in-Ok-publish.stamp c.in-Ok-publish.ensures.state (λ here. c.in-Ok-publish.ensures.publishes earlier h f here)
    c.records-packets.result _ _ (c.records-packets.ensures ∙ has.fills.count)
    (g.D.Shelf.log c.age_all.new.spool.shelf) c.age_all.new.spool.state c.age_all.result c.in-Ok-write_line.ensures.line
    (λ now. c.age_all.ensures.ages earlier _ f now) c.age_all.ensures.failed c.age_all.ensures.state.0 c.age_all.ensures.state.1 refl
