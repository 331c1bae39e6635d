use Rattle.std.proofs.Common.{◌<◌, sym, ◌∙◌, subst, arith}
use Rattle.st_answer.specs.Lending.{LendsNone}
use Rattle.st_answer.proofs.Staying.{goes_on_trans, store_trans, held_back}
use Rattle.st_answer.proofs.Lending.{lends_none}
use Rattle.st_answer.proofs.Holding.{sets_back}
use Rattle.st_answer.proofs.answering.answer.Goals as goal

pub returns-in-Ok-clause-spent : goal.returns-in-Ok-clause-spent
returns-in-Ok-clause-spent g c =
    let takes = c.in-Ok.ensures.holds in
    let later = g.met.S.Store.becomes_later in
    let stays = store_trans (later _ _ _) c.answer_held-result.ensures.stays c.close_all.ensures.stays in
    let gives = c.release.ensures.holds in
    let none = lends_none _ _ _ _ _ _ c.answer_held-result.ensures.files.1 c.close_all.ensures.loans in
    let out : 0 < g.S.Store.times_held c.hold.new.self c.in-Ok.hold = omega (arith, c.in-Ok.ensures.held.more) in (
      record {
        became = later _ _ _ c.in-Ok.ensures.becomes (later _ _ _ stays.became c.release.ensures.becomes);
        id = c.release.ensures.rest.0 ∙ (stays.id ∙ c.in-Ok.ensures.rest.0);
        held = omega (arith, takes.held, stays.holds.held, gives.held);
        seen = goes_on_trans takes.seen (goes_on_trans stays.holds.seen gives.seen);
        out = sets_back _ _ _ _ _ _ takes.out stays.holds.out (stays.others.set c.in-Ok.hold out) gives.out;
        lent = subst (λ z. LendsNone z (g.S.Store.loans c.release.new.self)) c.in-Ok.ensures.rest.1 (subst (LendsNone (g.S.Store.loans c.hold.new.self)) (sym c.release.ensures.rest.1) none);
      },
      held_back c.in-Ok.hold c.in-Ok.ensures.held stays.others c.release.ensures.held,
    )
