use Rattle.std.proofs.Common.{◌≡◌, ap, ap₂, sym, ◌∙◌, subst}
use Rattle.st_turn.specs.Steps.{visitor, joined}
use Rattle.st_turn.specs.Telling.{Saw}
use Rattle.st_turn.specs.Passes.{PassView}
use Rattle.st_turn.proofs.BothSeen.{met_both}
use Rattle.st_turn.proofs.sharing.Shared.meet.Goals as goal

pub returns : goal.returns
returns g c =
    let a = c.tell-2.new.to in
    let b = c.tell-2.new.from in
    let mid : b ≡ c.tell.new.to = c.tell-2.ensures.from ∙ c.look_at.ensures.same in
    let mine : c.tell.new.from ≡ c.args.a.now = c.tell.ensures.from in
    let saw : Saw b.state = subst (λ (p : PassView g.row.S.Denot). Saw p.state) (sym mid) c.look_at.ensures.saw in
    let told = c.tell.ensures.to in
    let back = c.tell-2.ensures.to in
    let met = met_both c.args.a.now c.args.b.now a b
    (back.3 ∙ ap (λ (p : PassView g.row.S.Denot). p.loans) mine)
    (ap (λ (p : PassView g.row.S.Denot). p.loans) mid ∙ told.3)
    (ap (λ (p : PassView g.row.S.Denot). p.table) mid ∙ told.0)
    (ap (λ (p : PassView g.row.S.Denot). p.id) mid ∙ told.1)
    (ap (λ (p : PassView g.row.S.Denot). p.state) mid ∙ told.2)
    saw
    (back.0 ∙ ap (λ (p : PassView g.row.S.Denot). p.table) mine)
    (back.1 ∙ ap (λ (p : PassView g.row.S.Denot). p.id) mine)
    (back.2 ∙ ap₂ (λ (p q : PassView g.row.S.Denot). joined p.state (visitor q.state.card.seen)) mine (sym c.tell-2.ensures.from)) in
    record { a = met.0; b = met.1; both = met.2 }
