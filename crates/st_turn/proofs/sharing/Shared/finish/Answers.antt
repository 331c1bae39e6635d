use Rattle.std.proofs.Common.{◌∙◌, ap, subst, map}
use Rattle.st_turn.specs.Parts.{Booked}
use Rattle.st_turn.specs.Passes.{PassView, SharedView, state_of}
use Rattle.st_turn.specs.Ends.{Ended}
use Rattle.st_turn.proofs.Shut.{shut, in_slot}
use Rattle.st_turn.proofs.sharing.Shared.finish.Goals as goal

pub unreachable-requires : goal.unreachable-requires
unreachable-requires g c =
    let key = c.self.inside.table.shared.key.value in
    let place = c.lead.inside.place in
    let out = shut g.S.Turned.facts g.S.Turned.keeps key place.id c.args.passes.items place.me _ _ c.take-slot.result c.args.self.base c.args.self.passes c.self.inside.passes
    c.lead.invariant.0 (ap (λ (v : PassView g.row.S.Denot). v.state) c.lead.view_is ∙ c.gather-lead.ensures.state) c.requires.numbers c.requires.count.0 c.requires.count.1
    (ap (λ (v : SharedView g.row.S.Denot). v.passes) c.self.view_is) c.self.invariant.2 (ap (λ (v : SharedView g.row.S.Denot). v.base) c.self.view_is) c.close_with-closed.ensures.values.2 c.take-slot.ensures.value in
    c.in_default.not-Some out.0 out.1

pub returns : goal.returns
returns g c =
    let key = c.self.inside.table.shared.key.value in
    let place = c.lead.inside.place in
    let out = shut g.S.Turned.facts g.S.Turned.keeps key place.id c.args.passes.items place.me _ _ c.take-slot.result c.args.self.base c.args.self.passes c.self.inside.passes
    c.lead.invariant.0 (ap (λ (v : PassView g.row.S.Denot). v.state) c.lead.view_is ∙ c.gather-lead.ensures.state) c.requires.numbers c.requires.count.0 c.requires.count.1
    (ap (λ (v : SharedView g.row.S.Denot). v.passes) c.self.view_is) c.self.invariant.2 (ap (λ (v : SharedView g.row.S.Denot). v.base) c.self.view_is) c.close_with-closed.ensures.values.2 c.take-slot.ensures.value in
    let same = in_slot g.S.Turned.facts g.S.Turned.keeps key c.take-slot.result out.0 c.in-Some.home (record { spool = c.home.inside.spool; lines = c.home.inside.lines.items }) out.1 c.in-Some.is c.home.view_is in
    record {
      ended = subst (λ (h : Booked g.row.S.Denot). Ended (g.S.Turned.facts c.args.self.base) (g.S.Turned.facts h.spool) (map state_of c.args.passes.items)) same out.2;
      keeps = subst (λ (h : Booked g.row.S.Denot). g.S.Turned.keeps c.args.self.base h.spool) same out.3;
    }
