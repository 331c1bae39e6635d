use Rattle.std.proofs.Common.{◌≡◌, ℕ, ◌+◌, ◌*◌, ◌≤◌, ◌∷◌, [], ◌++◌, refl, sym, ap, ◌∙◌, subst}
use Rattle.st_base.specs.Records.{Rec}
use Rattle.st_block.specs.BlockText.{room}
use Rattle.st_index.specs.Maker.{HasRecords}
use Rattle.st_lane.specs.Filling.{FillingView, Fills}
use Rattle.st_lane.specs.contracts.filling.Filling.{the_view}
use Rattle.st_lane.proofs.Pushing.{fills_joined, fills_same}
use Rattle.st_lane.proofs.filling.Filling.join.Goals as goal

pub returns-in-Err-clause-adds : goal.returns-in-Err-clause-adds
returns-in-Err-clause-adds c rs f =
    let old : FillingView = the_view c.self.inside in
    fills_same old _ rs (subst (λ (x : FillingView). Fills x rs) (sym c.self.view_is) f) refl refl refl refl refl c.in-Err.ensures.records

pub returns-clause-adds : goal.returns-clause-adds
returns-clause-adds c rs f =
    let old : FillingView = the_view c.self.inside in
    let fits : old.here.used + room c.args.r ≤ old.size = subst (λ (x : FillingView). x.here.used + room c.args.r ≤ x.size) (sym c.self.view_is) c.requires in
    let at : c.position_in-position.result ≡ old.size * old.done + old.here.used = c.position_in-position.ensures.value ∙ ap (λ n. old.size * old.done + n) c.next_offset.ensures in
    fills_joined old _ rs c.args.r (subst (λ (x : FillingView). Fills x rs) (sym c.self.view_is) f) c.again.ensures.range c.self.invariant.begun fits c.self.invariant.done refl refl refl refl
    c.add-2.ensures.records
    (λ given h. subst (λ (p : ℕ). HasRecords c.add.new.self (given ++ (p, c.args.r) ∷ [])) at (subst (λ (x : Rec). HasRecords c.add.new.self (given ++ (c.position_in-position.result, x) ∷ [])) c.again.ensures.same (c.in-Ok.ensures.records given h)))
