use Rattle.std.proofs.Common.{rules, ◌≡◌, List, sym, ◌∙◌, subst}
use Rattle.st_spool.specs.States.{SpoolView}
use Rattle.st_turn.specs.Passes.{PassView, AreStarted}
use Rattle.st_turn.specs.Spools.{facts_of}
use Rattle.seated_answer.proofs.Fours.{popped, first_rests, second_rests, third_rests, fourth_rests}
use Rattle.seated_answer.proofs.runs.serve.Goals as goal

pub four-requires-clause-front : goal.four-requires-clause-front
four-requires-clause-front g c κs within =
    let d = g.D.Shelf in
    let s = c.in-Ok.both.0 in
    let all = c.in-Ok.both.1.items in
    let h = facts_of d.log d.faults d.id c.args.spool in
    let known = d.log s.base.shelf in
    let len : c.in-Ok.both.1.len ≡ 4 = search rules in
    let p4 = c.pop-fourth.ensures in
    let p3 = c.pop-third.ensures in
    let p2 = c.pop-second.ensures in
    let p1 = c.pop-first.ensures in
    let f = popped all _ _ _ _ _ _ _ _ _ c.in-Ok.ensures.all len c.pop-first.result c.pop-second.result c.pop-third.result c.pop-fourth.result
    p4.variant.1 p4.len p4.items p3.variant.1 p3.len p3.items p2.variant.1 p2.len p2.items p1.variant.1 p1.len p1.items in
    let started : AreStarted s.table s.base h 4 4 all = subst (λ (b : SpoolView g.row.D.Denot). AreStarted s.table b h 4 4 all) (sym c.in-Ok.ensures.shared.0) c.in-Ok.ensures.started in
    let begun = subst (λ (ps : List (PassView (SpoolView g.row.D.Denot))). AreStarted s.table s.base h 4 4 ps) f.all_is started in
    let sits = c.passes_sit.ensures.started in (
      record { pass = f.w; is = c.new-a.ensures ∙ f.a_is; rests = first_rests s h 4 4 f.w f.x f.y f.z begun sits known },
      record { pass = f.x; is = c.new-b.ensures ∙ f.b_is; rests = second_rests s h 4 4 f.w f.x f.y f.z begun sits known },
    )

pub four-requires-clause-back : goal.four-requires-clause-back
four-requires-clause-back g c κs within =
    let d = g.D.Shelf in
    let s = c.in-Ok.both.0 in
    let all = c.in-Ok.both.1.items in
    let h = facts_of d.log d.faults d.id c.args.spool in
    let known = d.log s.base.shelf in
    let len : c.in-Ok.both.1.len ≡ 4 = search rules in
    let p4 = c.pop-fourth.ensures in
    let p3 = c.pop-third.ensures in
    let p2 = c.pop-second.ensures in
    let p1 = c.pop-first.ensures in
    let f = popped all _ _ _ _ _ _ _ _ _ c.in-Ok.ensures.all len c.pop-first.result c.pop-second.result c.pop-third.result c.pop-fourth.result
    p4.variant.1 p4.len p4.items p3.variant.1 p3.len p3.items p2.variant.1 p2.len p2.items p1.variant.1 p1.len p1.items in
    let started : AreStarted s.table s.base h 4 4 all = subst (λ (b : SpoolView g.row.D.Denot). AreStarted s.table b h 4 4 all) (sym c.in-Ok.ensures.shared.0) c.in-Ok.ensures.started in
    let begun = subst (λ (ps : List (PassView (SpoolView g.row.D.Denot))). AreStarted s.table s.base h 4 4 ps) f.all_is started in
    let sits = c.passes_sit.ensures.started in (
      record { pass = f.y; is = c.new-c.ensures ∙ f.c_is; rests = third_rests s h 4 4 f.w f.x f.y f.z begun sits known },
      record { pass = f.z; is = c.new-d.ensures ∙ f.d_is; rests = fourth_rests s h 4 4 f.w f.x f.y f.z begun sits known },
    )
