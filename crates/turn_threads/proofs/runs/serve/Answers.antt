use Rattle.std.proofs.Common.{rules, ◌≡◌, ◌<◌, length, map, List, sym, ◌∙◌, ap, subst}
use Rattle.std.proofs.lemmas.List.{length-map}
use Rattle.std.specs.List.{slice_index_or}
use Rattle.st_spool.specs.States.{SpoolView}
use Rattle.st_turn.specs.Passes.{PassView, AreOf, AreStarted, state_of}
use Rattle.st_turn.specs.Ends.{AreNumbered, Ended}
use Rattle.st_turn.specs.Spools.{facts_of}
use Rattle.turn_trials.specs.Resting.{Rests, Rested}
use Rattle.turn_trials.proofs.Rests.{written, started_may, started_end}
use Rattle.turn_threads.proofs.runs.serve.Goals as goal

pub all-requires-after_bounds : goal.all-requires-after_bounds
all-requires-after_bounds g c κs within =
    let d = g.D.Shelf in
    let s = c.in-Ok.both.0 in
    let all = c.in-Ok.both.1.items in
    let n = length c.args.jobs.now in
    let h = facts_of d.log d.faults d.id c.args.spool in
    let slice : c.as_mut_slice.result.now ≡ all = search rules in
    let started : AreStarted s.table s.base h n n all = subst (λ (b : SpoolView g.row.D.Denot). AreStarted s.table b h n n all) (sym c.in-Ok.ensures.shared.0) c.in-Ok.ensures.started in
    let len : length c.args.jobs.now ≡ length c.as_mut_slice.result.now = search rules in
    record {
      len = len;
      can_each = λ i e lt.
          subst (λ (ps : List (PassView (SpoolView g.row.D.Denot))). i < length ps → Rests s (slice_index_or ps i e)) (sym slice) (λ at. started_may s h n n i all e started at) lt;
    }

pub finish-requires-clause-table : goal.finish-requires-clause-table
finish-requires-clause-table g c =
    let d = g.D.Shelf in
    let s = c.in-Ok.both.0 in
    let all = c.in-Ok.both.1.items in
    let qs = c.all.new.passes in
    let n = length c.args.jobs.now in
    let h = facts_of d.log d.faults d.id c.args.spool in
    let slice : c.as_mut_slice.result.now ≡ all = search rules in
    let started : AreStarted s.table s.base h n n all = subst (λ (b : SpoolView g.row.D.Denot). AreStarted s.table b h n n all) (sym c.in-Ok.ensures.shared.0) c.in-Ok.ensures.started in
    let len : length qs ≡ length all = c.all.ensures.passes ∙ ap length slice in
    let whole = written c.in-Ok.both.1.len qs all len (search rules) in
    subst (λ (ps : List (PassView (SpoolView g.row.D.Denot))). AreOf s.table ps) (sym whole)
    (started_end s h n n all qs started len (λ k e lt. subst (λ (ps : List (PassView (SpoolView g.row.D.Denot))). k < length ps → Rested (slice_index_or ps k e) (slice_index_or qs k e)) slice (λ at. c.all.ensures.did_each k e at) lt)).0

pub finish-requires-clause-numbers : goal.finish-requires-clause-numbers
finish-requires-clause-numbers g c =
    let d = g.D.Shelf in
    let s = c.in-Ok.both.0 in
    let all = c.in-Ok.both.1.items in
    let qs = c.all.new.passes in
    let n = length c.args.jobs.now in
    let h = facts_of d.log d.faults d.id c.args.spool in
    let slice : c.as_mut_slice.result.now ≡ all = search rules in
    let started : AreStarted s.table s.base h n n all = subst (λ (b : SpoolView g.row.D.Denot). AreStarted s.table b h n n all) (sym c.in-Ok.ensures.shared.0) c.in-Ok.ensures.started in
    let len : length qs ≡ length all = c.all.ensures.passes ∙ ap length slice in
    let whole = written c.in-Ok.both.1.len qs all len (search rules) in
    subst (λ (ps : List (PassView (SpoolView g.row.D.Denot))). AreNumbered 0 (map state_of ps)) (sym whole)
    (started_end s h n n all qs started len (λ k e lt. subst (λ (ps : List (PassView (SpoolView g.row.D.Denot))). k < length ps → Rested (slice_index_or ps k e) (slice_index_or qs k e)) slice (λ at. c.all.ensures.did_each k e at) lt)).1

pub returns-clause-ended : goal.returns-clause-ended
returns-clause-ended g c =
    let d = g.D.Shelf in
    let s = c.in-Ok.both.0 in
    let all = c.in-Ok.both.1.items in
    let qs = c.all.new.passes in
    let n = length c.args.jobs.now in
    let h = facts_of d.log d.faults d.id c.args.spool in
    let last = facts_of d.log d.faults d.id c.finish.result in
    let slice : c.as_mut_slice.result.now ≡ all = search rules in
    let started : AreStarted s.table s.base h n n all = subst (λ (b : SpoolView g.row.D.Denot). AreStarted s.table b h n n all) (sym c.in-Ok.ensures.shared.0) c.in-Ok.ensures.started in
    let len : length qs ≡ length all = c.all.ensures.passes ∙ ap length slice in
    let whole = written c.in-Ok.both.1.len qs all len (search rules) in
    let numbers : AreNumbered 0 (map state_of qs) = (started_end s h n n all qs started len (λ k e lt. subst (λ (ps : List (PassView (SpoolView g.row.D.Denot))). k < length ps → Rested (slice_index_or ps k e) (slice_index_or qs k e)) slice (λ at. c.all.ensures.did_each k e at) lt)).1 in
    let from : Ended (facts_of d.log d.faults d.id s.base) last (map state_of qs) = subst (λ (ps : List (PassView (SpoolView g.row.D.Denot))). Ended (facts_of d.log d.faults d.id s.base) last (map state_of ps)) whole c.finish.ensures.ended in
    let ended : Ended h last (map state_of qs) = subst (λ (b : SpoolView g.row.D.Denot). Ended (facts_of d.log d.faults d.id b) last (map state_of qs)) c.in-Ok.ensures.shared.0 from in
    (map state_of qs, length-map qs state_of ∙ len ∙ c.in-Ok.ensures.all, numbers, ended)
