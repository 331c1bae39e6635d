use Rattle.std.proofs.Common.{◌++◌, ◌∷◌, [], ℕ, List, Ok, Option, inl, subst}
use Rattle.st_base.specs.Records.{Rec}
use Rattle.st_pcap.specs.Reading.{Gives}
use Rattle.st_spool.specs.History.{set_of}
use Rattle.st_load.specs.Acts.{removals}
use Rattle.st_load.specs.Filling.{HasReadTo}
use Rattle.st_load.specs.Loading.{AreCutFrom}
use Rattle.st_load.proofs.Coming.{failure_stops, whole_stops, unread_stops}
use Rattle.st_load.proofs.Starting.{fresh_read, start_fails, start_whole, start_unread, start_then}
use Rattle.st_load.proofs.loading.load_into.Goals as goal

pub returns-in-Err-clause-job : goal.returns-in-Err-clause-job
returns-in-Err-clause-job g c = λ log earlier h f known stands.
    start_fails c.args.spool.now.state.limit c.args.layout (g.D.Shelf.log c.args.spool.now.shelf) (g.D.Shelf.log c.age_all.new.spool.shelf) c.age_all.new.spool.state c.args.spool.now.state earlier h
    (g.C.Clock.to_come c.args.clock.now) (g.S.Source.left c.args.source.now) (g.O.Sink.written c.args.out.now) c.in-Err.end c.in-Err.ensures.failed
    (c.in-Err.ensures.ages earlier h f stands) c.age_all.ensures.state.0.0

pub returns-in-Ok-Some-clause-job : goal.returns-in-Ok-Some-clause-job
returns-in-Ok-Some-clause-job g c = λ log earlier h f known stands.
    let a = c.in_default.ensures.ages earlier h f stands in
    let (now, is, covers) = a.images log known in
    start_then c.args.spool.now.state.limit c.args.layout (g.D.Shelf.log c.args.spool.now.shelf) (g.D.Shelf.log c.age_all.new.spool.shelf) c.age_all.new.spool.state c.args.spool.now.state earlier h f
    (g.C.Clock.to_come c.args.clock.now) (g.S.Source.left c.args.source.now) (g.O.Sink.written c.args.out.now) a c.age_all.ensures.state.0.0 c.age_all.ensures.state.1
    (λ (pairs : List (List Rec)). (bytes : List ℕ) → HasReadTo c.next.new.self bytes (c.in-Ok-Some.first ∷ []) (g.S.Source.left c.next.new.source) → AreCutFrom c.args.layout bytes c.load_pairs.result pairs)
    c.load_pairs.result (g.D.Shelf.log c.load_pairs.new.spool.shelf) c.load_pairs.new.spool.state (g.C.Clock.to_come c.load_pairs.new.clock) (g.O.Sink.written c.load_pairs.new.out)
    (λ pairs are bytes left. are bytes (subst (λ (o : Option Rec). Gives bytes [] c.next.new.self (g.S.Source.left c.next.new.source) (Ok o)) c.in-Ok-Some.field-0-is
    (c.in-Ok-Some.ensures.gives bytes bytes [] left (fresh_read c.new-reader.result bytes c.new-reader.ensures))))
    (c.load_pairs.ensures.job now earlier (h ++ removals c.age_all.new.spool.state.limit (set_of h)) f is a.stands)

pub returns-in-Ok-None-clause-job : goal.returns-in-Ok-None-clause-job
returns-in-Ok-None-clause-job g c = λ log earlier h f known stands.
    let a = c.in_default.ensures.ages earlier h f stands in
    start_whole c.args.spool.now.state.limit c.args.layout (g.D.Shelf.log c.args.spool.now.shelf) (g.D.Shelf.log c.age_all.new.spool.shelf) c.age_all.new.spool.state c.args.spool.now.state earlier h f
    (g.C.Clock.to_come c.args.clock.now) (g.S.Source.left c.args.source.now) (g.O.Sink.written c.args.out.now) a c.age_all.ensures.state.0.0 c.age_all.ensures.state.1
    c.in_default.ensures.runs
    (λ bytes left.
    let gives = subst (λ (o : Option Rec). Gives bytes [] c.next.new.self (g.S.Source.left c.next.new.source) (Ok o)) c.in-Ok-None.field-0-is
    (c.in-Ok-None.ensures.gives bytes bytes [] left (fresh_read c.new-reader.result bytes c.new-reader.ensures)) in
    gives.0)

pub returns-in-Err-next-clause-job : goal.returns-in-Err-next-clause-job
returns-in-Err-next-clause-job g c = λ log earlier h f known stands.
    let a = c.in_default.ensures.ages earlier h f stands in
    start_unread c.args.spool.now.state.limit c.args.layout (g.D.Shelf.log c.args.spool.now.shelf) (g.D.Shelf.log c.age_all.new.spool.shelf) c.age_all.new.spool.state c.args.spool.now.state earlier h f
    (g.C.Clock.to_come c.args.clock.now) (g.S.Source.left c.args.source.now) (g.O.Sink.written c.args.out.now) a c.age_all.ensures.state.0.0 c.age_all.ensures.state.1
    c.in-Err-next.error c.unread.result c.in_default.ensures.runs c.unread.ensures
    (λ bytes left. c.in-Err-next.ensures.gives bytes bytes [] left (fresh_read c.new-reader.result bytes c.new-reader.ensures))

pub returns-in-Err-clause-input : goal.returns-in-Err-clause-input
returns-in-Err-clause-input g c = λ bytes left. failure_stops c.args.layout.size bytes c.in-Err.end (inl c.in-Err.ensures.failed)

pub returns-in-Ok-Some-clause-input : goal.returns-in-Ok-Some-clause-input
returns-in-Ok-Some-clause-input g c = λ bytes left.
    c.load_pairs.ensures.input bytes (subst (λ (o : Option Rec). Gives bytes [] c.next.new.self (g.S.Source.left c.next.new.source) (Ok o)) c.in-Ok-Some.field-0-is
    (c.in-Ok-Some.ensures.gives bytes bytes [] left (fresh_read c.new-reader.result bytes c.new-reader.ensures)))

pub returns-in-Ok-None-clause-input : goal.returns-in-Ok-None-clause-input
returns-in-Ok-None-clause-input g c = λ bytes left.
    let gives = subst (λ (o : Option Rec). Gives bytes [] c.next.new.self (g.S.Source.left c.next.new.source) (Ok o)) c.in-Ok-None.field-0-is
    (c.in-Ok-None.ensures.gives bytes bytes [] left (fresh_read c.new-reader.result bytes c.new-reader.ensures)) in
    whole_stops c.args.layout.size bytes gives.0

pub returns-in-Err-next-clause-input : goal.returns-in-Err-next-clause-input
returns-in-Err-next-clause-input g c = λ bytes left.
    unread_stops c.args.layout.size bytes c.in-Err-next.error c.unread.result c.unread.ensures (c.in-Err-next.ensures.gives bytes bytes [] left (fresh_read c.new-reader.result bytes c.new-reader.ensures))
