use Rattle.std.proofs.Common.{List, [], ◌∷◌, Option, sym, ◌∙◌, ap, subst, inr}
use Rattle.st_disk.specs.Disks.{Log, reads}
use Rattle.st_disk.specs.Events.{Event, Found, events}
use Rattle.st_disk.specs.Pairs.{Entry, Files}
use Rattle.st_disk.proofs.OneSet.{one_file_set}
use Rattle.st_spool.specs.Entering.{FailsToEnter}
use Rattle.st_spool.specs.Publishing.{RanAsBefore}
use Rattle.st_spool.specs.Standing.{in_doubt}
use Rattle.st_spool.specs.States.{SpoolView}
use Rattle.st_spool.specs.declared.state.Doubt.{Doubt}
use Rattle.st_commands.specs.Commands.{KeepsPairs}
use Rattle.st_commands.specs.Reports.{Reports}
use Rattle.st_commands.proofs.Commanding.{entered_clears, stays_clear, keeps_pairs}
use Rattle.st_commands.proofs.Opening.{no_report, no_write}
use Rattle.st_commands.proofs.Staying.{keeps_then}
use Rattle.st_commands.proofs.commands.report_shelf.Goals as goal

pub returns-in-Err-clause-lines : goal.returns-in-Err-clause-lines
returns-in-Err-clause-lines g c = λ first pairs known given. no_report c.args.report pairs (g.O.Sink.written c.args.out.now) c.in-Err.ended.outcome c.in-Err.ensures.ended.1

pub returns-in-Err-clause-images : goal.returns-in-Err-clause-images
returns-in-Err-clause-images g c = λ first known. c.in-Err.ensures.opens first known

pub returns-in-Err-clause-write : goal.returns-in-Err-clause-write
returns-in-Err-clause-write g c = no_write (g.O.Sink.faults c.args.out.now) c.in-Err.ended.outcome c.in-Err.ensures.ended.1

pub returns-in-Err-hold-clause-images : goal.returns-in-Err-hold-clause-images
returns-in-Err-hold-clause-images g c = λ first known.
    let D = g.D.Shelf in
    let back = ap D.log (c.close.ensures ∙ ap (λ (v : SpoolView g.row.D.Denot). v.shelf) c.in-Err-hold.ensures.state) in
    subst (FailsToEnter first) (sym back) (inr (entered_clears first (D.log c.in-Ok.spool.shelf) c.in-Ok.spool.state (c.in-Ok.ensures.opens first known)))

pub returns-clause-lines : goal.returns-clause-lines
returns-clause-lines g c = λ first pairs known given.
    let D = g.D.Shelf in
    let entered = c.in-Ok.ensures.opens first known in
    let h : List Event = Found entered.pairs ∷ [] in
    let f : Files = record { block = []; index = [] } in
    let stands = entered.stands f in
    let cleared = entered.images.cleared in
    let here = ap D.log (ap (λ (v : SpoolView g.row.D.Denot). v.shelf) c.in-Ok-hold.ensures.state.1) ∙ cleared.is in
    let wrote = c.report_pairs-outcome.ensures.lines cleared.log (events first) h f here (c.hold.ensures.stands (events first) h f stands) in
    let held = c.in-Ok-hold.ensures.held (events first) h f stands in
    let same = one_file_set (reads first) entered.pairs pairs entered.found given in
    subst (λ (ps : List Entry). Reports c.args.report ps (g.O.Sink.written c.args.out.now) (g.O.Sink.written c.report_pairs-outcome.new.out) c.report_pairs-outcome.result) (held ∙ same) wrote

pub returns-clause-images : goal.returns-clause-images
returns-clause-images g c = λ first known.
    let D = g.D.Shelf in
    let entered = c.in-Ok.ensures.opens first known in
    let h : List Event = Found entered.pairs ∷ [] in
    let f : Files = record { block = []; index = [] } in
    let stands = c.hold.ensures.stands (events first) h f (entered.stands f) in
    let one = c.report_pairs-outcome.ensures.stays.kept.keeps (events first) h f stands in
    let two = c.release.ensures.keeps (events first) h f one.stands in
    let released = ap (λ (v : SpoolView g.row.D.Denot). v.state.doubt) c.release.ensures.state in
    let reported = ap (λ (v : SpoolView g.row.D.Denot). v.state.doubt) c.report_pairs-outcome.ensures.stays.kept.state in
    let holding = ap (λ (v : SpoolView g.row.D.Denot). v.state.doubt) c.in-Ok-hold.ensures.state.1 in
    let no_doubt = released ∙ (reported ∙ (holding ∙ ap (λ (s : Rattle.st_spool.specs.States.SpoolState). s.doubt) c.in-Ok.ensures.state)) in
    let both = keeps_then (D.log c.hold.new.self.shelf) (D.log c.report_pairs-outcome.new.spool.shelf) (D.log c.release.new.self.shelf) c.report_pairs-outcome.new.spool.state c.release.new.self.state (events first) h f released one two in
    let here = ap D.log (ap (λ (v : SpoolView g.row.D.Denot). v.shelf) c.in-Ok-hold.ensures.state.1) in
    let clears = stays_clear first (D.log c.in-Ok.spool.shelf) (D.log c.release.new.self.shelf) entered.pairs entered.found entered.images
    (λ m is. subst (λ (d : Doubt). RanAsBefore m (D.log c.release.new.self.shelf) h (in_doubt d f)) no_doubt (both.images m (here ∙ is))) in
    subst (λ (o : Option Log). KeepsPairs first o c.report_pairs-outcome.result) (sym (ap D.log c.close-2.ensures)) (keeps_pairs first (D.log c.release.new.self.shelf) c.report_pairs-outcome.result clears)
