use Rattle.st_answer.specs.declared.errors.Told.{Told}
use Rattle.std.proofs.Common.{ℕ, List, [], ◌∷◌, Option, Some, sym, ◌∙◌, ap, subst}
use Rattle.st_disk.specs.Disks.{Log}
use Rattle.st_disk.specs.Events.{Event, Found, events}
use Rattle.st_disk.specs.Pairs.{Entry, Files}
use Rattle.st_shelf.specs.Loans.{LoansView}
use Rattle.st_spool.specs.Publishing.{RanAsBefore}
use Rattle.st_spool.specs.Recalling.{history_of, taken_of}
use Rattle.st_spool.specs.Standing.{in_doubt}
use Rattle.st_spool.specs.States.{SpoolState}
use Rattle.st_spool.specs.declared.state.Doubt.{Doubt}
use Rattle.st_answer.specs.Bounds.{ReadsForAnswer}
use Rattle.st_answer.specs.Lending.{LendsNone}
use Rattle.st_answer.specs.Replies.{Blames}
use Rattle.st_answer.specs.Spools.{times_in, spool_holds}
use Rattle.st_answer.proofs.SpoolHolds.{none_out}
use Rattle.st_pairs.specs.Pairs.{IsWholePair}
use Rattle.st_commands.specs.Commands.{KeepsPairs, HasDiskFault}
use Rattle.st_commands.proofs.Commanding.{stays_clear, keeps_pairs}
use Rattle.st_commands.proofs.Opening.{no_answer, no_write, reads_none, lends_none, took_so, asks_found}
use Rattle.st_commands.proofs.Querying.{writes_whole, names_hurt, disk_ends, write_ends}
use Rattle.st_commands.proofs.Staying.{kept_none}
use Rattle.st_commands.proofs.queries.query.Goals as goal

pub returns-in-Err-clause-answers : goal.returns-in-Err-clause-answers
returns-in-Err-clause-answers g c first pairs known given =
    no_answer _ pairs (g.O.Sink.written c.args.out.now) c.in-Err.ended.outcome c.in-Err.ensures.ended.1

pub returns-in-Err-clause-images : goal.returns-in-Err-clause-images
returns-in-Err-clause-images g c first known = c.in-Err.ensures.opens first known

pub returns-in-Err-clause-write : goal.returns-in-Err-clause-write
returns-in-Err-clause-write g c = no_write (g.O.Sink.faults c.args.out.now) c.in-Err.ended.outcome c.in-Err.ensures.ended.1

pub returns-in-Err-clause-reads : goal.returns-in-Err-clause-reads
returns-in-Err-clause-reads g c first pairs known given =
    reads_none c.args.query.now c.args.now (Some pairs) (g.D.Shelf.loans c.args.shelf) (g.D.Shelf.loans c.in-Err.ended.shelf) c.in-Err.ensures.ended.3

pub returns-in-Err-clause-loans : goal.returns-in-Err-clause-loans
returns-in-Err-clause-loans g c = lends_none (g.D.Shelf.loans c.args.shelf) (g.D.Shelf.loans c.in-Err.ended.shelf) c.in-Err.ensures.ended.3

pub close-requires : goal.close-requires
close-requires g c =
    none_out c.answer_into-told.new.store.state.holds
    (λ hold. c.answer_into-told.ensures.spent.1.times hold ∙ ap (λ (s : SpoolState). times_in s.holds hold) c.in-Ok.ensures.state)

pub returns-clause-answers : goal.returns-clause-answers
returns-clause-answers g c first pairs known given =
    let D = g.D.Shelf in
    let a = c.in-Ok.spool in
    let b = c.answer_into-told.new.store in
    let r = c.answer_into-told.result in
    let took = took_so (List ℕ) Told (spool_holds a.state (history_of D.log a) (taken_of D.log a)) (spool_holds b.state (history_of D.log b) (taken_of D.log b)) _ _ _ c.answer_into-told.ensures.asks in
    let asked = asks_found IsWholePair D.log _ a b first pairs (c.in-Ok.ensures.opens first known) c.in-Ok.ensures.state c.answer_into-told.ensures.spent.0.became given took in
    let blames : Blames (Some pairs) r = subst (λ (o : Option (List Entry)). Blames o r) asked c.answer_into-told.ensures.blames in
    record {
      writes = λ whole. writes_whole _ pairs (g.O.Sink.written c.args.out.now) (g.O.Sink.written c.answer_into-told.new.out) r c.outcome_of.result c.outcome_of.ensures whole (c.answer_into-told.ensures.replies pairs asked whole) blames;
      hurt = names_hurt pairs r c.outcome_of.result c.outcome_of.ensures blames;
    }

pub returns-clause-images : goal.returns-clause-images
returns-clause-images g c first known =
    let D = g.D.Shelf in
    let a = c.in-Ok.spool in
    let b = c.answer_into-told.new.store in
    let e = c.in-Ok.ensures.opens first known in
    let h : List Event = Found e.pairs ∷ [] in
    let f : Files = record { block = []; index = [] } in
    let stands = e.stands f in
    let became = c.answer_into-told.ensures.spent.0.became in
    let no_doubt = became.doubt ∙ ap (λ (s : SpoolState). s.doubt) c.in-Ok.ensures.state in
    let clears = stays_clear first (D.log a.shelf) (D.log b.shelf) e.pairs e.found e.images
    (λ m is.
    let start = ((kept_none D.log D.id D.faults a).keeps (events first) h f stands).images m is in
    let still = became.still m (events first) h f (record { stands = stands; images = start }) in
    subst (λ (d : Doubt). RanAsBefore m (D.log b.shelf) h (in_doubt d f)) no_doubt still.images) in
    subst (λ (o : Option Log). KeepsPairs first o c.outcome_of.result) (sym (ap D.log c.close.ensures)) (keeps_pairs first (D.log b.shelf) c.outcome_of.result clears)

pub returns-clause-disk : goal.returns-clause-disk
returns-clause-disk g c =
    let D = g.D.Shelf in
    let disk = disk_ends _ _ c.answer_into-told.result c.outcome_of.result c.outcome_of.ensures c.answer_into-told.ensures.disk in
    subst (λ n. HasDiskFault n (D.faults c.close.result) c.outcome_of.result) c.in-Ok.ensures.same.0
    (subst (λ (s : g.row.D.Denot). HasDiskFault (D.faults c.in-Ok.spool.shelf) (D.faults s) c.outcome_of.result) (sym c.close.ensures) disk)

pub returns-clause-write : goal.returns-clause-write
returns-clause-write g c = write_ends _ _ c.answer_into-told.result c.outcome_of.result c.outcome_of.ensures c.answer_into-told.ensures.write

pub returns-clause-reads : goal.returns-clause-reads
returns-clause-reads g c first pairs known given =
    let D = g.D.Shelf in
    let a = c.in-Ok.spool in
    let b = c.answer_into-told.new.store in
    let took = took_so (List ℕ) Told (spool_holds a.state (history_of D.log a) (taken_of D.log a)) (spool_holds b.state (history_of D.log b) (taken_of D.log b)) _ _ _ c.answer_into-told.ensures.asks in
    let asked = asks_found IsWholePair D.log _ a b first pairs (c.in-Ok.ensures.opens first known) c.in-Ok.ensures.state c.answer_into-told.ensures.spent.0.became given took in
    let reads = subst (λ (o : Option (List Entry)). ReadsForAnswer c.args.query.now c.args.now o (D.loans a.shelf) (D.loans b.shelf)) asked c.answer_into-told.ensures.reads in
    subst (λ (l : LoansView). ReadsForAnswer c.args.query.now c.args.now (Some pairs) l (D.loans c.close.result)) c.in-Ok.ensures.same.2
    (subst (λ (s : g.row.D.Denot). ReadsForAnswer c.args.query.now c.args.now (Some pairs) (D.loans a.shelf) (D.loans s)) (sym c.close.ensures) reads)

pub returns-clause-loans : goal.returns-clause-loans
returns-clause-loans g c =
    let D = g.D.Shelf in
    subst (λ (l : LoansView). LendsNone l (D.loans c.close.result)) c.in-Ok.ensures.same.2
    (subst (λ (s : g.row.D.Denot). LendsNone (D.loans c.in-Ok.spool.shelf) (D.loans s)) (sym c.close.ensures) c.answer_into-told.ensures.spent.0.lent)
