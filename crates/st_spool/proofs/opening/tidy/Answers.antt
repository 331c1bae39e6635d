use Rattle.std.proofs.Common.{refl}
use Rattle.st_spool.proofs.Clearing.{nothing_cleared, clearing, clear_failed, flush_failed, clear_flushed, read_is}
use Rattle.st_spool.proofs.opening.tidy.Goals as goal

pub returns-then-not-has_strays-clause-tidied : goal.returns-then-not-has_strays-clause-tidied
returns-then-not-has_strays-clause-tidied g c = λ first f there is each.
    nothing_cleared first (g.D.Shelf.log c.args.shelf.now) f c.args.names.now there is each (c.if-not-has_strays.ensures refl)

pub returns-in-Err-clause-tidied : goal.returns-in-Err-clause-tidied
returns-in-Err-clause-tidied g c = λ first f there is each.
    let D = g.D.Shelf in
    clear_failed first (D.log c.clear.new.shelf) f c.args.names.now there (c.in-Err.ensures.cleared first f there (clearing first (D.log c.args.shelf.now) f c.args.names.now there is each))

pub returns-in-Err-flush_both-clause-tidied : goal.returns-in-Err-flush_both-clause-tidied
returns-in-Err-flush_both-clause-tidied g c = λ first f there is each.
    let D = g.D.Shelf in
    let run = c.in_default.ensures.cleared first f there (clearing first (D.log c.args.shelf.now) f c.args.names.now there is each) in
    flush_failed first (D.log c.flush_both.new.shelf) f c.args.names.now there (D.log c.clear.new.shelf) run (c.in-Err-flush_both.ensures.flushed run.log run.is).images

pub returns-clause-tidied : goal.returns-clause-tidied
returns-clause-tidied g c = λ first f there is each.
    let D = g.D.Shelf in
    let run = c.in_default.ensures.cleared first f there (clearing first (D.log c.args.shelf.now) f c.args.names.now there is each) in
    clear_flushed first (D.log c.flush_both.new.shelf) f c.args.names.now there (D.log c.clear.new.shelf) run (c.in_default-flush_both.ensures.flushed run.log run.is) (c.in_default.ensures.reads f there (read_is first (D.log c.args.shelf.now) f is each))
