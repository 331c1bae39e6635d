use Rattle.std.proofs.Common.{arith, subst, sym}
use Rattle.st_disk.specs.Disks.{Log, Leaves, log_of}
use Rattle.st_disk.proofs.Keeping.{numbers_now}
use Rattle.st_disk.proofs.book.Book.make.Goals as goal
use Rattle.st_disk.proofs.book.Book.make.Goals.{in-Ok, in-Err}

pub invariant_of-self : goal.invariant_of-self
invariant_of-self c =
    let a = c.self.inside in
    c.record_in.ensures.kept a.start_blocks.items a.start_indexes.items a.next _ (omega arith) (omega arith) c.self.invariant

pub returns-clause-unused : goal.returns-clause-unused
returns-clause-unused c =
    let a = c.self.inside in
    elim c.match-record_in.branch [
      | in-Ok w ↦ rw w.result-is (λ f h. numbers_now a.next (log_of a.start_blocks.items a.start_indexes.items a.calls) f c.self.invariant.numbers (subst (λ (l : Log). Leaves l f) (sym c.self.view_is) h) c.args.kind a.next (omega arith))
      | in-Err w ↦ rw w.result-is tt
    ]
