use Rattle.std.proofs.Common.{[], Option, subst, inl, inr}
use Rattle.st_disk.specs.declared.naming.Kind.TheVariants as kind
use Rattle.st_disk.specs.Disks.{Log, Leaves}
use Rattle.st_disk.specs.Folders.{Folder}
use Rattle.st_disk.proofs.Runs.{ran_start, ran_looks, ran_flush, adds_known}
use Rattle.st_disk.specs.declared.changes.Call.TheVariants.{Flush}
use Rattle.st_disk.specs.LoggedCalls.{Looks}
use Rattle.st_spool.proofs.opening.flush_both.Goals as goal

same : (l : Log) (c : Folder) → Leaves l c → Leaves l c
same l c h = h

pub returns-in-Err-clause-flushed : goal.returns-in-Err-clause-flushed
returns-in-Err-clause-flushed g c = λ l known.
    let D = g.D.Shelf in
    record {
      calls = inl (subst (λ (o : Option Log). Looks o (D.log c.flush.new.self)) known c.in-Err.ensures.log);
      images = ran_looks l (D.log c.args.shelf.now) (D.log c.flush.new.self) [] (Leaves l) (Leaves l) (same l) (ran_start l (D.log c.args.shelf.now) (Leaves l) (Leaves l) known (same l) (same l)) c.in-Err.ensures.log;
    }

pub returns-in-Err-flush-clause-flushed : goal.returns-in-Err-flush-clause-flushed
returns-in-Err-flush-clause-flushed g c = λ l known.
    let D = g.D.Shelf in
    let a = ran_flush l (D.log c.args.shelf.now) (D.log c.flush.new.self) [] (Leaves l) (Leaves l) (same l) c.flush.result kind.Block (ran_start l (D.log c.args.shelf.now) (Leaves l) (Leaves l) known (same l) (same l)) c.flush.ensures.log in
    record {
      calls = inr (subst (λ (o : Option Log). Looks o (D.log c.flush-2.new.self)) (adds_known (D.log c.args.shelf.now) (D.log c.flush.new.self) l (Flush kind.Block) known c.in_default.ensures.log) c.in-Err-flush.ensures.log);
      images = ran_looks l (D.log c.flush.new.self) (D.log c.flush-2.new.self) [] (Leaves l) (Leaves l) (same l) a c.in-Err-flush.ensures.log;
    }
