use Rattle.std.proofs.Common.{◌≡◌, [], ◌∷◌, None, Some}
use Rattle.st_disk.specs.declared.naming.Kind.TheVariants as kind
use Rattle.st_disk.specs.declared.naming.Name.TheVariants as name
use Rattle.st_disk.specs.declared.changes.Call.TheVariants.{Flush}
use Rattle.st_disk.specs.Folders.{given}
use Rattle.st_disk.proofs.Reading.{reads_still, reads_looked, flush_spares}
use Rattle.st_spool.specs.Rows.{Half, Coming, set_row}
use Rattle.st_spool.specs.Settling.{files, entry}
use Rattle.st_disk.specs.Events.{Publish}
use Rattle.st_spool.proofs.Stages.{half_start, looks, abandons, half_settled, settled, index_flushed, index_looks, block_flushed}
use Rattle.st_spool.proofs.Sparing.{index_spares, block_spares}
use Rattle.st_spool.proofs.settling.settle_pair.Goals as goal

pub settle-requires-2-clause-free : goal.settle-requires-2-clause-free
settle-requires-2-clause-free g c =
    let D = g.D.Shelf in
    reads_still (D.log c.args.shelf.now) (D.log c.settle.new.self) _ (name.Block c.args.stamp) (λ v. v ≡ None) (index_spares _ _ c.args.stamp c.args.stamp _ c.requires.kinds.1) c.requires.free.1 c.in_default.ensures.log

pub returns-in-Err-clause-placed : goal.returns-in-Err-clause-placed
returns-in-Err-clause-placed g c = λ l rows known each free.
    let D = g.D.Shelf in
    let f = files (given (g.D.Draft.Draft.sealed_bytes c.args.pair.block)) (given (g.D.Draft.Draft.sealed_bytes c.args.pair.index)) in
    let a = half_start l rows c.args.stamp f (D.log c.args.shelf.now) free known each in
    let b = looks l [] (set_row rows c.args.stamp (Half f)) (D.log c.args.shelf.now) (D.log c.settle.new.self) a c.in-Err.ensures.log in
    let q = abandons l [] (set_row rows c.args.stamp (Half f)) (D.log c.settle.new.self) (D.log c.abandon.new.self) _ _ _ _ _ b c.abandon.ensures.log in
    abandons l [] (set_row rows c.args.stamp (Half f)) (D.log c.abandon.new.self) (D.log c.abandon-in-Err.new.self) _ _ _ _ _ q c.abandon-in-Err.ensures.log

pub returns-in-Err-settle-clause-placed : goal.returns-in-Err-settle-clause-placed
returns-in-Err-settle-clause-placed g c = λ l rows known each free.
    let D = g.D.Shelf in
    let f = files (given (g.D.Draft.Draft.sealed_bytes c.args.pair.block)) (given (g.D.Draft.Draft.sealed_bytes c.args.pair.index)) in
    let a = half_start l rows c.args.stamp f (D.log c.args.shelf.now) free known each in
    let b = half_settled l rows c.args.stamp f (D.log c.args.shelf.now) (D.log c.settle.new.self) _ _ c.requires.kinds.1 a c.in_default.ensures.log in
    let q = looks l [] (set_row rows c.args.stamp (Half f)) (D.log c.settle.new.self) (D.log c.settle-2.new.self) b c.in-Err-settle.ensures.log in
    abandons l [] (set_row rows c.args.stamp (Half f)) (D.log c.settle-2.new.self) (D.log c.abandon-in-Err-settle.new.self) _ _ _ _ _ q c.abandon-in-Err-settle.ensures.log

pub returns-in-Err-flush-clause-placed : goal.returns-in-Err-flush-clause-placed
returns-in-Err-flush-clause-placed g c = λ l rows known each free.
    let D = g.D.Shelf in
    let f = files (given (g.D.Draft.Draft.sealed_bytes c.args.pair.block)) (given (g.D.Draft.Draft.sealed_bytes c.args.pair.index)) in
    let a = half_start l rows c.args.stamp f (D.log c.args.shelf.now) free known each in
    let b = half_settled l rows c.args.stamp f (D.log c.args.shelf.now) (D.log c.settle.new.self) _ _ c.requires.kinds.1 a c.in_default.ensures.log in
    let q = settled l rows c.args.stamp f (D.log c.settle.new.self) (D.log c.settle-2.new.self) _ _ c.requires.kinds.0 c.in_default.ensures.there b c.in_default-settle.ensures.log in
    let there = reads_still (D.log c.settle.new.self) (D.log c.settle-2.new.self) _ (name.Index c.args.stamp) (λ v. v ≡ Some f.index) (block_spares _ _ c.args.stamp c.args.stamp _ c.requires.kinds.0) c.in_default.ensures.there c.in_default-settle.ensures.log in (
      looks l (Publish (entry c.args.stamp f) ∷ []) (set_row rows c.args.stamp (Coming f)) (D.log c.settle-2.new.self) (D.log c.flush.new.self) q c.in-Err-flush.ensures.log,
      reads_looked (D.log c.settle-2.new.self) (D.log c.flush.new.self) (name.Block c.args.stamp) (λ v. v ≡ Some f.block) c.in_default-settle.ensures.there c.in-Err-flush.ensures.log,
      reads_looked (D.log c.settle-2.new.self) (D.log c.flush.new.self) (name.Index c.args.stamp) (λ v. v ≡ Some f.index) there c.in-Err-flush.ensures.log,
    )

pub returns-in-Err-flush-2-clause-placed : goal.returns-in-Err-flush-2-clause-placed
returns-in-Err-flush-2-clause-placed g c = λ l rows known each free.
    let D = g.D.Shelf in
    let f = files (given (g.D.Draft.Draft.sealed_bytes c.args.pair.block)) (given (g.D.Draft.Draft.sealed_bytes c.args.pair.index)) in
    let a = half_start l rows c.args.stamp f (D.log c.args.shelf.now) free known each in
    let b = half_settled l rows c.args.stamp f (D.log c.args.shelf.now) (D.log c.settle.new.self) _ _ c.requires.kinds.1 a c.in_default.ensures.log in
    let q = settled l rows c.args.stamp f (D.log c.settle.new.self) (D.log c.settle-2.new.self) _ _ c.requires.kinds.0 c.in_default.ensures.there b c.in_default-settle.ensures.log in
    let there = reads_still (D.log c.settle.new.self) (D.log c.settle-2.new.self) _ (name.Index c.args.stamp) (λ v. v ≡ Some f.index) (block_spares _ _ c.args.stamp c.args.stamp _ c.requires.kinds.0) c.in_default.ensures.there c.in_default-settle.ensures.log in
    let h = index_flushed l rows c.args.stamp f (D.log c.settle-2.new.self) (D.log c.flush.new.self) q there c.in_default-flush.ensures.log in
    let block = reads_still (D.log c.settle-2.new.self) (D.log c.flush.new.self) (Flush kind.Index) (name.Block c.args.stamp) (λ v. v ≡ Some f.block) (flush_spares kind.Index (name.Block c.args.stamp)) c.in_default-settle.ensures.there c.in_default-flush.ensures.log in
    let index = reads_still (D.log c.settle-2.new.self) (D.log c.flush.new.self) (Flush kind.Index) (name.Index c.args.stamp) (λ v. v ≡ Some f.index) (flush_spares kind.Index (name.Index c.args.stamp)) there c.in_default-flush.ensures.log in (
      index_looks l rows c.args.stamp f (D.log c.flush.new.self) (D.log c.flush-2.new.self) h c.in-Err-flush-2.ensures.log,
      reads_looked (D.log c.flush.new.self) (D.log c.flush-2.new.self) (name.Block c.args.stamp) (λ v. v ≡ Some f.block) block c.in-Err-flush-2.ensures.log,
      reads_looked (D.log c.flush.new.self) (D.log c.flush-2.new.self) (name.Index c.args.stamp) (λ v. v ≡ Some f.index) index c.in-Err-flush-2.ensures.log,
    )

pub returns-clause-placed : goal.returns-clause-placed
returns-clause-placed g c = λ l rows known each free.
    let D = g.D.Shelf in
    let f = files (given (g.D.Draft.Draft.sealed_bytes c.args.pair.block)) (given (g.D.Draft.Draft.sealed_bytes c.args.pair.index)) in
    let a = half_start l rows c.args.stamp f (D.log c.args.shelf.now) free known each in
    let b = half_settled l rows c.args.stamp f (D.log c.args.shelf.now) (D.log c.settle.new.self) _ _ c.requires.kinds.1 a c.in_default.ensures.log in
    let q = settled l rows c.args.stamp f (D.log c.settle.new.self) (D.log c.settle-2.new.self) _ _ c.requires.kinds.0 c.in_default.ensures.there b c.in_default-settle.ensures.log in
    let there = reads_still (D.log c.settle.new.self) (D.log c.settle-2.new.self) _ (name.Index c.args.stamp) (λ v. v ≡ Some f.index) (block_spares _ _ c.args.stamp c.args.stamp _ c.requires.kinds.0) c.in_default.ensures.there c.in_default-settle.ensures.log in
    let h = index_flushed l rows c.args.stamp f (D.log c.settle-2.new.self) (D.log c.flush.new.self) q there c.in_default-flush.ensures.log in
    let block = reads_still (D.log c.settle-2.new.self) (D.log c.flush.new.self) (Flush kind.Index) (name.Block c.args.stamp) (λ v. v ≡ Some f.block) (flush_spares kind.Index (name.Block c.args.stamp)) c.in_default-settle.ensures.there c.in_default-flush.ensures.log in
    block_flushed l rows c.args.stamp f (D.log c.flush.new.self) (D.log c.flush-2.new.self) h block c.in_default-flush-2.ensures.log
