use Rattle.std.proofs.Common.{◌≤◌, ◌+◌, length, sym, ◌∙◌, subst}
use Rattle.st_disk.specs.Disks.{Log, log_of}
use Rattle.st_disk.specs.Crashes.{IsCrash}
use Rattle.st_disk.proofs.Crashing.{whole, block_side, index_side, is_crash, kept_crash}
use Rattle.st_disk.proofs.book.Book.crash.Goals as goal

pub invariant_of-result : goal.invariant_of-result
invariant_of-result c =
    let a = c.self.inside in
    let log = log_of a.start_blocks.items a.start_indexes.items a.calls in
    let le : c.args.moment ≤ length a.calls = subst (λ (l : Log). c.args.moment ≤ length l.calls) (sym c.self.view_is) c.requires in
    let blocks = block_side a.start_blocks.items a.start_indexes.items a.calls c.until-calls.result.now c.deref.result.now c.in_ok-blocks.blocks.flushed.items c.in_ok-blocks.blocks.later.items c.args.moment c.until-calls.ensures c.deref.ensures.value c.in_ok-blocks.ensures in
    let indexes = index_side a.start_blocks.items a.start_indexes.items a.calls c.until-calls.result.now c.deref-3.result.now c.in_ok-indexes.indexes.flushed.items c.in_ok-indexes.indexes.later.items c.args.moment c.until-calls.ensures c.deref-3.ensures.value c.in_ok-indexes.ensures in
    kept_crash log c.args.moment c.args.choice c.in_ok-blocks.blocks.flushed.items c.in_ok-indexes.indexes.flushed.items c.choose.new.updates.items c.choose-2.new.updates.items c.in_ok-copy_updates.field-0.items c.in_ok-copy_updates-2.field-0.items c.in_ok-blocks.blocks.later.items c.in_ok-indexes.indexes.later.items c.deref-2.result.now c.deref-4.result.now blocks indexes c.deref-2.ensures.value c.deref-4.ensures.value
    (c.in_ok-left.ensures.made c.args.choice 0 (whole c.args.choice)) (c.in_ok-choose.ensures.made c.args.choice (0 + length c.deref-2.result.now) (c.in_ok-left.ensures.left c.args.choice 0 (whole c.args.choice)))
    (c.in_ok-copy_updates.ensures ∙ c.deref-5.ensures.value) (c.in_ok-copy_updates-2.ensures ∙ c.deref-6.ensures.value) c.new.result a.next c.new.ensures le c.self.invariant.numbers

pub returns : goal.returns
returns c =
    let a = c.self.inside in
    let log = log_of a.start_blocks.items a.start_indexes.items a.calls in
    let blocks = block_side a.start_blocks.items a.start_indexes.items a.calls c.until-calls.result.now c.deref.result.now c.in_ok-blocks.blocks.flushed.items c.in_ok-blocks.blocks.later.items c.args.moment c.until-calls.ensures c.deref.ensures.value c.in_ok-blocks.ensures in
    let indexes = index_side a.start_blocks.items a.start_indexes.items a.calls c.until-calls.result.now c.deref-3.result.now c.in_ok-indexes.indexes.flushed.items c.in_ok-indexes.indexes.later.items c.args.moment c.until-calls.ensures c.deref-3.ensures.value c.in_ok-indexes.ensures in
    let made = is_crash log c.args.moment c.args.choice c.in_ok-blocks.blocks.flushed.items c.in_ok-indexes.indexes.flushed.items c.choose.new.updates.items c.choose-2.new.updates.items c.in_ok-copy_updates.field-0.items c.in_ok-copy_updates-2.field-0.items c.in_ok-blocks.blocks.later.items c.in_ok-indexes.indexes.later.items c.deref-2.result.now c.deref-4.result.now blocks indexes c.deref-2.ensures.value c.deref-4.ensures.value
    (c.in_ok-left.ensures.made c.args.choice 0 (whole c.args.choice)) (c.in_ok-choose.ensures.made c.args.choice (0 + length c.deref-2.result.now) (c.in_ok-left.ensures.left c.args.choice 0 (whole c.args.choice)))
    (c.in_ok-copy_updates.ensures ∙ c.deref-5.ensures.value) (c.in_ok-copy_updates-2.ensures ∙ c.deref-6.ensures.value) c.new.result c.new.ensures in
    subst (λ (l : Log). IsCrash l c.args.moment c.args.choice (log_of c.in_ok-copy_updates.field-0.items c.in_ok-copy_updates-2.field-0.items c.new.result)) c.self.view_is made
