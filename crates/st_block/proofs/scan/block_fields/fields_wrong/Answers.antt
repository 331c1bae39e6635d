use Rattle.std.proofs.Common.{ℕ, List, drop, ◌+◌, ap, sym, ◌∙◌}
use Rattle.st_block.specs.Fields.{first_wrong, not_zero}
use Rattle.st_block.specs.Checks.{record_at}
use Rattle.st_base.specs.Records.{time}
use Rattle.st_block.specs.BlockText.{head_times}
use Rattle.st_block.proofs.Checking.{block_checks, or_both}
use Rattle.st_block.proofs.scan.block_fields.fields_wrong.Goals as goal

pub returns : goal.returns
returns c =
    let block = c.args.block.now in
    let e = block_checks c.args.number c.args.place block c.args.layout c.requires.laid in
    let first = c.split_at.ensures.back in
    let last = c.split_at-2.ensures.back in
    let times = c.times_wrong-times.ensures ∙ (ap (λ (l : List ℕ). first_wrong (c.args.place + 32) (head_times (time (record_at l)) (time (record_at c.split_at-2.result.1.now))) (drop 32 block)) first ∙ ap (λ (l : List ℕ). first_wrong (c.args.place + 32) (head_times (time (record_at (drop 48 block))) (time (record_at l))) (drop 32 block)) last) in
    let rest = c.not_zero-rest.ensures ∙ ap (λ (l : List ℕ). not_zero (c.args.place + c.args.layout.end) l) c.split_at-3.ensures.back in
    c.first_of-3.ensures
    ∙ (or_both (c.first_of.ensures ∙ or_both c.counts_wrong-counts.ensures times) (c.first_of-2.ensures ∙ or_both c.records_wrong-records.ensures rest) ∙ sym e)
