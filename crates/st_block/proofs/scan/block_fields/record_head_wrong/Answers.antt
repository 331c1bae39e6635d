use Rattle.std.proofs.Common.{◌≡◌, ℕ, List, take, drop, ◌+◌, ap, sym, ◌∙◌}
use Rattle.st_block.specs.Fields.{not_same, above, not_zero}
use Rattle.st_block.specs.declared.format.TheConstants.{MAX_NSEC, HEAD_ZEROS}
use Rattle.st_block.proofs.Checking.{record_head_checks, or_both}
use Rattle.st_block.proofs.scan.block_fields.record_head_wrong.Goals as goal

pub returns : goal.returns
returns c = λ r.
    let place = c.args.place in
    let bytes = c.args.bytes.now in
    let distance = c.not_same-distance.ensures ∙ ap (λ (n : ℕ). not_same place n c.args.next) c.number_at.ensures in
    let nsec = c.above-nsec.ensures ∙ ap (λ (n : ℕ). above (place + 8) n MAX_NSEC) c.number_at-nsec.ensures in
    let there : c.split_at-2.result.0.now ≡ take HEAD_ZEROS (drop 28 bytes) = c.split_at-2.ensures.front ∙ ap (λ (l : List ℕ). take HEAD_ZEROS l) c.split_at.ensures.back in
    let zeros = c.not_zero-zeros.ensures ∙ ap (λ (l : List ℕ). not_zero (place + 28) l) there in
    let last = c.first_of.ensures ∙ or_both c.short_differs-again.ensures zeros in
    let body = c.first_of-2.ensures ∙ or_both c.short_differs-body.ensures last in
    let after = c.first_of-after.ensures ∙ or_both c.differs-status.ensures body in
    c.first_of-4.ensures
    ∙ (or_both distance (c.first_of-3.ensures ∙ or_both nsec after) ∙ sym (record_head_checks place c.args.next r bytes))
