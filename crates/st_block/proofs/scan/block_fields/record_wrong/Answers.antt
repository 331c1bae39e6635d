use Rattle.std.proofs.Common.{◌≡◌, ℕ, List, take, drop, ◌+◌, ◌-◌, ap, sym, ◌∙◌, arith}
use Rattle.st_block.specs.Fields.{not_zero}
use Rattle.st_block.specs.BlockText.{padded_len}
use Rattle.st_block.specs.Checks.{record_at}
use Rattle.st_block.proofs.Checking.{record_checks, or_both}
use Rattle.st_block.proofs.scan.block_fields.record_wrong.Goals as goal

pub returns : goal.returns
returns c =
    let bytes = c.args.bytes.now in
    let n = c.captured_at-len.result in
    let len = c.captured_at-len.ensures in
    let room = c.room_of.ensures in
    let padding : c.room_of.result - 48 - n ≡ padded_len n - n = omega arith in
    let zeros : c.split_at-2.result.0.now ≡ take (padded_len n - n) (drop (48 + n) bytes) = c.split_at-2.ensures.front ∙ (ap (λ (k : ℕ). take k c.split_at.result.1.now) padding ∙ ap (λ (l : List ℕ). take (padded_len n - n) l) c.split_at.ensures.back) in
    let e = record_checks c.args.place c.args.next bytes c.requires.fits in
    let after = c.not_zero.ensures ∙ (ap (λ (l : List ℕ). not_zero (c.args.place + 48 + n) l) zeros ∙ ap (λ (k : ℕ). not_zero (c.args.place + 48 + k) (take (padded_len k - k) (drop (48 + k) bytes))) len) in
    let head = c.record_head_wrong.ensures (record_at bytes) in
    c.first_of.ensures ∙ (or_both head after ∙ sym e)
