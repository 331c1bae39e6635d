use Rattle.std.proofs.Common.{◌≡◌, ℕ, drop, ◌+◌, ◌*◌, ◌/◌, ap, sym, ◌∙◌, subst}
use Rattle.st_block.specs.Checks.{room_at, captured_length}
use Rattle.st_block.proofs.Checking.{Checked, checked_more, checked_wrong, found_there}
use Rattle.st_block.proofs.scan.block_fields.records_wrong.Goals as goal

pub returns-in-Some : goal.returns-in-Some
returns-in-Some c =
    let back = c.split_at.ensures.back in
    let room : c.room_of-room.result ≡ room_at (drop c.records.at c.args.block.now) = c.room_of-room.ensures ∙ ap (λ (n : ℕ). 48 + (n + 15) / 16 * 16) (c.captured_at.ensures ∙ ap captured_length back) in
    let there = found_there (c.args.place + c.records.at) c.args.count c.records.had c.distance_of-next.result c.room_of-room.result (drop c.records.at c.args.block.now) c.split_at.result.1.now back room c.distance_of-next.ensures in
    sym (checked_wrong c.args.block.now c.args.place c.args.count c.records.had c.records.at _ c.records.invariant c.records-test.true (sym (c.in-Some.ensures ∙ there)))

pub records-preserved : goal.records-preserved
records-preserved c =
    let back = c.split_at.ensures.back in
    let room : c.room_of-room.result ≡ room_at (drop c.records.at c.args.block.now) = c.room_of-room.ensures ∙ ap (λ (n : ℕ). 48 + (n + 15) / 16 * 16) (c.captured_at.ensures ∙ ap captured_length back) in
    let there = found_there (c.args.place + c.records.at) c.args.count c.records.had c.distance_of-next.result c.room_of-room.result (drop c.records.at c.args.block.now) c.split_at.result.1.now back room c.distance_of-next.ensures in
    let more = checked_more c.args.block.now c.args.place c.args.count c.records.had c.records.at c.records.invariant c.records-test.true (sym (c.in_default.ensures ∙ there)) in
    subst (λ (n : ℕ). Checked c.args.block.now c.args.place c.args.count (c.records.had + 1) (c.records.at + n)) (sym room) more
