use Rattle.std.proofs.Common.{ℕ, List, length, drop, ◌+◌, ◌-◌, ap, sym, ◌∙◌, subst, arith}
use Rattle.st_block.specs.Checks.{captured_length, damage_at}
use Rattle.st_block.proofs.Laying.{Laid, laid_more, laid_short, laid_long}
use Rattle.st_block.proofs.scan.layout.lay_out.Goals as goal

pub returns-then-rest-lt-RECORD_HEAD-clause-wrong : goal.returns-then-rest-lt-RECORD_HEAD-clause-wrong
returns-then-rest-lt-RECORD_HEAD-clause-wrong c =
    let front = c.split_at.ensures.back in
    let size = ap (λ (l : List ℕ). length l) front in
    laid_short c.args.block.now c.args.place c.count_at-count.result c.records.had c.records.last c.records.at c.records.invariant c.count_at-count.ensures c.records-test.true (omega arith)

pub returns-then-rest-room_of-clause-wrong : goal.returns-then-rest-room_of-clause-wrong
returns-then-rest-room_of-clause-wrong c =
    let back = c.split_at.ensures.back in
    let size = ap (λ (l : List ℕ). length l) back in
    let len = c.captured_at-len.ensures ∙ ap captured_length back in
    let room = c.room_of.ensures in
    let found = laid_long c.args.block.now c.args.place c.count_at-count.result c.records.had c.records.last c.records.at c.records.invariant c.count_at-count.ensures c.records-test.true (omega arith) (omega arith) in
    found ∙ (ap (λ (n : ℕ). damage_at (c.args.place + c.records.at + 12) n (length (drop c.records.at c.args.block.now) - 48)) (sym len) ∙ ap (λ (l : List ℕ). damage_at (c.args.place + c.records.at + 12) c.captured_at-len.result (length l - 48)) (sym back))

pub records-preserved : goal.records-preserved
records-preserved c =
    let back = c.split_at.ensures.back in
    let size = ap (λ (l : List ℕ). length l) back in
    let len = c.captured_at-len.ensures ∙ ap captured_length back in
    let room = c.room_of.ensures in
    let more = c.room_of-in-records.ensures in
    let laid = laid_more c.args.block.now c.args.place c.count_at-count.result c.records.had c.records.last c.records.at c.records.invariant c.records-test.true (omega arith) (omega arith) in
    subst (λ (n : ℕ). Laid c.args.block.now c.args.place c.count_at-count.result (c.records.had + 1) c.records.at (c.records.at + n)) (omega arith) laid
