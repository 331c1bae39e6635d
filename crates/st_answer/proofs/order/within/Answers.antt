use Rattle.std.proofs.Common.{◌≡◌, ◌<◌, ◌+◌, length, get_or, take, sym, ap, subst, ◌∙◌, arith, inl, inr}
use Rattle.st_answer.specs.Limited.{captured}
use Rattle.st_answer.proofs.Limits.{stops, goes, count_lengths, captured_lengths, length_at}
use Rattle.st_answer.proofs.Picking.{no_pick}
use Rattle.st_answer.proofs.Sent.{no_rec}
use Rattle.st_answer.proofs.order.within.Goals as goal

pub returns-then-count-limits : goal.returns-then-count-limits
returns-then-count-limits c rs same =
    let ps = c.args.picked.now in
    let i = c.picks.count in
    let below = subst (λ n. n < length ps) (sym c.picks.invariant.at) c.picks-test.true in
    let count = count_lengths ps rs same in
    let size : captured (take i rs) + c.picks.room ≡ c.args.limits.bytes = ap (λ n. n + c.picks.room) (captured_lengths ps rs i same) ∙ c.picks.invariant.size in
    stops c.args.limits c.picks.room i rs no_rec (omega (arith, below, count)) c.picks.invariant.few size (inl c.if-count-limits.true)

pub returns-then-len-room : goal.returns-then-len-room
returns-then-len-room c rs same =
    let ps = c.args.picked.now in
    let i = c.picks.count in
    let below = subst (λ n. n < length ps) (sym c.picks.invariant.at) c.picks-test.true in
    let count = count_lengths ps rs same in
    let size : captured (take i rs) + c.picks.room ≡ c.args.limits.bytes = ap (λ n. n + c.picks.room) (captured_lengths ps rs i same) ∙ c.picks.invariant.size in
    let len : c.from-len.result ≡ (get_or ps i no_pick).len = c.from-len.ensures ∙ ap (λ n. (get_or ps n no_pick).len) (sym c.picks.invariant.at) in
    let at = length_at ps rs i no_pick no_rec below same in
    stops c.args.limits c.picks.room i rs no_rec (omega (arith, below, count)) c.picks.invariant.few size (inr (omega (arith, len, at, c.if-len-room.true)))

pub returns : goal.returns
returns c rs same =
    let ps = c.args.picked.now in
    let i = c.picks.count in
    let count = count_lengths ps rs same in
    let size : captured (take i rs) + c.picks.room ≡ c.args.limits.bytes = ap (λ n. n + c.picks.room) (captured_lengths ps rs i same) ∙ c.picks.invariant.size in
    goes c.args.limits c.picks.room i rs (omega (arith, count)) c.picks.invariant.few size
