-- A file set has one answer and one reply at most.
use Rattle.std.proofs.Common.{◌≡◌, ◌<◌, subst, arith, ◌⊎◌}
use Rattle.st_base.proofs.Ascending.{one_order}
use Rattle.st_answer.specs.Packets.{Packet, records_of}
use Rattle.st_answer.specs.Answer.{Precedes}
use Rattle.st_answer.specs.Laws.{OneAnswer, OneReply}
use Rattle.st_answer.specs.Limited.{Limited}
use Rattle.st_answer.proofs.Limits.{one_limited}

no_loop : (a b : Packet) → Precedes a b → Precedes b a → ⊥
no_loop a b h k = grind arith

pub one_answer : OneAnswer
one_answer q now set xs ys mine yours =
    one_order Precedes no_loop xs ys mine.ascending yours.ascending
    (λ p h. (yours.members p).1 ((mine.members p).0 h)) (λ p h. (mine.members p).1 ((yours.members p).0 h))

pub one_reply : OneReply
one_reply q set rs qs mine yours =
    let same : mine.answer ≡ yours.answer = one_answer q.node q.now set mine.answer yours.answer mine.is yours.is in
    let one = subst (λ ps. Limited q.limits (records_of ps) rs) same mine.limited in
    one_limited q.limits (records_of yours.answer) rs qs one yours.limited
