use Rattle.std.proofs.Common.{subst, sym, ◌∙◌, ◌+◌, ◌<◌}
use Rattle.std.proofs.lemmas.List.{take_rest}
use Rattle.st_query.specs.Words.{width, IsNumber}
use Rattle.st_query.proofs.Addresses.{net_parts, none_too_long}
use Rattle.st_query.proofs.word_reader.net.Goals as goal

pub returns-in_default-address : goal.returns-in_default-address
returns-in_default-address c = λ a n h.
    let parts = net_parts c.args.word.now c.in-Some.slash c.in-Some.ensures a n h in
    c.in_default-address.ensures a parts.0

pub returns-in_default-number : goal.returns-in_default-number
returns-in_default-number c = λ a n h.
    let parts = net_parts c.args.word.now c.in-Some.slash c.in-Some.ensures a n h in
    c.in_default-number.ensures n (subst (λ t. IsNumber 3 t n) (sym (take_rest c.args.word.now (c.in-Some.slash + 1))) parts.1)

pub returns-then-bits-from : goal.returns-then-bits-from
returns-then-bits-from c =
    let number = subst (λ t. IsNumber 3 t c.in-Some-number.bits) (take_rest c.args.word.now (c.in-Some.slash + 1)) c.in-Some-number.ensures in
    let over : width c.in-Some-address.address < c.in-Some-number.bits = subst (λ w. w < c.in-Some-number.bits) (c.from.ensures ∙ c.width.ensures) c.if-bits-from.true in
    none_too_long c.args.word.now c.in-Some.slash c.in-Some-address.address c.in-Some-number.bits c.in-Some.ensures c.in-Some-address.ensures number over
