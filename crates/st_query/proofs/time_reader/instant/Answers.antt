use Rattle.std.proofs.Common.{◌≡◌, arith, subst, sym, w64, to_z, of_z}
use Rattle.std.proofs.lemmas.Int.{ints, to_z-of_z}
use Rattle.std.proofs.lemmas.List.{take_rest}
use Rattle.st_query.specs.Times.{IsOffset, IsInYears}
use Rattle.st_query.specs.TimeReader.{ahead}
use Rattle.st_query.proofs.Instants.{read_back, found, none_outside}
use Rattle.st_query.proofs.time_reader.instant.Goals as goal

pub returns-in_default : goal.returns-in_default
returns-in_default c = λ t h. c.in_default.ensures.value (read_back c.args.word.now t h).date

pub returns-in_default-offset : goal.returns-in_default-offset
returns-in_default-offset c = λ t h.
    let r = read_back c.args.word.now t h in
    c.in_default-offset.ensures r.offset (subst (λ z. IsOffset z r.offset) (sym (take_rest c.args.word.now 19)) r.is_offset)

pub returns-then-not-is_in_years : goal.returns-then-not-is_in_years
returns-then-not-is_in_years c =
    let zone = subst (λ z. IsOffset z (ahead c.in-Some-offset.zone)) (take_rest c.args.word.now 19) c.in-Some-offset.ensures.0 in
    none_outside c.args.word.now c.in-Some.day c.in-Some-clock.clock c.in_utc-second.result (ahead c.in-Some-offset.zone) c.in-Some.ensures.value c.in-Some-clock.ensures zone
    c.in_utc-second.ensures (λ years. absurd (let inside = c.is_in_years.ensures.1 years in let out = c.if-not-is_in_years.true in cc))

pub returns : goal.returns
returns c =
    let zone = subst (λ z. IsOffset z (ahead c.in-Some-offset.zone)) (take_rest c.args.word.now 19) c.in-Some-offset.ensures.0 in
    let years : IsInYears c.since_1970.result = subst IsInYears (sym c.since_1970.ensures) (c.is_in_years.ensures.0 c.if-not-is_in_years.false) in
    let fits : to_z w64 (of_z w64 c.since_1970.result) ≡ c.since_1970.result = to_z-of_z w64 c.since_1970.result (omega (arith, ints)) in
    rw fits (found c.args.word.now c.in-Some.day c.in-Some-clock.clock c.in_utc-second.result (ahead c.in-Some-offset.zone) c.since_1970.result (c.has_shape.ensures.0 c.if-not-has_shape.false) c.in-Some.ensures.value
    c.in-Some-clock.ensures zone c.in_utc-second.ensures c.since_1970.ensures years)
