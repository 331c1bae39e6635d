use Rattle.std.proofs.Common.{◌∙◌, ap, arith, unsigned_abs, w16}
use Rattle.std.proofs.lemmas.Int.{ints, to_z-of_z}
use Rattle.st_query.proofs.Calendar.{parts}
use Rattle.st_query.proofs.word_printer.parts_of.Goals as goal

pub returns-clause-year : goal.returns-clause-year
returns-clause-year c =
    let date = c.from_days_since_min-date.result in
    let p = parts date c.args.day c.from_days_since_min-date.ensures c.requires.low in
    c.from.ensures ∙ c.unsigned_abs.ensures.value ∙ ap unsigned_abs (to_z-of_z w16 date.year (omega (arith, ints, date.year_in)) ∙ p.is) ∙ p.year_found

pub returns-clause-month : goal.returns-clause-month
returns-clause-month c =
    let p = parts c.from_days_since_min-date.result c.args.day c.from_days_since_min-date.ensures c.requires.low in
    c.from-2.ensures ∙ p.month_found

pub returns-clause-day : goal.returns-clause-day
returns-clause-day c =
    let p = parts c.from_days_since_min-date.result c.args.day c.from_days_since_min-date.ensures c.requires.low in
    c.from-3.ensures ∙ p.day_found
