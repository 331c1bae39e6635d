use Rattle.st_query.proofs.Readings.{one_spelling, one_refusal, not_both}
use Rattle.st_query.proofs.laws.one_reading.Goals as goal

pub returns : goal.returns
returns c = record { spelled = one_spelling; refused = one_refusal; apart = not_both }
