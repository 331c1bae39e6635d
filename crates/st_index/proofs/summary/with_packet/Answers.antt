use Rattle.std.proofs.Common.{refl, sym, subst, Option}
use Rattle.st_rows.specs.Rows.{Moment, IsSummary}
use Rattle.st_index.specs.Summaries.{summary_view, SummaryOf, IsEarlier, IsLater}
use Rattle.st_index.specs.declared.summary.Summary.{Summary}
use Rattle.st_index.proofs.Summing.{packet_more}
use Rattle.st_index.proofs.summary.with_packet.Goals as goal

pub returns-clause-summary : goal.returns-clause-summary
returns-clause-summary c given x same is =
    let old = c.in-Some.old in
    let had : IsSummary given (summary_view old) = subst (λ (o : Option Summary). SummaryOf given o) c.in-Some.is is in
    packet_more given x (summary_view old) _ had refl (subst (λ (m : Moment). IsEarlier old.first m c.earlier.result) (sym same) c.earlier.ensures) (subst (λ (m : Moment). IsLater old.last m c.later.result) (sym same) c.later.ensures)
