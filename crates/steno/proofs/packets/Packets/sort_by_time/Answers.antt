use Rattle.std.proofs.Common.{sym, subst}
use Rattle.std.proofs.lemmas.List.Sorted.{All-permutation}
use Rattle.st_query.specs.Meaning.{Matches}
use Rattle.steno.specs.Gathering.{Selects}
use Rattle.steno.specs.PacketsView.{PacketsView}
use Rattle.steno.specs.Packets.{Lies}
use Rattle.steno.proofs.Sorting.{sorted_packets, both_ok}
use Rattle.steno.proofs.packets.Packets.sort_by_time.Goals as goal

pub invariant_of-self : goal.invariant_of-self
invariant_of-self c = All-permutation (Lies c.self.inside.unit c.self.inside.text.items) c.self.inside.order.items c.sort.new.order.items c.sort.ensures.same c.self.invariant

pub returns-clause-answer : goal.returns-clause-answer
returns-clause-answer c = λ q now rs h.
    let selected = subst (λ (v : PacketsView). Selects (Matches q now) rs v.records) (sym c.self.view_is) h in
    both_ok c.sort.result c.sort.ensures.sorted c.sort.ensures.stable
    (λ sorted stable. sorted_packets q now rs c.self.inside.text.items c.self.inside.order.items c.sort.new.order.items selected sorted stable)
