use Rattle.std.proofs.Common.{subst}
use Rattle.st_answer.specs.Order.{AreWithin}
use Rattle.st_answer.proofs.order.in_order.Goals as goal

pub returns : goal.returns
returns c = record {
  sorted = c.sort.new.picked.items;
  same = c.sort.ensures.same;
  order = c.sort.ensures.order;
  count = c.within-count.result;
  cut = c.truncate.ensures.items;
  limited = subst (λ z. AreWithin c.args.limits z c.within-count.result) c.as_slice.ensures.value c.within-count.ensures;
}
