use Rattle.std.proofs.Common.{⊎_elim, inl, inr}
use Rattle.st_disk.proofs.Gathering.{is_updated_rest, none_left}
use Rattle.st_disk.proofs.listing.gather.Goals as goal

pub updates-preserved : goal.updates-preserved
updates-preserved c = record {
  rises = λ h. c.in_ok-gather_one.ensures.rises (c.updates.invariant.rises h);
  there = λ n h. ⊎_elim (λ was. c.updates.invariant.there n was) (λ now. inr now.1) ((c.in_ok-gather_one.ensures.has n).0 h);
  all = λ n h. ⊎_elim
      (λ had. inl ((c.in_ok-gather_one.ensures.has n).1 (inl had)))
      (λ still. ⊎_elim (λ here. inl ((c.in_ok-gather_one.ensures.has n).1 (inr (here, still.0)))) (λ more. inr (still.0, more)) (is_updated_rest c.updates.rest.now c.update-item.result n c.update-item.is c.in-len1-up.len_at_least still.1))
      (c.updates.invariant.all n h);
}

pub returns-clause-all : goal.returns-clause-all
returns-clause-all c n h = ⊎_elim (λ had. had) (λ still. absurd (none_left c.updates.rest.now n c.in_default.len_below still.1)) (c.updates.invariant.all n h)
