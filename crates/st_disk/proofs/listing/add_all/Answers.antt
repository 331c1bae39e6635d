use Rattle.std.proofs.Common.{◌≡◌, ◌∷◌, ◌<◌, List, length, inl, inr, ⊎_elim, rules}
use Rattle.st_disk.specs.declared.naming.Name.{Name}
use Rattle.st_disk.proofs.Placing.{first_or_rest, among_all, none_among}
use Rattle.st_disk.proofs.listing.add_all.Goals as goal

pub found-preserved : goal.found-preserved
found-preserved c =
    let e : ◌≡◌ {A = List Name} c.found.rest.now (c.in-Some.name.now ∷ c.in-Some.after.now) = search rules in
    record {
      rises = λ h. c.in_ok-add_name.ensures.rises (c.found.invariant.rises h);
      has = λ n. (
        λ h. (c.found.invariant.has n).0 (⊎_elim
            (λ here. ⊎_elim (λ was. inl was) (λ one. inr (among_all c.found.rest.now c.in-Some.after.now c.in-Some.name.now n e (inr one))) ((c.in_ok-add_name.ensures.has n).0 here))
            (λ more. inr (among_all c.found.rest.now c.in-Some.after.now c.in-Some.name.now n e (inl more)))
            h),
        λ h. ⊎_elim
            (λ was. inl ((c.in_ok-add_name.ensures.has n).1 (inl was)))
            (λ there. ⊎_elim (λ more. inr more) (λ one. inl ((c.in_ok-add_name.ensures.has n).1 (inr one))) (first_or_rest c.found.rest.now c.in-Some.after.now c.in-Some.name.now n e there))
            ((c.found.invariant.has n).1 h),
      );
    }

pub returns-clause-has : goal.returns-clause-has
returns-clause-has c n =
    let none : length c.found.rest.now < 1 = search rules in (
      λ h. (c.found.invariant.has n).0 (inl h),
      λ h. ⊎_elim (λ had. had) (λ still. absurd (none_among c.found.rest.now n none still)) ((c.found.invariant.has n).1 h),
    )
