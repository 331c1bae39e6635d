use Rattle.std.proofs.Common.{◌≡◌, List, IsPermutation, length, ap, arith, ⊎_elim, inr, sym, subst, Contains}
use Rattle.std.proofs.lemmas.List.Sorted.{Contains-permutation, IsPermutation-sym}
use Rattle.st_disk.specs.declared.naming.Name.{Name}
use Rattle.st_disk.proofs.Placing.{none_rise, none_among}
use Rattle.st_disk.proofs.listing.sorted_names.Goals as goal

pub returns-clause-sorted : goal.returns-clause-sorted
returns-clause-sorted c = c.in_ok-add_all.ensures.rises (none_rise c.new-items.result.items c.new-items.ensures.items)

pub returns-clause-all : goal.returns-clause-all
returns-clause-all c n =
    let given = c.args.names.items in
    let sorted = c.sort_by_key.new.self.items in
    let moved : IsPermutation given sorted = c.in_ok-sort_by_key.ensures.permutation in
    let all : c.as_slice.result.now ≡ sorted = c.as_slice.ensures.value in (
      λ h. ⊎_elim
          (λ none. absurd (none_among c.new-items.result.items n (let empty : length c.new-items.result.items ≡ 0 = ap length c.new-items.ensures.items in omega arith) none))
          (λ there. Contains-permutation sorted given n (IsPermutation-sym given sorted moved) (subst (λ (xs : List Name). Contains xs n) all there))
          ((c.in_ok-add_all.ensures.has n).0 h),
      λ h. (c.in_ok-add_all.ensures.has n).1 (inr (subst (λ (xs : List Name). Contains xs n) (sym all) (Contains-permutation given sorted n moved h))),
    )
