use Rattle.std.proofs.Common.{◌≡◌, List, [], ◌∷◌, ◌++◌, sym, subst, rules, IsTrue, Contains, inl, inr, ⊎_elim}
use Rattle.std.specs.List.{All}
use Rattle.std.proofs.lemmas.List.Quantifiers.{all_pairs_push}
use Rattle.std.proofs.lemmas.List.Elements.{Contains-append_left, Contains-push, Contains-push_cases}
use Rattle.st_disk.specs.declared.naming.Name.{Name}
use Rattle.st_disk.specs.Names.{Before, AreSorted}
use Rattle.st_disk.proofs.listing.add_name.Goals as goal

pub returns-in-Ok-clause-rises : goal.returns-in-Ok-clause-rises
returns-in-Ok-clause-rises c rises =
    let xs = c.args.names.now.items in
    let new : c.push.new.self.items ≡ xs ++ c.args.name ∷ [] = search rules in
    let after : IsTrue c.is_after_all.result = search rules in
    let all : All (λ m. Before m c.args.name) xs = subst (λ (ys : List Name). AreSorted ys → All (λ m. Before m c.args.name) ys) c.deref.ensures.value (c.is_after_all.ensures after) rises in
    subst AreSorted (sym new) (all_pairs_push Before xs c.args.name rises all)

pub returns-in-Ok-clause-has : goal.returns-in-Ok-clause-has
returns-in-Ok-clause-has c n =
    let xs = c.args.names.now.items in
    let new : c.push.new.self.items ≡ xs ++ c.args.name ∷ [] = search rules in (
      λ h. ⊎_elim (λ was. inl was) (λ (e : c.args.name ≡ n). inr (sym e)) (Contains-push_cases xs c.args.name n (subst (λ (ys : List Name). Contains ys n) new h)),
      λ h. subst (λ (ys : List Name). Contains ys n) (sym new) (⊎_elim (λ old. Contains-append_left xs (c.args.name ∷ []) n old) (λ (e : n ≡ c.args.name). subst (λ (k : Name). Contains (xs ++ c.args.name ∷ []) k) (sym e) (Contains-push xs c.args.name)) h),
    )
