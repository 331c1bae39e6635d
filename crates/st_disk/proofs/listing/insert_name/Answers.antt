use Rattle.std.proofs.Common.{◌≡◌, ◌<◌, ◌≤◌, ℕ, List, length, get_or, false, sym, ◌∙◌, subst, rules, Contains, ⊎_elim}
use Rattle.std.specs.List.{insert}
use Rattle.st_disk.specs.declared.naming.Name.{Name}
use Rattle.st_disk.specs.Names.{same_name, Before, AreSorted}
use Rattle.st_disk.proofs.Order.{rises_insert, has_insert, has_still, has_new}
use Rattle.st_disk.proofs.listing.insert_name.Goals as goal

pub returns-in-Ok-clause-rises : goal.returns-in-Ok-clause-rises
returns-in-Ok-clause-rises c rises =
    let xs = c.args.names.now.items in
    let i = c.lower_bound-i.result in
    let same : c.deref.result.now ≡ xs = c.deref.ensures.value in
    let again : c.deref-2.result.now ≡ xs = c.deref-2.ensures.value in
    let le : i ≤ length xs = subst (λ ys. i ≤ length ys) same c.lower_bound-i.ensures.bound in
    let new : c.insert.new.self.items ≡ insert xs i c.args.name = search rules in
    let before : (k : ℕ) (d : Name) → k < i → Before (get_or xs k d) c.args.name = subst (λ (ys : List Name). (k : ℕ) (d : Name) → k < i → Before (get_or ys k d) c.args.name) same c.lower_bound-i.ensures.before in
    let not_before : (d : Name) → i < length xs → Before (get_or xs i d) c.args.name → ⊥ = subst (λ (ys : List Name). (d : Name) → i < length ys → Before (get_or ys i d) c.args.name → ⊥) same c.lower_bound-i.ensures.not_before in
    let not_same : (d : Name) → i < length xs → same_name (get_or xs i d) c.args.name ≡ false = λ d lt.
    subst (λ (ys : List Name). (d : Name) → i < length ys → same_name (get_or ys i d) c.args.name ≡ c.is_at.result) again c.is_at.ensures.at d lt ∙ c.if-is_at.false in
    subst AreSorted (sym new) (rises_insert xs i c.args.name le rises before not_same not_before)

pub returns-in-Ok-clause-has : goal.returns-in-Ok-clause-has
returns-in-Ok-clause-has c n =
    let xs = c.args.names.now.items in
    let i = c.lower_bound-i.result in
    let le : i ≤ length xs = subst (λ ys. i ≤ length ys) c.deref.ensures.value c.lower_bound-i.ensures.bound in
    let new : c.insert.new.self.items ≡ insert xs i c.args.name = search rules in (
      λ h. has_insert xs i c.args.name le n (subst (λ (ys : List Name). Contains ys n) new h),
      λ h. subst (λ (ys : List Name). Contains ys n) (sym new) (⊎_elim (λ old. has_still xs i c.args.name le n old) (λ e. has_new xs i c.args.name le n e) h),
    )
