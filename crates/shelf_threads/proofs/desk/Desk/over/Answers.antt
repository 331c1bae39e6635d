use Rattle.std.proofs.Common.{rules, ◌≡◌, Some, [], ◌∷◌, map, refl, ap}
use mathlib.Core.Option.{some}
use Rattle.shelf_threads.proofs.desk.Desk.over.Goals as goal

pub new-requires : goal.new-requires
new-requires g c =
    let one : c.push.new.self.items ≡ Some c.args.home ∷ [] = search rules in
    (refl, λ z. (c.args.home, ap (map (λ x. some x)) one))
