use Rattle.std.proofs.Common.{rules, false, Some, [], ◌∷◌, ◌∙◌, ap, sym, subst}
use mathlib.Core.Option.{none}
use Rattle.atomic_table.specs.Table.{step, rest, Arrives}
use Rattle.shelf_threads.specs.Turns.{IsAtHome, Took}
use Rattle.shelf_threads.proofs.Turning.{seizes}
use Rattle.shelf_threads.proofs.desk.Desk.take.Goals as goal

pub swap_new_seat-found-requires : goal.swap_new_seat-found-requires
swap_new_seat-found-requires g c =
    (search rules, subst (λ n. Arrives IsAtHome n 0 (λ _. 1) (Took (step n 0 1 0 none) (false, []))) (sym c.args.self.now.counts.1) (seizes false (step 1 0 1 0 none) (false, [])))

pub exchange-requires : goal.exchange-requires
exchange-requires g c =
    let taken = c.swap_new_seat-found.ensures.1 (search rules) in
    (c.swap_new_seat-found.ensures.0, (Some taken.0, taken.1 ∙ ap (λ l. (0, Some taken.0) ∷ rest l) (sym taken.1)))
