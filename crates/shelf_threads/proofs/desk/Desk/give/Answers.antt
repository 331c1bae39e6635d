use Rattle.std.proofs.Common.{rules, ◌≡◌, Some, [], ◌∷◌, ◌∙◌, ap, sym, subst}
use Rattle.atomic_table.specs.Table.{rest, Allows}
use Rattle.shelf_threads.specs.Turns.{IsAtHome}
use Rattle.shelf_threads.proofs.Turning.{releases}
use Rattle.shelf_threads.proofs.desk.Desk.give.Goals as goal

pub store-requires : goal.store-requires
store-requires g c =
    let seat = c.exchange-old.new.seat in
    let has : seat.me.1 ≡ (0, Some c.args.home) ∷ [] = ap (λ m. m.1) c.exchange-old.ensures.3 ∙ ap (λ l. (0, Some c.args.home) ∷ rest l) c.requires.1 in
    (search rules, search rules, subst (λ n. Allows IsAtHome n seat.id seat.me 0 (λ _. 0) (λ _ _. Unit {0})) (sym c.args.self.now.counts.1) (releases seat.id seat.me c.args.home has))
