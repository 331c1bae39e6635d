-- Each turn of the loop leaves the same keys, until one is given or none is left.
use Rattle.std.proofs.Common.{◌≡◌, ◌∷◌, [], ◌+◌, suc, sym, ◌∙◌, arith, ap, length}
use Rattle.st_walk.specs.Listing.{keys_left}
use Rattle.st_walk.proofs.Left.{first_left, moved, finished}
use Rattle.st_walk.proofs.Walks.{falls}
use Rattle.st_walk.proofs.iter.KeysIterator.next.Goals as goal

pub returns-in-Some-clause-steps : goal.returns-in-Some-clause-steps
returns-in-Some-clause-steps c = sym c.layers.invariant ∙ first_left c.layers.self c.in-Some.key (cc)

pub returns-in-Some-clause-goes : goal.returns-in-Some-clause-goes
returns-in-Some-clause-goes c =
    let e : keys_left c.args.self.now ≡ c.in-Some.key ∷ keys_left (record c.layers.self { given = c.layers.self.given + 1 }) = sym c.layers.invariant ∙ first_left c.layers.self c.in-Some.key (cc) in
    let n : length (keys_left c.args.self.now) ≡ suc (length (keys_left (record c.layers.self { given = c.layers.self.given + 1 }))) = ap length e in
    record { on = λ _. (tt, tt, omega arith); keeps = tt; rests = λ _. tt }

pub returns-in_default-following-clause-steps : goal.returns-in_default-following-clause-steps
returns-in_default-following-clause-steps c =
    let e : keys_left c.layers.self ≡ [] = finished c.layers.self (cc) (cc) in (sym c.layers.invariant ∙ e, e)

pub layers-smaller : goal.layers-smaller
layers-smaller c = falls c.layers.self.frame.now c.layers.self.spot.at c.layers.self.spot.layer c.in-Some-following.next (cc)

pub layers-preserved : goal.layers-preserved
layers-preserved c = sym (moved c.layers.self c.in-Some-following.next (cc) (cc)) ∙ c.layers.invariant
