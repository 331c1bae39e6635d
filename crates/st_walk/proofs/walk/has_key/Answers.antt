-- The frame's walk is followed layer by layer; the rest of it has the key if and only if the whole
-- has.
use Rattle.std.proofs.Common.{refl}
use Rattle.st_walk.specs.declared.header.Layer.TheVariants.{Ether}
use Rattle.st_walk.proofs.Seconds.{never}
use Rattle.st_walk.proofs.Walks.{falls, has_here, has_not, has_next}
use Rattle.st_walk.proofs.walk.has_key.Goals as goal

pub returns-then-carries-clause-held : goal.returns-then-carries-clause-held
returns-then-carries-clause-held c =
    (λ _. c.layers.invariant.1 (has_here c.args.frame.now c.layers.spot.at c.layers.spot.layer c.args.key.now (c.carries.ensures.0 c.if-carries.true)), λ _. refl)

pub returns-then-carries-clause-second : goal.returns-then-carries-clause-second
returns-then-carries-clause-second c = λ s e. absurd (never c.args.frame.now 0 Ether s (rw e at (c.layers.invariant.1 (has_here c.args.frame.now c.layers.spot.at c.layers.spot.layer c.args.key.now (c.carries.ensures.0 c.if-carries.true)))))

pub returns-in_default-clause-held : goal.returns-in_default-clause-held
returns-in_default-clause-held c = (
  λ t. absurd (cc t),
  λ h. absurd (has_not c.args.frame.now c.layers.spot.at c.layers.spot.layer c.args.key.now (cc) (λ k. cc (c.carries.ensures.1 k)) (c.layers.invariant.0 h)),
)

pub layers-smaller : goal.layers-smaller
layers-smaller c = falls c.args.frame.now c.layers.spot.at c.layers.spot.layer c.in-Some.next (cc)

pub layers-preserved : goal.layers-preserved
layers-preserved c =
    let h = has_next c.args.frame.now c.layers.spot.at c.layers.spot.layer c.args.key.now c.in-Some.next (cc) (λ k. cc (c.carries.ensures.1 k)) in
    (λ f. h.0 (c.layers.invariant.0 f), λ n. c.layers.invariant.1 (h.1 n))
