use Rattle.std.proofs.Common.{◌↔◌, inr, ◌∷◌, ◌≡◌, sym, subst, ap, length, Contains, List, arith, refl}
use Rattle.st_walk.specs.declared.text.Key.{Key}
use Rattle.st_walk.specs.Walk.{FrameHas}
use Rattle.st_walk.specs.Listing.{keys_left, frame_keys}
use Rattle.st_index.specs.NumberedLists.{with_last}
use Rattle.st_index.specs.PositionLists.{positions_at}
use Rattle.st_index.proofs.Adding.{pushed_on, pushed_all, there}
use Rattle.st_index.proofs.Counting.{count_put, all_keys}
use Rattle.st_index.proofs.lists.PositionLists.put_all.Goals as goal

pub loop-key-init : goal.loop-key-init
loop-key-init c =
    let items = c.keys-key-items.result in
    let left = c.into_iter-key-iterator.result in
    let all = c.keys-key-items.ensures.each in
    let same = c.into_iter-key-iterator.ensures.into_iter_gives in
    let each : (k : Key) → Contains (keys_left left) k ↔ FrameHas c.args.frame.now k = rw same all in
    let own : keys_left items ≡ frame_keys c.args.frame.now = all_keys c.args.frame.now (keys_left items) (λ ks h. (c.keys-key-items.ensures.order ks).0 h) in
    let count : length (keys_left left) ≡ length (frame_keys c.args.frame.now) = rw same (ap length own) in
    (λ k. inr (refl, λ h. (each k).1 h), λ k h. (each k).0 h, λ ks apart. omega (arith, count))

pub loop-key-preserved : goal.loop-key-preserved
loop-key-preserved c =
    let j = c.in-Some.key in
    let step = c.in-Some.ensures.steps in
    let own = c.loop-key.invariant.1 j (subst (λ (ks : List Key). Contains ks j) (sym step) (0, omega arith, refl)) in (
      λ k. pushed_on (FrameHas c.args.frame.now k) k j (keys_left c.loop-key.key-iterator) (keys_left c.next.new.self) (positions_at c.args.self.now k) (positions_at c.loop-key.self k) (positions_at c.put.new.self k) c.args.position
          step (λ e. subst (λ (i : Key). FrameHas c.args.frame.now i) (sym e) own) (c.requires k)
          (λ e. subst (λ (i : Key). positions_at c.put.new.self i ≡ with_last (positions_at c.loop-key.self i) c.args.position) (sym e) c.in_default.ensures.here)
          (c.put.ensures.others k) (c.loop-key.invariant.0 k),
      λ k h. c.loop-key.invariant.1 k (subst (λ (ks : List Key). Contains ks k) (sym step) (there j k _ h)),
      λ ks apart.
          let put = count_put c.loop-key.self c.put.new.self j c.args.position ks apart c.in_default.ensures.here c.put.ensures.others in
          let left : length (keys_left c.loop-key.key-iterator) ≡ length (j ∷ keys_left c.next.new.self) = ap length step in
          let had = c.loop-key.invariant.2 ks apart in
          omega (arith, put, left, had),
    )

pub returns-clause-gained : goal.returns-clause-gained
returns-clause-gained c k = pushed_all (FrameHas c.args.frame.now k) k _ _ _ _ c.in-None.ensures.steps.0 (c.loop-key.invariant.0 k)

pub returns-clause-count : goal.returns-clause-count
returns-clause-count c ks apart = let had = c.loop-key.invariant.2 ks apart in omega (arith, had)
