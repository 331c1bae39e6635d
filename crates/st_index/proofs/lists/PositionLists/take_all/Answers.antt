use Rattle.std.proofs.Common.{◌↔◌, ◌≡◌, inl, inr, ⊎_elim, sym, subst, Contains}
use Rattle.st_walk.specs.declared.text.Key.{Key}
use Rattle.st_walk.specs.Walk.{FrameHas}
use Rattle.st_walk.specs.Listing.{keys_left}
use Rattle.st_index.specs.NumberedLists.{without_last}
use Rattle.st_index.specs.PositionLists.{positions_at}
use Rattle.st_index.proofs.Adding.{taken_on, taken_all}
use Rattle.st_index.proofs.lists.PositionLists.take_all.Goals as goal

pub loop-key-init : goal.loop-key-init
loop-key-init c =
    let all = c.keys-key-items.ensures.each in
    let same = c.into_iter-key-iterator.ensures.into_iter_gives in
    let each : (k : Key) → Contains (keys_left c.into_iter-key-iterator.result) k ↔ FrameHas c.args.frame.now k = rw same all in
    λ k ps new h. ⊎_elim (λ (n, has). inl (n, (each k).1 has)) (λ n. inr n) h

pub loop-key-preserved : goal.loop-key-preserved
loop-key-preserved c k ps new h =
    let j = c.in-Some.key in
    taken_on k j (keys_left c.loop-key.key-iterator) (keys_left c.next.new.self) ps (positions_at c.loop-key.self k) (positions_at c.take.new.self k) c.args.position
    c.in-Some.ensures.steps new
    (λ e. subst (λ (i : Key). positions_at c.take.new.self i ≡ without_last (positions_at c.loop-key.self i) c.args.position) (sym e) c.take.ensures.here)
    (c.take.ensures.others k) (c.loop-key.invariant k ps new h)

pub returns : goal.returns
returns c k ps new h = taken_all k (keys_left c.loop-key.key-iterator) ps (positions_at c.loop-key.self k) c.args.position c.in-None.ensures.steps.0 (c.loop-key.invariant k ps new h)
