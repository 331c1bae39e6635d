use Rattle.std.proofs.Common.{arith, List, subst, length-set}
use Rattle.st_walk.specs.Listing.{keys_left}
use Rattle.st_walk.specs.declared.text.Key.{Key}
use Rattle.st_query.specs.Matcher.{KeysAre}
use Rattle.st_query.proofs.Gathering.{gathered, all_gathered}
use Rattle.st_query.proofs.matcher.gather.Goals as goal

pub loop-key-init : goal.loop-key-init
loop-key-init c =
    let all = c.keys-key-items.ensures.each in
    let same = c.into_iter-key-iterator.ensures.into_iter_gives in
    (omega arith, rw same all)

pub loop-key-preserved : goal.loop-key-preserved
loop-key-preserved c =
    let room = c.loop-key.room in
    let len = c.loop-key.len in (
      omega (arith, length-set room len c.in-Some.key, c.if-len-room.false),
      subst (λ (ks : List Key). KeysAre c.args.frame.now ks) (gathered room (keys_left c.loop-key.key-iterator) (keys_left c.next.new.self) len c.in-Some.key c.if-len-room.false c.in-Some.ensures.steps) c.loop-key.invariant.1,
    )

pub returns : goal.returns
returns c = (
  c.loop-key.invariant.0,
  subst (λ (ks : List Key). KeysAre c.args.frame.now ks) (all_gathered c.loop-key.room (keys_left c.loop-key.key-iterator) c.loop-key.len c.in-None.ensures.steps.0) c.loop-key.invariant.1,
)
