use Rattle.std.proofs.Common.{◌≡◌, ◌<◌, length, slice_index, rules, sym, ◌∙◌, arith, true≢false}
use Rattle.std.proofs.lemmas.List.{get_or_default}
use Rattle.std.proofs.lemmas.List.Filters.{FiltersInPlace-more_no, FiltersInPlace-more_set}
use Rattle.st_eval.proofs.Merging.{below_next, below_here, has_it, lacks_it, same_here}
use Rattle.st_eval.proofs.positions.keep_common.Goals as goal

pub loop-i-preserved-then-not-is_at : goal.loop-i-preserved-then-not-is_at
loop-i-preserved-then-not-is_at c =
    let before = c.loop-i.invariant in
    let xs = c.args.items.now.items in
    let ys = c.loop-i.items.items in
    let other = c.args.other.now in
    let item = c.index-item.result.now in
    let next = c.skip_below-at.result in
    let within : c.loop-i.i < length ys = search rules in
    let whole : c.loop-i.i < length xs = omega (arith, within, before.0.long) in
    let read : slice_index ys c.loop-i.i ≡ item = get_or_default ys c.loop-i.i 0 item within ∙ sym c.index-item.ensures in
    let here : slice_index xs c.loop-i.i ≡ item = sym (same_here xs ys c.loop-i.i before.0.rest) ∙ read in
    let below = below_here xs other c.loop-i.i c.loop-i.at next item whole here before.2 c.skip_below-at.ensures.below in
    let lacks = lacks_it other next item c.requires.other below c.skip_below-at.ensures.stops (λ h. true≢false (sym (c.is_at.ensures.1 h) ∙ c.if-not-is_at.true)) in (
      FiltersInPlace-more_no before.0 within lacks c.index-item.ensures,
      c.skip_below-at.ensures.within,
      below_next xs other c.loop-i.i c.loop-i.at next item c.requires.items whole here before.2 c.skip_below-at.ensures.below,
    )

pub loop-i-preserved : goal.loop-i-preserved
loop-i-preserved c =
    let before = c.loop-i.invariant in
    let xs = c.args.items.now.items in
    let ys = c.loop-i.items.items in
    let other = c.args.other.now in
    let item = c.index-item.result.now in
    let next = c.skip_below-at.result in
    let within : c.loop-i.i < length ys = search rules in
    let whole : c.loop-i.i < length xs = omega (arith, within, before.0.long) in
    let read : slice_index ys c.loop-i.i ≡ item = get_or_default ys c.loop-i.i 0 item within ∙ sym c.index-item.ensures in
    let here : slice_index xs c.loop-i.i ≡ item = sym (same_here xs ys c.loop-i.i before.0.rest) ∙ read in
    let it = c.is_at.ensures.0 c.if-not-is_at.false in (
      FiltersInPlace-more_set before.0 within (has_it other next item it.0 it.1) c.index-item.ensures,
      c.skip_below-at.ensures.within,
      below_next xs other c.loop-i.i c.loop-i.at next item c.requires.items whole here before.2 c.skip_below-at.ensures.below,
    )
