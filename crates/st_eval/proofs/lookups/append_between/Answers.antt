use Rattle.std.proofs.Common.{◌≡◌, ◌∙◌, ap, rules}
use Rattle.st_walk.specs.KeyText.{key_text}
use Rattle.st_eval.proofs.Gathering.{appends_keys}
use Rattle.st_eval.proofs.AfterSummary.{key_after}
use Rattle.st_eval.proofs.lookups.append_between.Goals as goal

pub returns-then-eq-clause-appends : goal.returns-then-eq-clause-appends
returns-then-eq-clause-appends g c rows over =
    let first : c.as_slice.result.now ≡ key_text c.args.low.now = cc in
    let same : c.args.low.now ≡ c.args.high.now = search rules in
    appends_keys c.as_slice.result.now c.as_slice.result.now c.args.low.now c.args.high.now rows c.args.all.now.items c.append_found.new.all.items c.append_found.result
    first (first ∙ ap key_text same) (c.append_found.ensures.appends rows over)

pub returns-clause-appends : goal.returns-clause-appends
returns-clause-appends g c rows over =
    let first : c.as_slice-2.result.now ≡ key_text c.args.low.now = cc in
    let last : c.as_slice-3.result.now ≡ key_text c.args.high.now = search rules in
    appends_keys c.as_slice-2.result.now c.as_slice-3.result.now c.args.low.now c.args.high.now rows c.args.all.now.items c.append_range.new.all.items c.append_range.result
    first last (c.append_range.ensures.appends rows over)

pub append_found-requires : goal.append_found-requires
append_found-requires g c =
    let first : c.as_slice.result.now ≡ key_text c.args.low.now = cc in
    key_after c.args.low.now c.as_slice.result.now first

pub append_range-requires : goal.append_range-requires
append_range-requires g c =
    let first : c.as_slice-2.result.now ≡ key_text c.args.low.now = cc in
    key_after c.args.low.now c.as_slice-2.result.now first
