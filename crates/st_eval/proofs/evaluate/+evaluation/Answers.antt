use Rattle.std.proofs.Common.{◌≡◌, ◌&&◌, ◌||◌, ℕ, List, [], refl, ap, ◌∙◌}
use Rattle.st_query.specs.declared.nodes.Node.{size-Node}
use Rattle.st_query.specs.Trees.{tree, both, either}
use Rattle.st_query.proofs.NodeTrees.{and_tree, or_tree}
use Rattle.st_rows.specs.Positions.{has}
use Rattle.st_eval.specs.Selecting.{selects}
use Rattle.st_eval.specs.Lookups.{HasSoundValues}
use Rattle.st_eval.proofs.Evaluating.{over_later, or_appended, appends_end, and_found, or_kept_appended, and_kept_found, kept_found, common_end}
use Rattle.st_eval.proofs.NodeSizes.{or_smaller, and_smaller}
use Rattle.st_eval.proofs.evaluate.+evaluation.Goals as goal

pub gather-returns-in-Err-clause-appends : goal.gather-returns-in-Err-clause-appends
gather-returns-in-Err-clause-appends g t c rows over = c.in-Err.ensures.appends rows (over_later _ _ _ _ _ _ rows c.parts.invariant.5 over)

pub gather-returns-in-Err-clause-refuses : goal.gather-returns-in-Err-clause-refuses
gather-returns-in-Err-clause-refuses g t c bytes index is = c.in-Err.ensures.refuses bytes index (c.parts.invariant.5 bytes index is)

pub gather-returns-in-Err-clause-stays : goal.gather-returns-in-Err-clause-stays
gather-returns-in-Err-clause-stays g t c bytes index is = c.in-Err.ensures.stays bytes index (c.parts.invariant.5 bytes index is)

pub gather-parts-preserved : goal.gather-parts-preserved
gather-parts-preserved g t c =
    let before = c.parts.invariant in
    let same = before.4 in
    let step = c.in-Ok.ensures in
    let left = tree c.get-rest.result.now in
    let right = tree c.get.result.now in
    let is : tree c.parts.rest.now ≡ either left right = rw (c.get.ensures, c.get-rest.ensures) (ap tree c.in-Or.is ∙ or_tree c.in-Or.left c.in-Or.right) in (
      or_smaller c.parts.rest.now c.get-rest.result.now c.in-Or.left c.in-Or.right (size-Node c.args.node.now) c.in-Or.is c.get-rest.ensures before.0,
      step.entries ∙ before.1,
      step.same_reference ∙ before.2,
      step.cause.still ∙ before.3,
      record { content = step.same.content ∙ same.content; extent = step.same.extent ∙ same.extent; beside = step.same.beside ∙ same.beside },
      (λ bytes index h. step.stays bytes index (before.5 bytes index h)),
      λ rows over.
          or_appended rows c.args.now (tree c.parts.rest.now) left right c.parts.all.items c.gather.new.all.items (λ p. has c.args.all.now.items p || selects rows (tree c.args.node.now) c.args.now p)
          is (step.appends rows (over_later _ _ _ _ _ _ rows before.5 over)) (before.6 rows over),
    )

pub gather-returns-in-Err-find-clause-appends : goal.gather-returns-in-Err-find-clause-appends
gather-returns-in-Err-find-clause-appends g t c rows over = c.in-Err-find.ensures.finds rows (over_later _ _ _ _ _ _ rows c.parts.invariant.5 over)

pub gather-returns-in-Err-find-clause-refuses : goal.gather-returns-in-Err-find-clause-refuses
gather-returns-in-Err-find-clause-refuses g t c bytes index is = c.in-Err-find.ensures.refuses bytes index (c.parts.invariant.5 bytes index is)

pub gather-returns-in-Err-find-clause-stays : goal.gather-returns-in-Err-find-clause-stays
gather-returns-in-Err-find-clause-stays g t c bytes index is = c.in-Err-find.ensures.stays bytes index (c.parts.invariant.5 bytes index is)

pub gather-returns-in-And-clause-appends : goal.gather-returns-in-And-clause-appends
gather-returns-in-And-clause-appends g t c rows over =
    let before = c.parts.invariant in
    let left = tree c.get-in-And-2.result.now in
    let right = tree c.get-in-And.result.now in
    let is : tree c.parts.rest.now ≡ both left right = rw (c.get-in-And.ensures, c.get-in-And-2.ensures) (ap tree c.in-And.is ∙ and_tree c.in-And.left c.in-And.right) in
    let then_over = over_later _ _ _ _ _ _ rows before.5 over in
    appends_end (λ p. has c.in-Ok-find.keep p && selects rows left c.args.now p) (selects rows (tree c.parts.rest.now) c.args.now) (selects rows (tree c.args.node.now) c.args.now) (HasSoundValues rows)
    c.parts.all.items c.args.all.now.items c.gather_common.new.all.items c.gather_common.result
    (and_found rows c.args.now (tree c.parts.rest.now) left right c.in-Ok-find.keep is (c.in-Ok-find.ensures.finds rows then_over))
    (before.6 rows over) (c.gather_common.ensures.appends rows (over_later _ _ _ _ _ _ rows c.in-Ok-find.ensures.stays then_over))

pub gather-returns-in-And-clause-stays : goal.gather-returns-in-And-clause-stays
gather-returns-in-And-clause-stays g t c bytes index is = c.gather_common.ensures.stays bytes index (c.in-Ok-find.ensures.stays bytes index (c.parts.invariant.5 bytes index is))

pub gather-returns-in_default-clause-appends : goal.gather-returns-in_default-clause-appends
gather-returns-in_default-clause-appends g t c rows over =
    let before = c.parts.invariant in
    let rest = selects rows (tree c.parts.rest.now) c.args.now in
    appends_end rest rest (selects rows (tree c.args.node.now) c.args.now) (HasSoundValues rows)
    c.parts.all.items c.args.all.now.items c.append_primitive.new.all.items c.append_primitive.result
    (λ p. refl) (before.6 rows over) (c.append_primitive.ensures.appends rows (over_later _ _ _ _ _ _ rows before.5 over))

pub gather-returns-in_default-clause-stays : goal.gather-returns-in_default-clause-stays
gather-returns-in_default-clause-stays g t c bytes index is = c.append_primitive.ensures.stays bytes index (c.parts.invariant.5 bytes index is)

pub gather_common-returns-in-Err-append_common-clause-stays : goal.gather_common-returns-in-Err-append_common-clause-stays
gather_common-returns-in-Err-append_common-clause-stays g t c bytes index is = c.in-Ok.ensures.stays bytes index (c.parts.invariant.5 bytes index is)

pub gather_common-returns-in-Err-clause-appends : goal.gather_common-returns-in-Err-clause-appends
gather_common-returns-in-Err-clause-appends g t c rows over = c.in-Err.ensures.finds rows (over_later _ _ _ _ _ _ rows c.parts.invariant.5 over)

pub gather_common-returns-in-Err-clause-refuses : goal.gather_common-returns-in-Err-clause-refuses
gather_common-returns-in-Err-clause-refuses g t c bytes index is = c.in-Err.ensures.refuses bytes index (c.parts.invariant.5 bytes index is)

pub gather_common-returns-in-Err-clause-stays : goal.gather_common-returns-in-Err-clause-stays
gather_common-returns-in-Err-clause-stays g t c bytes index is = c.in-Err.ensures.stays bytes index (c.parts.invariant.5 bytes index is)

pub gather_common-returns-in-Err-find-clause-appends : goal.gather_common-returns-in-Err-find-clause-appends
gather_common-returns-in-Err-find-clause-appends g t c rows over = c.in-Err-find.ensures.finds rows (over_later _ _ _ _ _ _ rows c.parts.invariant.5 over)

pub gather_common-returns-in-Err-find-clause-refuses : goal.gather_common-returns-in-Err-find-clause-refuses
gather_common-returns-in-Err-find-clause-refuses g t c bytes index is = c.in-Err-find.ensures.refuses bytes index (c.parts.invariant.5 bytes index is)

pub gather_common-returns-in-Err-find-clause-stays : goal.gather_common-returns-in-Err-find-clause-stays
gather_common-returns-in-Err-find-clause-stays g t c bytes index is = c.in-Err-find.ensures.stays bytes index (c.parts.invariant.5 bytes index is)

pub gather_common-parts-preserved-in-Or : goal.gather_common-parts-preserved-in-Or
gather_common-parts-preserved-in-Or g t c =
    let before = c.parts.invariant in
    let same = before.4 in
    let step = c.in-Ok.ensures in
    let left = tree c.get-rest.result.now in
    let right = tree c.get.result.now in
    let is : tree c.parts.rest.now ≡ either left right = rw (c.get.ensures, c.get-rest.ensures) (ap tree c.in-Or.is ∙ or_tree c.in-Or.left c.in-Or.right) in (
      or_smaller c.parts.rest.now c.get-rest.result.now c.in-Or.left c.in-Or.right (size-Node c.args.node.now) c.in-Or.is c.get-rest.ensures before.0,
      step.entries ∙ before.1,
      step.same_reference ∙ before.2,
      step.cause.still ∙ before.3,
      record { content = step.same.content ∙ same.content; extent = step.same.extent ∙ same.extent; beside = step.same.beside ∙ same.beside },
      (λ bytes index h. step.stays bytes index (before.5 bytes index h)),
      λ rows over.
          or_kept_appended rows c.args.now (tree c.parts.rest.now) left right c.parts.keep c.in-Ok.found c.parts.all.items c.append_common.new.all.items (λ p. has c.args.all.now.items p || (has c.args.keep p && selects rows (tree c.args.node.now) c.args.now p))
          is (step.finds rows (over_later _ _ _ _ _ _ rows before.5 over)) c.in-Ok-append_common.ensures.gains (before.6 rows over),
    )

pub gather_common-parts-preserved : goal.gather_common-parts-preserved
gather_common-parts-preserved g t c =
    let before = c.parts.invariant in
    let same = before.4 in
    let step = c.in-Ok-find.ensures in
    let left = tree c.get-rest-in-And.result.now in
    let right = tree c.get-in-And.result.now in
    let is : tree c.parts.rest.now ≡ both left right = rw (c.get-in-And.ensures, c.get-rest-in-And.ensures) (ap tree c.in-And.is ∙ and_tree c.in-And.left c.in-And.right) in (
      and_smaller c.parts.rest.now c.get-rest-in-And.result.now c.in-And.left c.in-And.right (size-Node c.args.node.now) c.in-And.is c.get-rest-in-And.ensures before.0,
      step.entries ∙ before.1,
      step.same_reference ∙ before.2,
      step.cause.still ∙ before.3,
      record { content = step.same.content ∙ same.content; extent = step.same.extent ∙ same.extent; beside = step.same.beside ∙ same.beside },
      (λ bytes index h. step.stays bytes index (before.5 bytes index h)),
      λ rows over.
          and_kept_found rows c.args.now (tree c.parts.rest.now) left right c.parts.keep c.both.new.self c.in-Ok-find.found c.parts.all.items (λ p. has c.args.all.now.items p || (has c.args.keep p && selects rows (tree c.args.node.now) c.args.now p))
          is (step.finds rows (over_later _ _ _ _ _ _ rows before.5 over)) c.both.ensures (before.6 rows over),
    )

pub gather_common-returns-in-Ok-append_primitive-clause-appends : goal.gather_common-returns-in-Ok-append_primitive-clause-appends
gather_common-returns-in-Ok-append_primitive-clause-appends g t c rows over =
    let before = c.parts.invariant in
    let rest = tree c.parts.rest.now in
    let found = c.append_primitive.new.all.items in
    let start : (p : ℕ) → has found p ≡ (has [] p || selects rows rest c.args.now p) = λ p.
    c.in-Ok-append_primitive.ensures.appends rows (over_later _ _ _ _ _ _ rows before.5 over) p
    ∙ ap (λ (xs : List ℕ). has xs p || selects rows rest c.args.now p) c.new-found.ensures.items in
    common_end (λ p. has c.sorted.result p && has c.parts.keep p) (λ p. has c.parts.keep p && selects rows rest c.args.now p) (λ p. has c.args.keep p && selects rows (tree c.args.node.now) c.args.now p) (HasSoundValues rows)
    c.parts.all.items c.args.all.now.items c.append_common-in-Ok-append_primitive.new.all.items c.append_common-in-Ok-append_primitive.result
    (kept_found rows c.args.now rest c.parts.keep found c.sorted.result c.sorted.ensures.same start)
    (before.6 rows over) c.append_common-in-Ok-append_primitive.ensures.gains c.append_common-in-Ok-append_primitive.ensures.memory

pub gather_common-returns-in-Err-append_primitive-clause-appends : goal.gather_common-returns-in-Err-append_primitive-clause-appends
gather_common-returns-in-Err-append_primitive-clause-appends g t c rows over = c.in-Err-append_primitive.ensures.appends rows (over_later _ _ _ _ _ _ rows c.parts.invariant.5 over)

pub gather_common-returns-in-Err-append_primitive-clause-refuses : goal.gather_common-returns-in-Err-append_primitive-clause-refuses
gather_common-returns-in-Err-append_primitive-clause-refuses g t c bytes index is = c.in-Err-append_primitive.ensures.refuses bytes index (c.parts.invariant.5 bytes index is)

pub gather_common-returns-in-Err-append_primitive-clause-stays : goal.gather_common-returns-in-Err-append_primitive-clause-stays
gather_common-returns-in-Err-append_primitive-clause-stays g t c bytes index is = c.in-Err-append_primitive.ensures.stays bytes index (c.parts.invariant.5 bytes index is)

pub gather_common-returns-in-Ok-append_primitive-clause-stays : goal.gather_common-returns-in-Ok-append_primitive-clause-stays
gather_common-returns-in-Ok-append_primitive-clause-stays g t c bytes index is = c.in-Ok-append_primitive.ensures.stays bytes index (c.parts.invariant.5 bytes index is)
