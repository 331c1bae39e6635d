use Rattle.std.proofs.Common.{ℕ, List, [], ◌∷◌, ◌++◌, arith, ap, ◌∙◌, sym}
use Rattle.st_tblock.specs.Builder.{EntryBlockView, entry_text}
use Rattle.st_tblock.specs.contracts.builder.EntryBlock.{the_view}
use Rattle.st_tblock.proofs.Sound.{appended_within, appended_again, front_size}
use Rattle.st_tblock.proofs.builder.EntryBlock.append.Goals as goal

pub invariant_of-self-then-self : goal.invariant_of-self-then-self
invariant_of-self-then-self c =
    let d : EntryBlockView = the_view c.self.inside in
    let text = c.in_ok-put_entry.ensures.ok ∙ ap (λ (xs : List ℕ). xs ++ entry_text c.args.shared c.args.key.now c.args.value.now) c.truncate.ensures.items in
    let both = appended_within d c.args.self.now c.args.key.now c.args.value.now c.split_at.result.1.now c.put_entry.new.text.items c.reserve.new.self.items _ c.len-self-inside.result c.args.shared c.self.view_is c.self.invariant.1 c.requires.shared c.requires.key c.requires.value c.requires.room c.if-self.true (omega (arith, c.len-self-inside.ensures)) text c.in_ok-reserve.ensures.items c.split_at.ensures.back c.in_ok-set_key.ensures.ok in
    (omega (arith, c.len-self-inside.ensures), both.1)

pub returns-then-self-clause-ok : goal.returns-then-self-clause-ok
returns-then-self-clause-ok c =
    let d : EntryBlockView = the_view c.self.inside in
    let text = c.in_ok-put_entry.ensures.ok ∙ ap (λ (xs : List ℕ). xs ++ entry_text c.args.shared c.args.key.now c.args.value.now) c.truncate.ensures.items in
    let both = appended_within d c.args.self.now c.args.key.now c.args.value.now c.split_at.result.1.now c.put_entry.new.text.items c.reserve.new.self.items _ c.len-self-inside.result c.args.shared c.self.view_is c.self.invariant.1 c.requires.shared c.requires.key c.requires.value c.requires.room c.if-self.true (omega (arith, c.len-self-inside.ensures)) text c.in_ok-reserve.ensures.items c.split_at.ensures.back c.in_ok-set_key.ensures.ok in
    both.0

pub invariant_of-self-2 : goal.invariant_of-self-2
invariant_of-self-2 c =
    let d : EntryBlockView = the_view c.self.inside in
    let text = c.in_ok-put_entry.ensures.ok ∙ ap (λ (xs : List ℕ). xs ++ entry_text c.args.shared c.args.key.now c.args.value.now) c.truncate.ensures.items in
    let restarts = c.push_reserved.ensures ∙ ap (λ (ns : List ℕ). ns ++ c.self.inside.entries ∷ []) c.in_ok-reserve.ensures.items in
    let at = sym (front_size c.self.inside.entries c.self.inside.text.items c.self.invariant.0) in
    let both = appended_again d c.args.self.now c.args.key.now c.args.value.now c.split_at.result.1.now c.put_entry.new.text.items c.push_reserved.new.restarts.items _ c.len-self-inside-2.result c.args.shared c.self.inside.entries c.self.view_is c.self.invariant.1 c.requires.shared c.requires.key c.requires.value c.requires.room c.if-self.false (omega (arith, c.len-self-inside-2.ensures)) text restarts at c.split_at.ensures.back c.in_ok-set_key.ensures.ok in
    (omega (arith, c.len-self-inside-2.ensures), both.1)

pub returns-clause-ok : goal.returns-clause-ok
returns-clause-ok c =
    let d : EntryBlockView = the_view c.self.inside in
    let text = c.in_ok-put_entry.ensures.ok ∙ ap (λ (xs : List ℕ). xs ++ entry_text c.args.shared c.args.key.now c.args.value.now) c.truncate.ensures.items in
    let restarts = c.push_reserved.ensures ∙ ap (λ (ns : List ℕ). ns ++ c.self.inside.entries ∷ []) c.in_ok-reserve.ensures.items in
    let at = sym (front_size c.self.inside.entries c.self.inside.text.items c.self.invariant.0) in
    let both = appended_again d c.args.self.now c.args.key.now c.args.value.now c.split_at.result.1.now c.put_entry.new.text.items c.push_reserved.new.restarts.items _ c.len-self-inside-2.result c.args.shared c.self.inside.entries c.self.view_is c.self.invariant.1 c.requires.shared c.requires.key c.requires.value c.requires.room c.if-self.false (omega (arith, c.len-self-inside-2.ensures)) text restarts at c.split_at.ensures.back c.in_ok-set_key.ensures.ok in
    both.0
