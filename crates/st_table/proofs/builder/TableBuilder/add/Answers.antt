use Rattle.std.proofs.Common.{◌≡◌, ◌+◌, ◌<◌, ◌≤◌, ◌^◌, ℕ, List, ◌∷◌, [], ◌++◌, length, true, arith, rules, sym, subst}
use Rattle.st_tblock.specs.Block.{RowView, is_above, key_or_empty}
use Rattle.st_tblock.specs.Builder.{EntryBlockView, added, block_size}
use Rattle.st_table.specs.TableBuilderView.{TableBuilderView, room_of, next_handle, written_by}
use Rattle.st_table.specs.Builder.{Builds, IsWithinLimits, IsSteady, last_added}
use Rattle.st_table.specs.contracts.builder.TableBuilder.{the_view}
use Rattle.st_table.proofs.KeyOrder.{above_both}
use Rattle.st_table.proofs.Texts.{on_ok_three}
use Rattle.st_table.proofs.Rooms.{filled_is, filled_sound, emptied_steady, named_by, names_ok}
use Rattle.st_table.proofs.Built.{builds_small, builds_full, closed_is}
use Rattle.st_table.proofs.builder.TableBuilder.add.Goals as goal

-- the builder with the row in its data block
abbrev with_row : TableBuilderView → EntryBlockView → RowView → TableBuilderView
with_row k block r = record { block = block; index = k.index; at = k.at; spent = k.spent + room_of r }

-- it keeps below its bounds, as the row meets the conditions
row_sound : (k now : TableBuilderView) (r : RowView) (block : EntryBlockView) → k ≡ now → IsSteady k → is_above (last_added now) r.0 ≡ true → length r.0 ≤ 64 → length r.1 < 2 ^ 32 → now.spent + room_of r < 2 ^ 37 → block ≡ added k.block r.0 r.1 → IsWithinLimits (with_row k block r) × (k.at + block_size block + 5 ≤ k.spent + room_of r)
row_sound k now r block same steady above lk lv room e =
    let above_k : is_above (last_added k) r.0 ≡ true = subst (λ (q : TableBuilderView). is_above (last_added q) r.0 ≡ true) (sym same) above in
    let room_k : k.spent + room_of r < 2 ^ 37 = subst (λ (q : TableBuilderView). q.spent + room_of r < 2 ^ 37) (sym same) room in
    let sound = filled_sound k r steady above_k lk lv room_k in
    (subst IsWithinLimits (sym (filled_is k r block e)) sound.0, subst (λ (d : EntryBlockView). k.at + block_size d + 5 ≤ k.spent + room_of r) (sym e) sound.1)

pub invariant_of-self-then-size-lt-BLOCK_SIZE : goal.invariant_of-self-then-size-lt-BLOCK_SIZE
invariant_of-self-then-size-lt-BLOCK_SIZE g c =
    let sound = row_sound (the_view c.self.inside) c.args.self.now (c.args.key.now, c.args.value.now) c.add.new.self c.self.view_is c.self.invariant c.requires.above c.requires.key c.requires.value c.requires.room c.in-Ok.ensures.ok in
    record { sound = sound.0; small = omega (arith, c.size-size.ensures, c.if-size-lt-BLOCK_SIZE.true) }

pub returns-then-size-lt-BLOCK_SIZE-clause-builds : goal.returns-then-size-lt-BLOCK_SIZE-clause-builds
returns-then-size-lt-BLOCK_SIZE-clause-builds g c =
    let k : TableBuilderView = the_view c.self.inside in
    let r : RowView = (c.args.key.now, c.args.value.now) in
    let above : is_above (last_added k) r.0 ≡ true = subst (λ (q : TableBuilderView). is_above (last_added q) r.0 ≡ true) (sym c.self.view_is) c.requires.above in
    let small : block_size c.add.new.self < 4096 = omega (arith, c.size-size.ensures, c.if-size-lt-BLOCK_SIZE.true) in
    let builds = builds_small k (with_row k c.add.new.self r) r (filled_is k r c.add.new.self c.in-Ok.ensures.ok) small c.self.invariant above c.in-Ok.ensures.rows in
    subst (λ (q : TableBuilderView). (bytes : List ℕ) (rows : List RowView) → Builds q bytes rows → Builds (with_row k c.add.new.self r) (bytes ++ written_by q r) (rows ++ r ∷ [])) c.self.view_is builds

pub close-requires-clause-may : goal.close-requires-clause-may
close-requires-clause-may g c =
    let r : RowView = (c.args.key.now, c.args.value.now) in
    let k : TableBuilderView = the_view c.self.inside in
    let above : is_above (last_added k) r.0 ≡ true = subst (λ (q : TableBuilderView). is_above (last_added q) r.0 ≡ true) (sym c.self.view_is) c.requires.above in
    record {
      above = subst (λ (d : EntryBlockView). is_above k.index.last (key_or_empty d.last) ≡ true) (sym c.in-Ok.ensures.ok) (above_both k.index.last k.block.last r.0 c.self.invariant.sound.order above);
      key = search rules;
      room = search rules;
    }

pub close-requires-clause-at : goal.close-requires-clause-at
close-requires-clause-at g c =
    let sound = row_sound (the_view c.self.inside) c.args.self.now (c.args.key.now, c.args.value.now) c.add.new.self c.self.view_is c.self.invariant c.requires.above c.requires.key c.requires.value c.requires.room c.in-Ok.ensures.ok in
    let spent = sound.0.spent in
    let room = sound.1 in
    omega arith

pub invariant_of-self-2 : goal.invariant_of-self-2
invariant_of-self-2 g c =
    let k : TableBuilderView = the_view c.self.inside in
    let r : RowView = (c.args.key.now, c.args.value.now) in
    let sound = row_sound k c.args.self.now r c.add.new.self c.self.view_is c.self.invariant c.requires.above c.requires.key c.requires.value c.requires.room c.in-Ok.ensures.ok in
    let full = with_row k c.add.new.self r in
    let size : 4096 ≤ block_size c.add.new.self = omega (arith, c.size-size.ensures, c.if-size-lt-BLOCK_SIZE.false) in
    emptied_steady full c.close.new.block c.close.new.index c.close.new.at sound.0 sound.1 size c.close.ensures.next.0 c.close.ensures.next.1 (named_by c.close.result full c.close.new.index c.close.ensures.index)

pub returns-clause-builds : goal.returns-clause-builds
returns-clause-builds g c =
    let k : TableBuilderView = the_view c.self.inside in
    let r : RowView = (c.args.key.now, c.args.value.now) in
    let sound = row_sound k c.args.self.now r c.add.new.self c.self.view_is c.self.invariant c.requires.above c.requires.key c.requires.value c.requires.room c.in-Ok.ensures.ok in
    let above : is_above (last_added k) r.0 ≡ true = subst (λ (q : TableBuilderView). is_above (last_added q) r.0 ≡ true) (sym c.self.view_is) c.requires.above in
    let full = with_row k c.add.new.self r in
    let new : TableBuilderView = record { block = c.close.new.block; index = c.close.new.index; at = c.close.new.at; spent = k.spent + room_of r } in
    let size : 4096 ≤ block_size c.add.new.self = omega (arith, c.size-size.ensures, c.if-size-lt-BLOCK_SIZE.false) in
    on_ok_three c.close.result
    (λ good named index.
    let closed_up = closed_is full c.close.new.block c.close.new.index c.close.new.at sound.0 c.close.ensures.next.0 c.close.ensures.next.1 index in
    let builds = builds_full k full new r (filled_is k r c.add.new.self c.in-Ok.ensures.ok) size closed_up c.self.invariant sound.0 above c.in-Ok.ensures.rows good named in
    subst (λ (q : TableBuilderView). (bytes : List ℕ) (rows : List RowView) → Builds q bytes rows → Builds new (bytes ++ written_by q r) (rows ++ r ∷ [])) c.self.view_is builds)
    c.close.ensures.good c.close.ensures.named (names_ok c.close.result full.index c.close.new.index (key_or_empty full.block.last) (next_handle full.at (block_size full.block)) c.close.ensures.index)
