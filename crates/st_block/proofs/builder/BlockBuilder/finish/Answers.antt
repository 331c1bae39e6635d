use Rattle.std.proofs.Common.{◌≡◌, ◌≤◌, List, length, refl, sym, ap, subst, arith, ◌∙◌}
use Rattle.std.proofs.lemmas.List.{with_items_is}
use Rattle.std.specs.Vec.{with_items}
use Rattle.st_base.specs.Records.{Rec}
use Rattle.st_block.specs.BlockText.{block_head, block_text}
use Rattle.st_block.specs.Fields.{text}
use Rattle.st_block.specs.Builder.{BlockBuilderView, HoldsRecords, KeepsRecords, with_part}
use Rattle.st_block.specs.contracts.builder.BlockBuilder.{the_view}
use Rattle.st_block.proofs.Adding.{Headed, head_stays, block_finished}
use Rattle.st_block.proofs.builder.BlockBuilder.finish.Goals as goal

pub returns : goal.returns
returns c =
    let d : BlockBuilderView = the_view c.self.inside in
    let e : BlockBuilderView = record d { bytes = (with_items c.self.inside.bytes c.put_at.new.bytes).items } in
    let written : (with_items c.self.inside.bytes c.put_at.new.bytes).items ≡ c.put_at.new.bytes =
    with_items_is c.self.inside.bytes c.put_at.new.bytes (omega (arith, c.put_at.auto.bytes, c.as_mut_slice.ensures.len)) in
    let headed : Headed d e c.args.number =
    record {
      size = refl;
      used = refl;
      count = refl;
      last = refl;
      first_time = refl;
      last_time = refl;
      bytes =
          written
          ∙ c.put_at.ensures
          ∙ ap (λ h. with_part 0 h c.as_mut_slice.result.now) c.block_head_bytes-head.ensures
          ∙ ap (with_part 0 (text (block_head d.size c.args.number d.count d.used d.first_time d.last_time))) c.as_mut_slice.ensures.value;
    } in
    let from = λ (rs : List Rec) (h : HoldsRecords c.args.self.now rs). subst (λ x. HoldsRecords x rs) (sym c.self.view_is) h in
    let stays : KeepsRecords c.args.self.now e =
    subst (λ x. KeepsRecords x e) c.self.view_is (record { size = refl; used = refl; count = refl; records = λ rs h. head_stays d e c.args.number rs headed h }) in
    let some : 1 ≤ d.count = subst (λ (x : BlockBuilderView). 1 ≤ x.count) (sym c.self.view_is) c.requires.some in
    let bytes : c.as_slice.result.now ≡ e.bytes = c.as_slice.ensures.value in
    let whole : (rs : List Rec) → HoldsRecords c.args.self.now rs → c.as_slice.result.now ≡ block_text c.args.self.now.size c.args.number rs =
    λ rs h. bytes ∙ block_finished d e c.args.number rs headed some (from rs h) ∙ ap (λ (x : BlockBuilderView). block_text x.size c.args.number rs) c.self.view_is in
    let size : length c.as_slice.result.now ≡ c.args.self.now.size =
    ap length (bytes ∙ written) ∙ c.put_at.auto.bytes ∙ ap length c.as_mut_slice.ensures.value ∙ c.self.invariant.whole ∙ ap (λ (x : BlockBuilderView). x.size) c.self.view_is in
    ((refl, λ _. tt, stays), record { after = tt; text = whole; size = size })
