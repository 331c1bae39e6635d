use Rattle.std.proofs.Common.{refl, sym, ap, ◌∙◌, subst, arith, rules}
use Rattle.std.proofs.lemmas.List.{with_items_is}
use Rattle.st_block.specs.Builder.{BlockBuilderView, HoldsRecords, with_record}
use Rattle.st_block.specs.contracts.builder.BlockBuilder.{the_view}
use Rattle.st_block.proofs.Adding.{record_added}
use Rattle.st_block.proofs.builder.BlockBuilder.add.Goals as goal

pub returns-clause-records : goal.returns-clause-records
returns-clause-records c = λ rs h.
    let d : BlockBuilderView = the_view c.self.inside in
    record_added d _ c.args.r rs (subst (λ x. HoldsRecords x rs) (sym c.self.view_is) h)
    (record {
      fits = search rules;
      size = refl;
      used = search rules;
      count = refl;
      last = refl;
      first_time = search rules;
      last_time = search rules;
      bytes = with_items_is c.self.inside.bytes c.put_record.new.bytes (omega (arith, c.put_record.auto.bytes, c.as_mut_slice.ensures.len)) ∙ c.put_record.ensures ∙ ap (with_record c.self.inside.count c.self.inside.last c.self.inside.used c.args.r) c.as_mut_slice.ensures.value;
    })
