use Rattle.std.proofs.Common.{[], ◌∷◌, ◌++◌, ◌∙◌, subst}
use Rattle.st_base.specs.Records.{Rec}
use Rattle.st_block.specs.Scan.{PositionedRecord, HasGiven}
use Rattle.st_block.specs.ScanView.{reached_offset}
use Rattle.st_index.specs.Maker.{HasRecords}
use Rattle.st_index.proofs.Following.{ends_within}
use Rattle.st_index.proofs.checker.packets.add_packets.Goals as goal

pub packets-preserved : goal.packets-preserved
packets-preserved g c =
    let v = c.packets.invariant in
    let e = c.in-Ok-Some.ensures in
    record {
      same_reference = e.same_reference ∙ v.same_reference;
      faults = e.cause.still ∙ v.faults;
      same = record { content = e.same.content ∙ v.same.content; extent = e.same.extent ∙ v.same.extent; beside = e.same.beside ∙ v.same.beside };
      end =
          let follows = rw c.in-Ok-Some.field-0-is at e.follows in
          ends_within c.add.new.self.end c.in-Ok-Some.position (reached_offset c.next.new.self.state) c.lend.result c.in-Ok-Some.record c.in-Ok.ensures.end c.lend.ensures.same follows.2;
      given = λ bytes told begun none.
          let (given, has, records) = v.given bytes told begun none in
          let here = v.same.content ∙ told in
          let x : PositionedRecord = (c.in-Ok-Some.position, c.in-Ok-Some.record) in
          let gives : HasGiven c.next.new.self.state bytes (given ++ x ∷ []) = rw c.in-Ok-Some.field-0-is at (e.gives bytes given here has) in
          let adds = c.in-Ok.ensures.records given records in
          (given ++ x ∷ [], gives, subst (λ (r : Rec). HasRecords c.add.new.self (given ++ (c.in-Ok-Some.position, r) ∷ [])) c.lend.ensures.same adds);
    }
