use Rattle.std.proofs.Common.{◌∙◌, arith}
use Rattle.st_tblock.proofs.Groups.{group_behind}
use Rattle.st_tblock.proofs.varint.groups_text.Goals as goal

pub groups-preserved : goal.groups-preserved
groups-preserved c =
    record {
      room = omega (arith, c.push.ensures.len);
      text = group_behind c.groups.out.items c.push.new.self.items c.groups.rest (omega arith) c.groups-test.true c.push.ensures.items ∙ c.groups.invariant.text;
    }
