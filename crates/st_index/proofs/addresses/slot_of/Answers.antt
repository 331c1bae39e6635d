use Rattle.std.proofs.Common.{◌∙◌}
use Rattle.st_index.specs.declared.addresses.AddressList.{AddressList}
use Rattle.st_index.proofs.Slotting.{made}
use Rattle.st_index.proofs.addresses.slot_of.Goals as goal

pub returns-in-Ok-clause-slots : goal.returns-in-Ok-clause-slots
returns-in-Ok-clause-slots c =
    let x : AddressList = record { address = c.args.address; positions = c.new.result } in
    (made c.args.order.now c.insert.new.self c.args.lists.now.items c.push.new.self.items x c.len-slot.result c.in_ok-push.ensures.items (c.len-slot.ensures ∙ c.args.lists.now.ok.0) c.new.ensures.items c.in_default.ensures.value c.in-Ok.ensures.updates c.requires).0

pub returns-in-Ok-clause-slot : goal.returns-in-Ok-clause-slot
returns-in-Ok-clause-slot c =
    let x : AddressList = record { address = c.args.address; positions = c.new.result } in
    (made c.args.order.now c.insert.new.self c.args.lists.now.items c.push.new.self.items x c.len-slot.result c.in_ok-push.ensures.items (c.len-slot.ensures ∙ c.args.lists.now.ok.0) c.new.ensures.items c.in_default.ensures.value c.in-Ok.ensures.updates c.requires).1

pub returns-in-Ok-clause-same : goal.returns-in-Ok-clause-same
returns-in-Ok-clause-same c =
    let x : AddressList = record { address = c.args.address; positions = c.new.result } in
    (made c.args.order.now c.insert.new.self c.args.lists.now.items c.push.new.self.items x c.len-slot.result c.in_ok-push.ensures.items (c.len-slot.ensures ∙ c.args.lists.now.ok.0) c.new.ensures.items c.in_default.ensures.value c.in-Ok.ensures.updates c.requires).2
