use Rattle.std.proofs.Common.{◌≡◌, List, [], ◌∷◌, ◌++◌, length, ap, ◌∙◌}
use Rattle.st_base.specs.Records.{Rec}
use Rattle.st_pcap.specs.Text.{record_text}
use Rattle.steno.specs.declared.packets.Packet.{Packet}
use Rattle.steno.proofs.Buffers.{appended}
use Rattle.steno.proofs.packets.append.Goals as goal

pub returns : goal.returns
returns c =
    let r = c.args.packet.now in
    let text = c.args.text.now.items in
    let sec = ap (λ (x : Rec). x.sec) c.packet.view_is in
    let nsec = ap (λ (x : Rec). x.nsec) c.packet.view_is in
    let orig = ap (λ (x : Rec). x.orig) c.packet.view_is in
    let len = ap length (c.bytes-body.ensures ∙ ap (λ (x : Rec). x.body) c.packet.view_is) in
    let start = c.len-start.ensures ∙ (c.make_room.new.items.ok.0 ∙ ap length c.in-Ok.ensures.same) in
    let put : c.append_record.new.text.items ≡ text ++ record_text c.args.unit r =
    c.in-Ok-append_record.ensures.appended ∙ (ap (λ t. t ++ record_text c.args.unit c.lend.result) c.in-Ok.ensures.same ∙ ap (λ x. text ++ record_text c.args.unit x) c.lend.ensures.same) in
    let p : Packet = record {
      sec = c.packet.inside.sec;
      nsec = c.packet.inside.nsec;
      orig = c.packet.inside.orig;
      len = length c.bytes-body.result.now;
      start = c.len-start.result;
    } in
    appended c.args.unit r text c.args.order.now.items c.append_record.new.text.items c.push_reserved.new.self.items p put
    (c.push_reserved.ensures.items ∙ ap (λ (ps : List Packet). ps ++ p ∷ []) c.in-Ok-make_room.ensures.same)
    (λ x. record { sec = sec x; nsec = nsec x; orig = orig x; len = len x; start = start x })
